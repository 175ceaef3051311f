-- The walk down the nodes of which a reading says something. Each leads to a constructor, or to a node where a step can be made:
-- the paths are finite, and an operation's path through its tree, on partial values, is its path on the heap.
use mathlib.Core.Bool.{true, false}
use mathlib.Core.Path.{◌≡◌, refl, sym, ◌∙◌}
use mathlib.Core.Logic.{◌⊎◌, inl, inr, ⊎_elim}
use mathlib.Core.List.{List, [], ◌∷◌, ◌++◌, map, map-append}
use Prim.Native.Nat.{ℕ, zero, suc, ◌<◌}
use native.Mathlib.Omega.{arith}
use lib.ListN.{length, get_or, length-map}
use Rattle.expressions.specs.Expressions.{Expr}
use Rattle.book.specs.Trees.{Tree}
use Rattle.book.specs.Rules.{Book}
use Rattle.nodes.specs.Nodes.{Node, Heap, at}
use Rattle.rewriting.specs.Rewriting.{Leads, Ends, Value, Values, no_values, more_values, IsValue, AreValues}
use Rattle.rewriting.specs.Lists.{All}
use Rattle.rewriting.proofs.Lists.{all-at, all_append}
use Rattle.meaning.specs.Partial.{Part, Parts, bot, con, to_list, ◌⊑◌, ◌⊑*◌, con⊑, Hits, Gives}
use Rattle.meaning.specs.Readings.{Side, side_of, AgreesIn, whole, wholes}
use Rattle.meaning.proofs.Order.{⊑_refl, ⊑_of_eq, ⊑_trans, ⊑_con, ◌⊑ˡ◌, ◌∷⊑◌, ⊑ˡ_length, ⊑ˡ_refl, variable, append_mono, gives_mono}
use Rattle.rewriting.specs.Paths.{Arrow, argument, target, Finite, finite}
use Rattle.meaning.proofs.Finite.{every}
use Rattle.meaning.proofs.Measure.{below_row}

-- what stands for a constructor is a variable that is there
pub get_or_inside : (ρ : List Part) (x : ℕ) {c : ℕ} {ps : Parts} → get_or ρ x bot ≡ con c ps → x < length ρ
get_or_inside [] x e = let z : ◌≡◌ {A = ℕ} 0 1 = cc in omega arith
get_or_inside (p ∷ ρ) zero e = omega arith
get_or_inside (p ∷ ρ) (suc x) e = let l = get_or_inside ρ x e in omega arith

-- δ and π are the sides and the partial values of a reading, σ the sizes of its derivations.
module _ (B : Book) (h : Heap) (δ : ℕ → Side) (π : ℕ → Part) (σ : ℕ → ℕ) where
  -- a node where a step can be made, with what its derivation says
  pub data Redex : Type 0 where
    chosen : (n : ℕ) {i l r : ℕ} → at h n ≡ Node.choice i l r → 0 < σ n → π n ⊑ π (side_of (δ i) l r) → Redex
    ruled : (n : ℕ) {f t : ℕ} {xs env : List ℕ} {e : Expr} → at h n ≡ Node.apply f xs → B.is_constructor f ≡ false
        → Ends B h (B.tree f) xs e env
        → t < σ n → Gives B t e (map π env) (π n) → Redex

  -- forwards followed, node n is a constructor c whose arguments have at least the partial values ps
  record Headed (n c : ℕ) (ps : Parts) : Type 0 where
    node : ℕ
    arguments : List ℕ
    leads : Leads h n node
    is : at h node ≡ Node.apply c arguments
    constructor : B.is_constructor c ≡ true
    above : to_list ps ⊑ˡ map π arguments

  -- a constructor is found, or a step, if more than nothing is known of the node
  abbrev Settled : ℕ → Type 0
  Settled n = (c : ℕ) (ps : Parts) → con c ps ⊑ π n → Redex ⊎ Headed n c ps

  -- arrows lead from the one node to the other
  data Reach : ℕ → ℕ → Type 0 where
    here : {n : ℕ} → Reach n n
    over : {n x m : ℕ} → Arrow x (at h n) → Reach x m → Reach n m

  -- so it is for all nodes below
  abbrev Calm : ℕ → Type 0
  Calm n = (m : ℕ) → Reach n m → Settled m

  -- forwards are arrows, too
  reach_leads : {n m x : ℕ} → Leads h n m → Reach m x → Reach n x
  reach_leads Leads.here r = r
  reach_leads (Leads.along {n} {m} e l) r = over {n = n} {x = m} (rw e target) (reach_leads l r)

  -- the path through a tree on partial values is one on the heap, or it meets a step
  follow : {t : Tree} {ρ ρ' : List Part} {e : Expr} → Hits B t ρ e ρ' → (env : List ℕ) → ρ ⊑ˡ map π env → All Calm env
      → Redex ⊎ ((env' : List ℕ) × Ends B h t env e env' × (ρ' ⊑ˡ map π env'))
  follow (Hits.rule s) env le calm = inr (env, Ends.rule, le)
  follow (Hits.branch {x} {c} {ts} {ρ} {ps} e t hits) env le calm =
      let l : x < length env = rw (⊑ˡ_length le ∙ length-map env π) at (get_or_inside ρ x e) in
      let there : Calm (get_or env x 0) = all-at 0 x calm l in
      ⊎_elim inl
      (λ (d : Headed (get_or env x 0) c ps). ⊎_elim inl (λ r. inr (r.0, Ends.branch d.leads d.is d.constructor r.1, r.2))
      (follow hits (env ++ d.arguments) (rw map-append (append_mono le d.above))
      (all_append calm (every d.arguments λ y i m r. there m (reach_leads d.leads (over {n = d.node} {x = y} (rw d.is (argument i)) r))))))
      (there (get_or env x 0) here c ps (variable env x (⊑_of_eq (sym e)) π le))

  -- two constructors, of which one says no more, are the same
  same_head : {c c' : ℕ} {ps qs : Parts} → con c ps ⊑ con c' qs → (c' ≡ c) × (ps ⊑* qs)
  same_head (con⊑ le) = (refl, le)

  module _ (agrees : (m : ℕ) → AgreesIn B δ π (σ m) (at h m) (π m)) where
    -- a node is settled if all below it are
    settle : (n : ℕ) → ((x : ℕ) → Arrow x (at h n) → Calm x) → Settled n
    settle n below c ps le = go (at h n) (π n) refl refl (agrees n) le
      where
        go : (x : Node) (p : Part) → at h n ≡ x → π n ≡ p → AgreesIn B δ π (σ n) x p → con c ps ⊑ p → Redex ⊎ Headed n c ps
        go x p e q AgreesIn.idle le = let u = ⊑_con le in let z : ◌≡◌ {A = ℕ} 0 1 = cc u.1 in absurd (omega arith)
        go x p e q (AgreesIn.constructor {xs} t a) le =
            let u = same_head (⊑_trans le a) in
            inr (record { node = n; arguments = xs; leads = Leads.here; is = rw u.0 at e; constructor = rw u.0 at t; above = below_row (map π xs) u.1 })
        go x p e q (AgreesIn.operation {xs} op o l) le =
            ⊎_elim inl (λ r. inl (ruled n e op r.1 l (rw q (gives_mono o.gives r.2 (⊑_refl _)))))
            (follow o.hits xs (⊑ˡ_refl (map π xs)) (every xs λ y i. below y (rw e (argument i))))
        go x p e q (AgreesIn.choice z a) le = inl (chosen n e z (rw q a))
        go x p e q (AgreesIn.forward {m} a) le =
            ⊎_elim inl (λ (d : Headed m c ps). inr (record {
              node = d.node;
              arguments = d.arguments;
              leads = Leads.along e d.leads;
              is = d.is;
              constructor = d.constructor;
              above = d.above;
            }))
            (below m (rw e target) m here c ps (⊑_trans le a))

    -- so all are, from a node whose paths end
    calm : {n : ℕ} → Finite h n → Calm n
    calm {n} (finite f) m here = settle n (λ x a. calm (f x a))
    calm (finite f) m (over a r) = calm (f _ a) m r

    -- paths end from every node below
    reach_finite : {n m : ℕ} → Finite h n → Reach n m → Finite h m
    reach_finite g here = g
    reach_finite (finite f) (over a r) = reach_finite (f _ a) r

    -- a node that has a whole value for its partial value is that value, unless a step can be made
    mutual
      unfolding whole to_list

      pub value : (v : Value) (n : ℕ) → Finite h n → whole v ⊑ π n → Redex ⊎ IsValue B h n v
      value (Value.con c vs) n g le =
          ⊎_elim inl
          (λ (d : Headed n c (wholes vs)). ⊎_elim inl (λ a. inr (IsValue.value d.leads d.is d.constructor a))
          (values vs d.arguments (every d.arguments λ y i. reach_finite g (reach_leads d.leads (over {n = d.node} {x = y} (rw d.is (argument i)) here))) d.above))
          (calm g n here c (wholes vs) le)

      pub values : (vs : Values) (xs : List ℕ) → All (Finite h) xs → to_list (wholes vs) ⊑ˡ map π xs → Redex ⊎ AreValues B h xs vs
      values no_values [] g le = inr AreValues.none
      values (more_values v vs) (x ∷ xs) (All.more g gs) (le ∷⊑ les) =
          ⊎_elim inl (λ a. ⊎_elim inl (λ r. inr (AreValues.more a r)) (values vs xs gs les)) (value v x g le)
      values no_values (x ∷ xs) g le = elim le [ ]
      values (more_values v vs) [] g le = elim le [ ]
