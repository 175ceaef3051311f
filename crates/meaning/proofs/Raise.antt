-- A reading may be raised: where a node may have more, by what stands there, another reading gives it more and no node less. So may
-- the forwards that lead to it, and all the nodes that a path through a tree looks at.
use mathlib.Core.Bool.{true}
use mathlib.Core.Path.{◌≡◌, refl, sym, subst, ◌∙◌}
use mathlib.Core.List.{List, ◌++◌, map, map-append}
use Prim.Native.Nat.{◌<◌, ℕ}
use native.Mathlib.Decide.{ℕ_discrete}
use lib.ListN.{length, get_or, length-map}
use Rattle.expressions.specs.Expressions.{Expr}
use Rattle.book.specs.Trees.{Tree, Trees, tree_at}
use Rattle.book.specs.Rules.{Book}
use Rattle.nodes.specs.Nodes.{apply, choice, forward, Heap, at}
use Rattle.rewriting.specs.Rewriting.{Leads, Ends}
use Rattle.rewriting.proofs.Lists.{get_or_mapped}
use Rattle.rewriting.proofs.Steers.{Steers}
use Rattle.rewriting.proofs.Update.{update, update_same, update_other}
use Rattle.meaning.specs.Partial.{Part, Parts, bot, to_list, of_list, ◌⊑◌, Hits}
use Rattle.meaning.specs.Readings.{Side, side_of, Agrees, Reads}
use Rattle.meaning.proofs.Order.{⊑_refl, ⊑_trans, ⊑_of_eq, ⊑_con, con⊑-same, ◌⊑ˡ◌, ◌⊑ᶠ◌, ⊑ˡ_refl, ⊑ˡ_trans, variable, append_mono}
use Rattle.meaning.proofs.Order.{map_mono, to_list_mono, to_list_of_list, hits_mono, agrees_mono, agrees-constructor}
use Rattle.meaning.proofs.Order.{agrees-choice, agrees-forward}

-- The nodes in F are left out: they need not agree, and they are never raised. (Where none is left out, a reading.)
module _ (B : Book) (h : Heap) (δ : ℕ → Side) (F : ℕ → Type 0) where
  -- agreement at the other nodes
  abbrev pub ReadsBut : (ℕ → Part) → Type 0
  ReadsBut π = (m : ℕ) → ¬ F m → Agrees B δ π (at h m) (π m)

  -- a reading above π in which node n has at least p
  pub record Raised (π : ℕ → Part) (n : ℕ) (p : Part) : Type 0 where
    pub to : ℕ → Part
    pub above : π ⊑ᶠ to
    pub reads : ReadsBut to
    pub has : p ⊑ to n
    pub kept : (q : ℕ) → F q → to q ≡ π q

  -- at one node
  pub raise : {π : ℕ → Part} (m : ℕ) {p : Part} → ¬ F m → ReadsBut π → π m ⊑ p → Agrees B δ π (at h m) p → Raised π m p
  raise {π} m {p} bound reads le a = record {
    to = σ;
    above = λ q. above q (ℕ_discrete q m);
    reads = λ q. go q (ℕ_discrete q m);
    has = ⊑_of_eq (sym (update_same π m p m refl));
    kept = λ q free. update_other π m p q (λ (e : q ≡ m). bound (rw e at free));
  }
    where
      σ : ℕ → Part
      σ = update π m p

      above : (q : ℕ) → Dec (q ≡ m) → π q ⊑ σ q
      above q (yes e) = rw (update_same π m p q e, e) le
      above q (no e) = ⊑_of_eq (sym (update_other π m p q e))

      go : (q : ℕ) → Dec (q ≡ m) → ¬ F q → Agrees B δ σ (at h q) (σ q)
      go q (yes e) b = agrees_mono B δ (at h q) (λ s. above s (ℕ_discrete s m)) (⊑_of_eq (update_same π m p q e)) (rw e a)
      go q (no e) b = agrees_mono B δ (at h q) (λ s. above s (ℕ_discrete s m)) (⊑_of_eq (update_other π m p q e)) (reads q b)

  module _ (solid : (q k : ℕ) → at h q ≡ forward k → ¬ F q) where
    -- and along the forwards that lead there
    pub raise_along : {π : ℕ → Part} {n m : ℕ} {p : Part} → Leads h n m → Raised π m p → Raised π n p
    raise_along Leads.here R = R
    raise_along {π} (Leads.along {n = n} {m = m} e l) R =
        let S = raise_along l R in
        let σ = S.to in
        let T = raise n (solid n m e) S.reads ((agrees-forward B δ σ e).0 (S.reads n (solid n m e))) ((agrees-forward B δ σ e).1 (⊑_refl (σ m))) in
        record {
          to = T.to;
          above = λ q. ⊑_trans (S.above q) (T.above q);
          reads = T.reads;
          has = ⊑_trans S.has T.has;
          kept = λ q free. T.kept q free ∙ S.kept q free;
        }

    -- to a constructor, to the side of a choice
    pub raise_constructor : {π : ℕ → Part} {n m c : ℕ} {xs : List ℕ} → Leads h n m → at h m ≡ apply c xs → B.is_constructor c ≡ true → ¬ F m
        → ReadsBut π → Raised π n (Part.con c (of_list (map π xs)))
    raise_constructor {π} {m} {c} {xs} l e k bound reads =
        let full = (agrees-constructor B δ π e k).1 (⊑_refl (Part.con c (of_list (map π xs)))) in
        raise_along l (raise m bound reads ((agrees-constructor B δ π e k).0 (reads m bound)) full)

    -- to what the side taken has
    pub raise_choice : {π : ℕ → Part} {n m i y z : ℕ} → Leads h n m → at h m ≡ choice i y z → ¬ F m → ReadsBut π
        → Raised π n (π (side_of (δ i) y z))
    raise_choice {π} {m} {i} {y} {z} l e bound reads =
        raise_along l (raise m bound reads ((agrees-choice B δ π e).0 (reads m bound)) ((agrees-choice B δ π e).1 (⊑_refl (π (side_of (δ i) y z)))))

    -- the other way round: a node has no more than what its forwards lead to
    pub leads-below : (π : ℕ → Part) {n m : ℕ} → ReadsBut π → Leads h n m → π n ⊑ π m
    leads-below π {n} reads Leads.here = ⊑_refl (π n)
    leads-below π {n} reads (Leads.along {m = k} e l) = ⊑_trans ((agrees-forward B δ π e).0 (reads n (solid n k e))) (leads-below π reads l)

    -- A reading above π in which the path through t, from the variables env, hits the rule e, with at least what π has at that
    -- rule's variables env'
    pub record Followed (π : ℕ → Part) (t : Tree) (env : List ℕ) (e : Expr) (env' : List ℕ) : Type 0 where
      pub to : ℕ → Part
      pub above : π ⊑ᶠ to
      pub reads : ReadsBut to
      pub vars : List Part
      pub hits : Hits B t (map to env) e vars
      pub knows : map π env' ⊑ˡ vars
      pub kept : (q : ℕ) → F q → to q ≡ π q

    -- a branch on the way: its variable is raised to the constructor whose subtree the path goes on in
    raise_branch : {π : ℕ → Part} {x : ℕ} {ts : Trees} {env : List ℕ} {m c : ℕ} {xs : List ℕ} {e : Expr} {env' : List ℕ} → x < length env
        → Leads h (get_or env x 0) m → at h m ≡ apply c xs → B.is_constructor c ≡ true → ¬ F m
        → Followed π (tree_at ts (B.place c)) (env ++ xs) e env' → Followed π (Tree.branch x ts) env e env'
    raise_branch {π} {x} {ts} {env} {m} {c} {xs} lt l e k free S =
        let σ = S.to in
        let T = raise_constructor l e k free S.reads in
        let τ = T.to in
        let (qs, is-con, more) = ⊑_con T.has in
        let le-xs : map σ xs ⊑ˡ to_list qs = rw to_list_of_list at (to_list_mono more) in
        let le : map σ (env ++ xs) ⊑ˡ map τ env ++ to_list qs = rw map-append (append_mono (map_mono T.above env) le-xs) in
        let (vars, hits, le') = hits_mono le S.hits in
        record {
          to = τ;
          above = λ q. ⊑_trans (S.above q) (T.above q);
          reads = T.reads;
          vars = vars;
          hits = Hits.branch {ρ' = vars} (get_or_mapped τ env x 0 bot lt ∙ is-con) k hits;
          knows = ⊑ˡ_trans {rs = vars} S.knows le';
          kept = λ q free. T.kept q free ∙ S.kept q free;
        }

    -- the nodes that a path looks at may be raised so
    pub raise_path : {π : ℕ → Part} {t : Tree} {env : List ℕ} {e : Expr} {env' : List ℕ}
        → ((q c : ℕ) (xs : List ℕ) → at h q ≡ apply c xs → B.is_constructor c ≡ true → ¬ F q)
        → ReadsBut π → Steers B h t env → Ends B h t env e env' → Followed π t env e env'
    raise_path {π} {env} firm reads (Steers.rule s) Ends.rule = record {
      to = π;
      above = λ q. ⊑_refl (π q);
      reads = reads;
      vars = map π env;
      hits = Hits.rule (rw (← length-map env π) at s);
      knows = ⊑ˡ_refl (map π env);
      kept = λ q free. refl;
    }
    raise_path firm reads (Steers.branch lt next) (Ends.branch {m = m} {c = c} {xs = xs} l e k rest) =
        raise_branch lt l e k (firm m c xs e k) (raise_path firm reads (next m c xs l e k) rest)
    raise_path firm reads (Steers.exempt) x = elim x [ ]

-- Of a whole reading, where no node is left out.
abbrev pub Nowhere : ℕ → Type 0
Nowhere q = ⊥

-- a node has no more than what its forwards lead to
pub reads_below : (B : Book) (h : Heap) (δ : ℕ → Side) (π : ℕ → Part) {n m : ℕ} → Reads B h δ π → Leads h n m → π n ⊑ π m
reads_below B h δ π reads l = leads-below B h δ Nowhere (λ q k e z. z) π (λ m b. reads m) l

-- what a reading has at a branch variable, it has at the node that the variable's arrow leads to
pub sees : (B : Book) (h : Heap) (δ : ℕ → Side) (π : ℕ → Part) → Reads B h δ π → {ρ : List Part} {p : Part} {m : ℕ} (env : List ℕ) (x : ℕ)
    → ρ ⊑ˡ map π env → get_or ρ x bot ≡ p → Leads h (get_or env x 0) m → p ⊑ π m
sees B h δ π reads env x le e l = ⊑_trans (variable env x (⊑_of_eq (sym e)) π le) (reads_below B h δ π reads l)

-- so a path on partial values takes the branch that the path on the heap takes, with no more than the reading has
pub branch_taken : (B : Book) (h : Heap) (δ : ℕ → Side) (π : ℕ → Part) → Reads B h δ π → (env : List ℕ) (x : ℕ) (ts : Trees)
    → {m c d : ℕ} {xs : List ℕ} {ρ : List Part} {ps : Parts} {e : Expr} {ρ' : List Part}
    → Leads h (get_or env x 0) m → at h m ≡ apply c xs → B.is_constructor c ≡ true → ρ ⊑ˡ map π env → get_or ρ x bot ≡ Part.con d ps
    → Hits B (tree_at ts (B.place d)) (ρ ++ to_list ps) e ρ'
    → (ρ ++ to_list ps ⊑ˡ map π (env ++ xs)) × Hits B (tree_at ts (B.place c)) (ρ ++ to_list ps) e ρ'
branch_taken B h δ π reads env x ts {m} {xs = xs} {ρ = ρ} {ps = ps} {e} {ρ'} l is k le has hits =
    let (same, le') = con⊑-same (⊑_trans (sees B h δ π reads env x le has l) ((agrees-constructor B δ π is k).0 (reads m))) in
    let more : to_list ps ⊑ˡ map π xs = rw to_list_of_list at (to_list_mono le') in
    (rw map-append (append_mono le more), subst (λ d. Hits B (tree_at ts (B.place d)) (ρ ++ to_list ps) e ρ') same hits)
