-- A walk from a node that has a whole value in some reading goes only to nodes of which that reading says something: where it finds a node to be
-- made a fail or to be rewritten, it is such a node.
use mathlib.Core.Bool.{Bool, true, false}
use mathlib.Core.Path.{◌≡◌, refl}
use mathlib.Core.Logic.{◌⊎◌, inl, inr, ◌≢◌}
use mathlib.Core.List.{List, [], ◌∷◌, ◌++◌, map, map-append}
use Prim.Native.Nat.{ℕ, zero, suc, ◌<◌}
use native.Mathlib.Omega.{arith}
use lib.ListN.{length, get_or, length-map}
use Rattle.limits.specs.Sizes.{most_depth}
use Rattle.expressions.specs.Expressions.{Expr}
use Rattle.book.specs.Trees.{Tree, tree_at}
use Rattle.book.specs.Rules.{Book}
use Rattle.nodes.specs.Nodes.{Node, apply, choice, fail, forward, Heap, at}
use Rattle.nodes.specs.Forwards.{follow}
use Rattle.machine.specs.FirstLook.{Seen, some_fail, first_choice, neither, first_look}
use Rattle.machine.specs.Walk.{Slot, Found, arrow_at, slots_of, decide, children, construct, steer, steer_at, walk_in, walk}
use Rattle.rewriting.specs.Rewriting.{Leads, Value, Values, con, more_values}
use Rattle.rewriting.specs.Lists.{All, more}
use Rattle.rewriting.proofs.Lists.{get_or_mapped}
use Rattle.meaning.specs.Partial.{Part, bot, to_list, of_list, ◌⊑◌, ◌⊑*◌, more⊑, Hits}
use Rattle.meaning.specs.Readings.{Side, OperationGives, Reads, whole, wholes}
use Rattle.meaning.proofs.Order.{⊑_trans, con⊑-same, con≢bot, ◌⊑ˡ◌, ⊑ˡ_refl, ⊑ˡ_length, append_mono, to_list_mono, to_list_of_list}
use Rattle.meaning.proofs.Order.{agrees-operation, agrees-constructor}
use Rattle.meaning.proofs.Raise.{reads_below, sees}
use Rattle.meaning.proofs.Entries.{opened}
use Rattle.meaning.proofs.Demanded.{get_or_inside}
use Rattle.meaning.proofs.Follows.{follow-leads}
use Rattle.meaning.proofs.Walks.{more-arrows, steer_at-is, found_as, Applies, neither-seen, arrive-so}

-- a whole value is more than nothing
pub whole_something : (v : Value) {p : Part} → whole v ⊑ p → p ≢ bot
unfolding whole
whole_something (con c vs) le e = con≢bot (rw e at le)

-- the step that was found is at a node of which π says something
abbrev pub Wanted : (ℕ → Part) → Found → Type 0
Wanted π (Found.finished a) = Unit {0}
Wanted π Found.goes = Unit {0}
Wanted π (Found.fails m) = π m ≢ bot
Wanted π (Found.rewrites m e vs) = π m ≢ bot
Wanted π (Found.pulls m j i l r) = Unit {0}
Wanted π Found.far = Unit {0}

module _ (B : Book) (h : Heap) (δ : ℕ → Side) (π : ℕ → Part) (reads : Reads B h δ π) where
  -- what is known of an application of f at node m: something, and of a constructor a whole value
  abbrev Known : ℕ → ℕ → Type 0
  Known f m = (π m ≢ bot) × (B.is_constructor f ≡ true → (w : Value) × whole w ⊑ π m)

  -- a node with a whole value is known so
  known : (f m : ℕ) (w : Value) → whole w ⊑ π m → Known f m
  known f m w le = (whole_something w le, λ c. (w, le))

  -- `into` walks into applications of which so much is known
  abbrev IntoWanted : (ℕ → ℕ → ℕ → Found) → Type 0
  IntoWanted into = (a b m f : ℕ) (xs : List ℕ) → at h m ≡ apply f xs → Known f m → Wanted π (into a b m)

  module _ (into : ℕ → ℕ → ℕ → Found) (into-wanted : IntoWanted into) where
    -- what is found at a child, and if it is finished at those that follow
    onward : (y : Found) (k : ℕ → Found) → Wanted π y → ((a : ℕ) → Wanted π (k a)) → Wanted π (decide y k)
    unfolding decide
    onward (Found.finished a) k u f = f a
    onward Found.goes k u f = tt
    onward (Found.fails m) k u f = u
    onward (Found.rewrites m e env) k u f = u
    onward (Found.pulls m j i l r) k u f = tt
    onward Found.far k u f = tt

    -- the children of a constructor, each an apply with a whole value
    children_wanted : (xs : List ℕ) (vs : Values) (arrivals below : ℕ) → All (Applies h) xs → wholes vs ⊑* of_list (map π xs)
        → Wanted π (children B h into xs arrivals below)
    unfolding children whole of_list
    children_wanted [] vs arrivals below applies le = tt
    children_wanted (x ∷ xs) (more_values v vs) arrivals below (more (f, ys, is) applies) (more⊑ le les) =
        arrive-so (Wanted π) arrivals below _ tt (λ a b. onward (into a b (follow h x)) (λ a'. children B h into xs a' below)
        (into-wanted a b (follow h x) f ys is (known f (follow h x) v (⊑_trans le (reads_below B h δ π reads (follow-leads h x)))))
        (λ a'. children_wanted xs vs a' below applies les))
    children_wanted (x ∷ xs) Rattle.rewriting.specs.Rewriting.no_values arrivals below applies le = elim le [ ]

    module _ (n : ℕ) (something : π n ≢ bot) where
      -- the operation at node n, at a place of its tree from which it hits a rule
      steer_wanted : {t : Tree} {ρ ρ' : List Part} {e : Expr} → Hits B t ρ e ρ' → (vs : List Slot) (arrivals : ℕ)
          → ρ ⊑ˡ map π (map (λ v. arrow_at h v) vs) → Wanted π (steer B h into t n vs arrivals)
      unfolding steer
      steer_wanted (Hits.rule s) vs arrivals le = something
      steer_wanted (Hits.branch {x} {c} {ts} {ρ} {ps} e k hits) vs arrivals le =
          arrive-so (Wanted π) arrivals v.below _ tt (λ a b. go a b (at h m) refl (λ ws. steer_wanted hits ws a))
        where
          none_such : Slot
          none_such = record { holder = 0; slot = 0; below = 0 }

          v : Slot
          v = get_or vs x none_such

          m : ℕ
          m = follow h (arrow_at h v)

          env : List ℕ
          env = map (λ v. arrow_at h v) vs

          inside : x < length vs
          inside = rw (⊑ˡ_length le, length-map, length-map) at (get_or_inside ρ x e)

          leads : Leads h (get_or env x 0) m
          leads = rw (get_or_mapped (λ v. arrow_at h v) vs x none_such 0 inside) (follow-leads h (arrow_at h v))

          seen : Part.con c ps ⊑ π m
          seen = sees B h δ π reads env x le e leads

          go : (a b : ℕ) (y : Node) → at h m ≡ y
              → ((ws : List Slot) → ρ ++ to_list ps ⊑ˡ map π (map (λ v. arrow_at h v) ws) → Wanted π (steer B h into (tree_at ts (B.place c)) n ws a))
              → Wanted π (elim y [
                | fail ↦ Found.fails n
                | choice i l r ↦ Found.pulls v.holder v.slot i l r
                | forward k ↦ Found.fails n
                | apply f xs ↦ elim (B.is_constructor f) [ true ↦ steer_at B h into ts (B.place f) n (vs ++ slots_of m b xs) a | false ↦ into a b m ]
              ])
          go a b fail is ih = something
          go a b (choice i l r) is ih = tt
          go a b (forward k) is ih = something
          go a b (apply f xs) is ih = by (B.is_constructor f) refl
            where
              by : (b' : Bool) → B.is_constructor f ≡ b'
                  → Wanted π (elim b' [ true ↦ steer_at B h into ts (B.place f) n (vs ++ slots_of m b xs) a | false ↦ into a b m ])
              by true q =
                  let (same, le') = con⊑-same (⊑_trans seen ((agrees-constructor B δ π is q).0 (reads m))) in
                  let grown : ρ ++ to_list ps ⊑ˡ map π (map (λ v. arrow_at h v) (vs ++ slots_of m b xs)) =
                  rw (more-arrows h m b f xs is vs, map-append) (append_mono le (rw to_list_of_list at (to_list_mono le'))) in
                  rw (← same, steer_at-is) (ih (vs ++ slots_of m b xs) grown)
              by false q = into-wanted a b m f xs is ((λ z. con≢bot (rw z at seen)), λ t. absurd (let z : ◌≡◌ {A = ℕ} 0 1 = cc in omega arith))

  -- a walk into an application of which so much is known, however deep it may go
  walk_in_wanted : (d : ℕ) → IntoWanted (walk_in d B h)
  unfolding walk_in construct
  walk_in_wanted zero arrivals below n f xs is some = tt
  walk_in_wanted (suc d) arrivals below n f xs is some = rw (is, walk_in) (by (B.is_constructor f) refl (walk_in_wanted d))
    where
      into : ℕ → ℕ → ℕ → Found
      into a b m = walk_in d B h a b m

      -- a constructor, by what the first look at its children sees
      constructs : (seen : Seen) → first_look h 0 xs ≡ seen → B.is_constructor f ≡ true → IntoWanted into
          → Wanted π (construct B h into seen n xs arrivals below)
      constructs some_fail e c ih = tt
      constructs (first_choice j i l r) e c ih = tt
      constructs neither e c ih =
          let (w, le) = some.1 c in
          let (vs, q, les) = opened B h δ π reads w Leads.here is c le in
          children_wanted into ih xs vs arrivals below (neither-seen h 0 xs e) les

      -- an operation hits a rule
      operates : IntoWanted into → (π n ≡ bot) ⊎ OperationGives B f (map π xs) (π n)
          → Wanted π (steer B h into (B.tree f) n (slots_of n below xs) arrivals)
      operates ih (inl z) = absurd (some.0 z)
      operates ih (inr o) =
          let arrows : map (λ v. arrow_at h v) (slots_of n below xs) ≡ xs = more-arrows h n below f xs is [] in
          steer_wanted into ih n some.0 o.hits (slots_of n below xs) arrivals (rw arrows (⊑ˡ_refl (map π xs)))

      -- whether it is a constructor
      by : (b : Bool) → B.is_constructor f ≡ b → IntoWanted into → Wanted π (found_as B h into n f xs arrivals below b)
      by true c ih = constructs (first_look h 0 xs) refl c ih
      by false c ih = operates ih ((agrees-operation B δ π is c).0 (reads n))

  -- THE WALK into an application with a whole value
  pub walk_wanted : (n : ℕ) {f : ℕ} {xs : List ℕ} → at h n ≡ apply f xs → (v : Value) → whole v ⊑ π n → Wanted π (walk B h n)
  unfolding walk
  walk_wanted n {f} {xs} is v le = walk_in_wanted (suc most_depth) 1 most_depth n f xs is (known f n v le)
