-- A rule to fail in the place of an exempt changes no turn: at an exempt the walk says that the operation's node becomes a fail, at the rule that it is
-- rewritten to one, and both leave the same nodes.
use mathlib.Core.Bool.{Bool, true, false}
use mathlib.Core.Path.{◌≡◌, refl, sym, ap, ◌∙◌}
use mathlib.Core.List.{List, [], ◌∷◌, ◌++◌, append-nil}
use Prim.Native.Nat.{ℕ, zero, suc}
use lib.Dec.{leb}
use lib.ListN.{get_or, set}
use Rattle.limits.specs.Sizes.{most_arrivals, most_depth}
use Rattle.limits.specs.Lent.{Entry}
use Rattle.expressions.specs.Expressions.{Expr}
use Rattle.book.specs.Trees.{Tree, Trees}
use Rattle.book.specs.Rules.{Book}
use Rattle.nodes.specs.Nodes.{Node, apply, choice, fail, forward, Heap, at}
use Rattle.nodes.specs.Forwards.{follow}
use Rattle.nodes.specs.Steps.{failed}
use Rattle.machine.specs.Made.{place, rewritten}
use Rattle.machine.specs.FirstLook.{Seen, some_fail, first_choice, neither, first_look}
use Rattle.machine.specs.Walk.{Slot, Found, finished, goes, fails, rewrites, pulls, far, arrow_at, slots_of, arrive, decide, children, construct, steer}
use Rattle.machine.specs.Walk.{steer_at, walk_in, walk}
use Rattle.machine.specs.Turn.{Rooms, State, Ended, Turned, whole, refused, split, answered, stepped, done, turn_at, turn, after, turns}

-- two trees, the second of which may have a rule to fail where the first has an exempt
mutual
  pub data Tamed : Tree → Tree → Type 0 where
    exempt : Tamed Tree.exempt Tree.exempt
    spot : Tamed Tree.exempt (Tree.rule Expr.fail)
    rule : {e : Expr} → Tamed (Tree.rule e) (Tree.rule e)
    branch : {x : ℕ} {ts us : Trees} → TamedRow ts us → Tamed (Tree.branch x ts) (Tree.branch x us)

  pub data TamedRow : Trees → Trees → Type 0 where
    none : TamedRow Trees.no_trees Trees.no_trees
    more : {t u : Tree} {ts us : Trees} → Tamed t u → TamedRow ts us → TamedRow (Trees.more_trees t ts) (Trees.more_trees u us)

-- two walks find the same, but for such a spot
data Like : Found → Found → Type 0 where
  same : {x : Found} → Like x x
  spot : {n : ℕ} {vs : List Slot} → Like (fails n) (rewrites n Expr.fail vs)

-- the walk arrives in both or in none
arrive_like : (arrivals below : ℕ) {f g : ℕ → ℕ → Found} → ((a b : ℕ) → Like (f a b) (g a b)) → Like (arrive arrivals below f) (arrive arrivals below g)
unfolding arrive
arrive_like arrivals zero h = same
arrive_like arrivals (suc below) {f} {g} h = by (leb most_arrivals arrivals)
  where
    by : (t : Bool) → Like (elim t [ true ↦ far | false ↦ f (suc arrivals) below ]) (elim t [ true ↦ far | false ↦ g (suc arrivals) below ])
    by true = same
    by false = h (suc arrivals) below

-- a child decides in both or in none
decide_like : {x y : Found} {f g : ℕ → Found} → Like x y → ((a : ℕ) → Like (f a) (g a)) → Like (decide x f) (decide y g)
unfolding decide
decide_like {f} {g} (same {x}) h = by x
  where
    by : (z : Found) → Like (decide z f) (decide z g)
    by (finished a) = h a
    by goes = same
    by (fails n) = same
    by (rewrites n e vs) = same
    by (pulls n j i l r) = same
    by far = same
decide_like spot h = spot

-- Two books with the same constructors, whose operations have such trees.
module _ (C : ℕ → Bool) (P : ℕ → ℕ) (T U : ℕ → Tree) (tamed : (f : ℕ) → C f ≡ false → Tamed (T f) (U f)) where
  abbrev old : Book
  old = record { is_constructor = C; place = P; tree = T }

  abbrev new : Book
  new = record { is_constructor = C; place = P; tree = U }

  module _ (h : Heap) (into into' : ℕ → ℕ → ℕ → Found) (ih : (a b n : ℕ) → Like (into a b n) (into' a b n)) where
    children_like : (xs : List ℕ) (arrivals below : ℕ) → Like (children old h into xs arrivals below) (children new h into' xs arrivals below)
    unfolding children
    children_like [] arrivals below = same
    children_like (x ∷ xs) arrivals below = arrive_like arrivals below λ a b. decide_like (ih a b (follow h x)) λ a'. children_like xs a' below

    construct_like : (seen : Seen) (n : ℕ) (xs : List ℕ) (arrivals below : ℕ)
        → Like (construct old h into seen n xs arrivals below) (construct new h into' seen n xs arrivals below)
    unfolding construct
    construct_like some_fail n xs arrivals below = same
    construct_like (first_choice j i l r) n xs arrivals below = same
    construct_like neither n xs arrivals below = children_like xs arrivals below

    mutual
      unfolding steer

      steer_like : {t u : Tree} → Tamed t u → (n : ℕ) (vs : List Slot) (arrivals : ℕ)
          → Like (steer old h into t n vs arrivals) (steer new h into' u n vs arrivals)
      steer_like Tamed.exempt n vs arrivals = same
      steer_like Tamed.spot n vs arrivals = spot
      steer_like Tamed.rule n vs arrivals = same
      steer_like (Tamed.branch {x} {ts} {us} row) n vs arrivals =
          arrive_like arrivals v.below λ a b. by a b (at h m) (λ k xs. steer_at_like row k n (vs ++ slots_of m b xs) a)
        where
          v : Slot
          v = get_or vs x (record { holder = 0; slot = 0; below = 0 })

          m : ℕ
          m = follow h (arrow_at h v)

          by : (a b : ℕ) (y : Node)
              → ((k : ℕ) (xs : List ℕ) → Like (steer_at old h into ts k n (vs ++ slots_of m b xs) a) (steer_at new h into' us k n (vs ++ slots_of m b xs) a))
              → Like (elim y [
                | fail ↦ fails n
                | forward k ↦ fails n
                | choice i l r ↦ pulls v.holder v.slot i l r
                | apply f xs ↦ elim (C f) [ true ↦ steer_at old h into ts (P f) n (vs ++ slots_of m b xs) a | false ↦ into a b m ]
              ]) (elim y [
                | fail ↦ fails n
                | forward k ↦ fails n
                | choice i l r ↦ pulls v.holder v.slot i l r
                | apply f xs ↦ elim (C f) [ true ↦ steer_at new h into' us (P f) n (vs ++ slots_of m b xs) a | false ↦ into' a b m ]
              ])
          by a b fail r = same
          by a b (forward k) r = same
          by a b (choice i l r') r = same
          by a b (apply f xs) r = go (C f)
            where
              go : (t : Bool) → Like (elim t [ true ↦ steer_at old h into ts (P f) n (vs ++ slots_of m b xs) a | false ↦ into a b m ])
                  (elim t [ true ↦ steer_at new h into' us (P f) n (vs ++ slots_of m b xs) a | false ↦ into' a b m ])
              go true = r (P f) xs
              go false = ih a b m

      steer_at_like : {ts us : Trees} → TamedRow ts us → (k n : ℕ) (vs : List Slot) (arrivals : ℕ)
          → Like (steer_at old h into ts k n vs arrivals) (steer_at new h into' us k n vs arrivals)
      steer_at_like TamedRow.none k n vs arrivals = same
      steer_at_like (TamedRow.more first row) zero n vs arrivals = steer_like first n vs arrivals
      steer_at_like (TamedRow.more first row) (suc k) n vs arrivals = steer_at_like row k n vs arrivals

  -- the walk
  walk_in_like : (bound : ℕ) (h : Heap) (arrivals below n : ℕ) → Like (walk_in bound old h arrivals below n) (walk_in bound new h arrivals below n)
  unfolding walk_in
  walk_in_like zero h arrivals below n = same
  walk_in_like (suc bound) h arrivals below n = by (at h n) (λ a b m. walk_in_like bound h a b m)
    where
      by : (y : Node) → ((a b m : ℕ) → Like (walk_in bound old h a b m) (walk_in bound new h a b m))
          → Like (elim y [
            | fail ↦ goes
            | forward k ↦ goes
            | choice i l r ↦ goes
            | apply f xs ↦ elim (C f) [
              | true ↦ construct old h (walk_in bound old h) (first_look h 0 xs) n xs arrivals below
              | false ↦ steer old h (walk_in bound old h) (T f) n (slots_of n below xs) arrivals
            ]
          ]) (elim y [
            | fail ↦ goes
            | forward k ↦ goes
            | choice i l r ↦ goes
            | apply f xs ↦ elim (C f) [
              | true ↦ construct new h (walk_in bound new h) (first_look h 0 xs) n xs arrivals below
              | false ↦ steer new h (walk_in bound new h) (U f) n (slots_of n below xs) arrivals
            ]
          ])
      by fail ih = same
      by (forward k) ih = same
      by (choice i l r) ih = same
      by (apply f xs) ih = go (C f) refl
        where
          go : (t : Bool) → C f ≡ t → Like (elim t [
            | true ↦ construct old h (walk_in bound old h) (first_look h 0 xs) n xs arrivals below
            | false ↦ steer old h (walk_in bound old h) (T f) n (slots_of n below xs) arrivals
          ]) (elim t [
            | true ↦ construct new h (walk_in bound new h) (first_look h 0 xs) n xs arrivals below
            | false ↦ steer new h (walk_in bound new h) (U f) n (slots_of n below xs) arrivals
          ])
          go true c = construct_like h (walk_in bound old h) (walk_in bound new h) ih (first_look h 0 xs) n xs arrivals below
          go false c = steer_like h (walk_in bound old h) (walk_in bound new h) ih (tamed f c) n (slots_of n below xs) arrivals

  module _ (room : Rooms) where
    -- what was found, done: a node rewritten to a fail is a node made a fail
    done-same : (s : State) (rest : List Entry) (e : Entry) (n : ℕ) {x y : Found} → Like x y → done old room s rest e n x ≡ done new room s rest e n y
    unfolding done place rewritten failed answered stepped
    done-same s rest e n (same {x}) = by x
      where
        by : (x : Found) → done old room s rest e n x ≡ done new room s rest e n x
        by (finished a) = refl
        by goes = refl
        by (fails m) = refl
        by (rewrites m w vs) = refl
        by (pulls m j i l r) = refl
        by far = refl
    done-same s rest e n (spot {n = m} {vs}) = ap (λ (h : Heap). stepped new room s rest e h s.choices) (sym (append-nil (set s.heap m fail)))

    turn-same : (s : State) (e : Entry) (rest : List Entry) → turn old room s e rest ≡ turn new room s e rest
    unfolding turn turn_at walk split
    turn-same s e rest = by (at s.heap n)
      where
        n : ℕ
        n = follow s.heap e.root

        by : (y : Node) → turn_at old room s rest e n y ≡ turn_at new room s rest e n y
        by fail = refl
        by (forward m) = refl
        by (choice i l r) = refl
        by (apply f xs) = done-same s rest e n (walk_in_like (suc most_depth) s.heap 1 most_depth n)

    -- so all turns come to the same
    pub turns_same : (fuel : ℕ) (s : State) → turns old room fuel s ≡ turns new room fuel s
    unfolding turns after
    turns_same zero s = refl
    turns_same (suc fuel) s = by s.waiting (λ t. turns_same fuel t)
      where
        by : (l : List Entry) → ((t : State) → turns old room fuel t ≡ turns new room fuel t)
            → ◌≡◌ {A = Ended} (elim l [ [] ↦ record { number = 0; state = s } | e ∷ rest ↦ after (turn old room s e rest) s (λ t. turns old room fuel t) ])
            (elim l [ [] ↦ record { number = 0; state = s } | e ∷ rest ↦ after (turn new room s e rest) s (λ t. turns new room fuel t) ])
        by [] ih = refl
        by (e ∷ rest) ih = ap (λ (t : Turned). after t s (λ u. turns old room fuel u)) (turn-same s e rest) ∙ go (turn new room s e rest)
          where
            go : (t : Turned) → after t s (λ u. turns old room fuel u) ≡ after t s (λ u. turns new room fuel u)
            go (whole u) = ih u
            go (refused c) = refl
