-- Nodes that are not marked dropped and the rest moved down (request L10): nodes stay turnable, if what a marked node's arrows lead to is marked.
use mathlib.Core.Bool.{true, false}
use mathlib.Core.Path.{◌≡◌, refl, ap, subst}
use mathlib.Core.List.{List, [], ◌∷◌, map}
use Prim.Native.Nat.{ℕ, zero, suc, ◌<◌}
use native.Mathlib.Decide.{dec_lt}
use native.Mathlib.Omega.{arith}
use lib.ListN.{length}
use Rattle.book.specs.Rules.{Rules}
use Rattle.symbols.specs.Symbols.{Symbols}
use Rattle.nodes.specs.Nodes.{Node, apply, choice, fail, forward, Heap, at}
use Rattle.rewriting.specs.Lists.{All}
use Rattle.rewriting.specs.Heaps.{InRange, ChoicesBelow, ArrowsBelow, ChoiceBelow, AllBelow}
use Rattle.rewriting.proofs.Heaps.{at-past}
use Rattle.rewriting.specs.Paths.{In, first, later, Arrow, argument, left_side, right_side, target, Finite, finite}
use Rattle.meaning.proofs.Finite.{finite-fail, arrow-below}
use Rattle.accepted.specs.Accepted.{Along, Fits}
use Rattle.accepted.specs.Turnable.{AllEnd, TurnableNodes}
use Rattle.accepted.proofs.Asked.{Bears, Asks, Settled, settled_argued}
use Rattle.accepted.proofs.Laws.{argues_settled}
use Rattle.alike.specs.Reuse.{arrows_of, Marks, moved_to, redirected, kept_by, moved_down}
use Rattle.alike.proofs.Reached.{Marked}
use Rattle.alike.proofs.Dropped.{at-kept, moved_inside}

-- each node that is kept comes from a marked one
pub record From (ms : Marks) (m : ℕ) : Type 0 where
  pub node : ℕ
  pub marked : Marked ms node
  pub moved : moved_to ms node ≡ m

kept_from : (to : ℕ → ℕ) (ms : Marks) (h : Heap) (m : ℕ) → m < length (kept_by to ms h) → From ms m
unfolding kept_by moved_to
kept_from to [] h m lt = absurd (omega arith)
kept_from to (b ∷ ms) [] m lt = absurd (omega arith)
kept_from to (true ∷ ms) (x ∷ h) zero lt = record { node = 0; marked = refl; moved = refl }
kept_from to (true ∷ ms) (x ∷ h) (suc m) lt =
    let f = kept_from to ms h m (omega arith) in
    record { node = suc f.node; marked = f.marked; moved = ap suc f.moved }
kept_from to (false ∷ ms) (x ∷ h) m lt = let f = kept_from to ms h m lt in record { node = suc f.node; marked = f.marked; moved = f.moved }

-- ---- a node with its arrows led elsewhere

-- one of these was one of those
in_map : (to : ℕ → ℕ) (xs : List ℕ) {y : ℕ} → In y (map to xs) → (x : ℕ) × In x xs × (y ≡ to x)
in_map to (x ∷ xs) first = (x, first, refl)
in_map to (x ∷ xs) (later i) = let (x', i', is) = in_map to xs i in (x', later i', is)
in_map to [] {y = y} x' = elim x' [ ]

-- an arrow of it was one before
arrow-from : (to : ℕ → ℕ) (x : Node) {y : ℕ} → Arrow y (redirected to x) → (z : ℕ) × Arrow z x × (y ≡ to z)
unfolding redirected
arrow-from to (apply f xs) (argument i) = let (z, i', is) = in_map to xs i in (z, argument i', is)
arrow-from to (choice i l r) left_side = (l, left_side, refl)
arrow-from to (choice i l r) right_side = (r, right_side, refl)
arrow-from to (forward m) target = (m, target, refl)
arrow-from to fail {y = y} x'' = elim x'' [ ]

-- an arrow is one of the arrows
arrow_in_lem : {y : ℕ} {x : Node} → Arrow y x → In y (arrows_of x)
unfolding arrows_of
arrow_in_lem (argument i) = i
arrow_in_lem left_side = first
arrow_in_lem right_side = later first
arrow_in_lem target = first

module _ (ms : Marks) (h : Heap) (size : length ms ≡ length h) (range : InRange h)
    (closed : (n y : ℕ) → Marked ms n → In y (arrows_of (at h n)) → y < length h → Marked ms y) where
  abbrev to : ℕ → ℕ
  to = moved_to ms

  abbrev g : Heap
  g = moved_down ms h

  at_moved : (n : ℕ) → Marked ms n → at g (to n) ≡ redirected to (at h n)
  unfolding moved_down
  at_moved n mark = at-kept to ms h n size mark

  -- a marked node is there
  pub inside-moved : (n : ℕ) → Marked ms n → to n < length g
  unfolding moved_down
  inside-moved n mark = moved_inside to ms h n size mark

  -- where its arrows lead is marked
  arrow-marked : (n : ℕ) → Marked ms n → {y : ℕ} → Arrow y (at h n) → Marked ms y
  arrow-marked n mark {y} a = closed n y mark (arrow_in_lem a) (arrow-below (length h) a (range n))

  -- what holds of each marked node so redirected, and of a fail, holds of each
  each-moved : (P : Node → Type 0) → P fail → ((n : ℕ) → Marked ms n → P (redirected to (at h n))) → (m : ℕ) → P (at g m)
  unfolding moved_down
  each-moved P none each m = go (dec_lt m (length g))
    where
      go : Dec (m < length g) → P (at g m)
      go (yes lt) =
          let f = kept_from to ms h m lt in
          subst (λ q. P (at g q)) f.moved (rw (at_moved f.node f.marked) (each f.node f.marked))
      go (no ge) = rw (at-past g m (omega arith)) none

  below-moved : (x : Node) → ((y : ℕ) → Arrow y x → Marked ms y) → ArrowsBelow (length g) (redirected to x)
  unfolding redirected
  below-moved (apply f xs) marks = go xs (λ y i. marks y (argument i))
    where
      go : (xs : List ℕ) → ((y : ℕ) → In y xs → Marked ms y) → AllBelow (length g) (map to xs)
      go [] marks = All.none
      go (x ∷ xs) marks = All.more (inside-moved x (marks x first)) (go xs (λ y i. marks y (later i)))
  below-moved (choice i l r) marks = (inside-moved l (marks l left_side), inside-moved r (marks r right_side))
  below-moved fail marks = tt
  below-moved (forward m) marks = inside-moved m (marks m target)

  range_moved : InRange g
  range_moved = each-moved (ArrowsBelow (length g)) tt (λ n mark. below-moved (at h n) (λ y a. arrow-marked n mark a))

  number-moved : (k : ℕ) (x : Node) → ChoiceBelow k x → ChoiceBelow k (redirected to x)
  unfolding redirected
  number-moved k (apply f xs) c = tt
  number-moved k (choice i l r) c = c
  number-moved k fail c = tt
  number-moved k (forward m) c = tt

  numbered-moved : (k : ℕ) → ChoicesBelow k h → ChoicesBelow k g
  numbered-moved k numbered = each-moved (ChoiceBelow k) tt (λ n mark. number-moved k (at h n) (numbered n))

  -- paths end where they ended
  ends-moved : {n : ℕ} → Finite h n → Marked ms n → Finite g (to n)
  ends-moved {n} (finite f) mark = finite {n = to n} λ y a.
      let (z, a', is) = arrow-from to (at h n) (rw (at_moved n mark) at a) in
      rw is (ends-moved (f z a') (arrow-marked n mark a'))

  all-end-moved : AllEnd h → AllEnd g
  unfolding moved_down
  all-end-moved ends m = go (dec_lt m (length g))
    where
      go : Dec (m < length g) → Finite g m
      go (yes lt) = let f = kept_from to ms h m lt in rw f.moved at (ends-moved (ends f.node) f.marked)
      go (no ge) = finite-fail (at-past g m (omega arith))

  -- a node is asked for a sort if one that comes to stand there was
  module _ (S : Symbols) (settled : Settled S (Fits S h) h) where
    abbrev R : ℕ → ℕ → Type 0
    R m s = (f : From ms m) × Fits S h f.node s

    asked : (n s : ℕ) → Marked ms n → Fits S h n s → R (to n) s
    asked n s mark fits = (record { node = n; marked = mark; moved = refl }, fits)

    bears_moved : (x : Node) (s : ℕ) → ((y : ℕ) → Arrow y x → Marked ms y) → Bears S (Fits S h) x s → Bears S R (redirected to x) s
    unfolding redirected
    bears_moved (apply f xs) s marks b = b
    bears_moved (choice i l r) s marks (p, q) = (asked l s (marks l left_side) p, asked r s (marks r right_side) q)
    bears_moved fail s marks b = tt
    bears_moved (forward m) s marks b = asked m s (marks m target) b

    row_moved : {xs ss : List ℕ} → ((y : ℕ) → In y xs → Marked ms y) → Along (Fits S h) xs ss → Along R (map to xs) ss
    row_moved marks Along.none = Along.none
    row_moved marks (Along.more {x} {s} p row) = Along.more (asked x s (marks x first) p) (row_moved (λ y i. marks y (later i)) row)

    asks-moved : (x : Node) → ((y : ℕ) → Arrow y x → Marked ms y) → Asks S (Fits S h) x → Asks S R (redirected to x)
    unfolding redirected
    asks-moved (apply f xs) marks (known, row) = (known, row_moved (λ y i. marks y (argument i)) row)
    asks-moved (choice i l r) marks a = tt
    asks-moved fail marks a = tt
    asks-moved (forward m) marks a = tt

    settled_moved : Settled S R g
    settled_moved = record {
      each = λ m. (
        λ s asks. bears m s asks,
        each-moved (Asks S R) tt (λ n mark. asks-moved (at h n) (λ y a. arrow-marked n mark a) (settled.each n).1) m,
      );
    }
      where
        bears : (m s : ℕ) → R m s → Bears S R (at g m) s
        bears m s (f, fits) =
            let n = f.node in
            subst (λ q. Bears S R (at g q) s) f.moved
            (rw (at_moved n f.marked) (bears_moved (at h n) s (λ y a. arrow-marked n f.marked a) ((settled.each n).0 s fits)))

-- MOVED DOWN, nodes stay turnable
pub moved_turnable : {r : Rules} {k : ℕ} {h : Heap} (ms : Marks) → length ms ≡ length h
    → ((n y : ℕ) → Marked ms n → In y (arrows_of (at h n)) → y < length h → Marked ms y) → TurnableNodes r k h → TurnableNodes r k (moved_down ms h)
moved_turnable {r} {k} {h} ms size closed w = record {
  range = range_moved ms h size w.range closed;
  numbered = numbered-moved ms h size w.range closed k w.numbered;
  argues = record {
    rules = w.argues.rules;
    argued = settled_argued (settled_moved ms h size w.range closed r.symbols (argues_settled w.argues));
  };
  ends = all-end-moved ms h size w.range closed w.ends;
}
