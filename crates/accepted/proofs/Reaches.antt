-- The tests of nodes are right: a path of any length is found, since it may leave out what lies between two visits to a node.
use mathlib.Core.Bool.{Bool, true, false, ◌||◌}
use mathlib.Core.Path.{◌≡◌, refl}
use mathlib.Core.Logic.{◌⊎◌, inl, inr, ◌≢◌}
use mathlib.Core.List.{List, [], ◌∷◌}
use Prim.Native.Nat.{ℕ, zero, suc, ◌≤◌, ◌<◌}
use native.Mathlib.Decide.{ℕ_discrete}
use native.Mathlib.Omega.{arith}
use borrow.Author.Tests.{eqb-true, eq-eqb}
use lib.Dec.{eqb}
use lib.ListN.{length, set}
use lib.Seq.{get_or-set_other, get_or-set_same}
use Rattle.nodes.specs.Nodes.{Node, apply, choice, fail, forward, Heap, at}
use Rattle.rewriting.proofs.Heaps.{there}
use Rattle.rewriting.specs.Paths.{In, first, later, Arrow, argument, left_side, right_side, target}
use Rattle.accepted.specs.Accepted.{Path, one, more}
use Rattle.accepted.specs.Faults.{some_of, arrows_of, reaches_in, returns}
use Rattle.accepted.proofs.Circles.{solids, solids_set, solids_le, arrow-back}

-- ---- tests

-- one of two
pub or_split : (a b : Bool) → (a || b) ≡ true → (a ≡ true) ⊎ (b ≡ true)
or_split true b e = inl refl
or_split false b e = inr e

pub or_left : (a b : Bool) → a ≡ true → (a || b) ≡ true
or_left a b e = rw e refl

pub or_right : (a b : Bool) → b ≡ true → (a || b) ≡ true
or_right true b e = refl
or_right false b e = e

pub or-none : (a b : Bool) → (a || b) ≡ false → (a ≡ false) × (b ≡ false)
or-none true b e = absurd (let z : ◌≡◌ {A = ℕ} 0 1 = cc in omega arith)
or-none false b e = (refl, e)

pub none_or : (a b : Bool) → a ≡ false → b ≡ false → (a || b) ≡ false
none_or a b e f = rw (e, f) refl

-- a test that is not passed fails
pub not-passed : (a : Bool) → (a ≡ true → ⊥) → a ≡ false
not-passed true f = absurd (f refl)
not-passed false f = refl

pub not-both : (a : Bool) → a ≡ false → a ≡ true → ⊥
not-both a e f = let z : ◌≡◌ {A = ℕ} 0 1 = cc in omega arith

-- some number of a row is bad
pub some_is : (bad : ℕ → Bool) (xs : List ℕ) {m : ℕ} → In m xs → bad m ≡ true → some_of bad xs ≡ true
unfolding some_of
some_is bad (x ∷ xs) first e = or_left (bad x) (some_of bad xs) e
some_is bad (x ∷ xs) (later i) e = or_right (bad x) (some_of bad xs) (some_is bad xs i e)
some_is bad [] {m = m} x'' e = elim x'' [ ]

pub some-has : (bad : ℕ → Bool) (xs : List ℕ) → some_of bad xs ≡ true → (m : ℕ) × In m xs × (bad m ≡ true)
unfolding some_of
some-has bad [] e = absurd (let z : ◌≡◌ {A = ℕ} 0 1 = cc in omega arith)
some-has bad (x ∷ xs) e = by (or_split (bad x) (some_of bad xs) e) (some-has bad xs)
  where
    by : (bad x ≡ true) ⊎ (some_of bad xs ≡ true) → (some_of bad xs ≡ true → (m : ℕ) × In m xs × (bad m ≡ true)) → (m : ℕ) × In m (x ∷ xs) × (bad m ≡ true)
    by (inl q) ih = (x, first, q)
    by (inr q) ih = let (m, i, b) = ih q in (m, later i, b)

-- ---- the arrows of a node

pub arrow_in_lem : {m : ℕ} (x : Node) → Arrow m x → In m (arrows_of x)
unfolding arrows_of
arrow_in_lem (apply f xs) (argument i) = i
arrow_in_lem (choice i l r) left_side = first
arrow_in_lem (choice i l r) right_side = later first
arrow_in_lem (forward t) target = first
arrow_in_lem {m = m} fail x'' = elim x'' [ ]

pub in_arrow : {m : ℕ} (x : Node) → In m (arrows_of x) → Arrow m x
unfolding arrows_of
in_arrow (apply f xs) i = argument i
in_arrow (choice i l r) first = left_side
in_arrow (choice i l r) (later first) = right_side
in_arrow (forward t) first = target
in_arrow {m = m} (choice i l r) (later (later x9)) = elim x9 [ ]
in_arrow {m = m} fail i = elim i [ ]
in_arrow {m = m} (forward t) (later x7) = elim x7 [ ]

-- ---- paths

-- what is found is a path
reaches_path : (bound : ℕ) (h : Heap) (n m : ℕ) → reaches_in bound h n m ≡ true → Path h n m
unfolding reaches_in
reaches_path zero h n m e = absurd (let z : ◌≡◌ {A = ℕ} 0 1 = cc in omega arith)
reaches_path (suc bound) h n m e =
    let (x, i, q) = some-has (λ x. eqb x m || reaches_in bound h x m) (arrows_of (at h n)) e in
    by x (in_arrow (at h n) i) (or_split (eqb x m) (reaches_in bound h x m) q) (reaches_path bound h x m)
  where
    by : (x : ℕ) → Arrow x (at h n) → (eqb x m ≡ true) ⊎ (reaches_in bound h x m ≡ true) → (reaches_in bound h x m ≡ true → Path h x m) → Path h n m
    by x a (inl q) ih = one {n = n} (rw (eqb-true x m q) at a)
    by x a (inr q) ih = more {n = n} a (ih q)

-- and in more nodes it still is found
reaches_back : (bound : ℕ) (h : Heap) (z n m : ℕ) → reaches_in bound (set h z fail) n m ≡ true → reaches_in bound h n m ≡ true
unfolding reaches_in
reaches_back zero h z n m e = e
reaches_back (suc bound) h z n m e =
    let (x, i, q) = some-has (λ x. eqb x m || reaches_in bound (set h z fail) x m) (arrows_of (at (set h z fail) n)) e in
    let a : Arrow x (at h n) = arrow-back h z n (in_arrow (at (set h z fail) n) i) in
    some_is (λ x. eqb x m || reaches_in bound h x m) (arrows_of (at h n)) (arrow_in_lem (at h n) a)
    (by x (or_split (eqb x m) (reaches_in bound (set h z fail) x m) q) (reaches_back bound h z x m))
  where
    by : (x : ℕ) → (eqb x m ≡ true) ⊎ (reaches_in bound (set h z fail) x m ≡ true)
        → (reaches_in bound (set h z fail) x m ≡ true → reaches_in bound h x m ≡ true) → (eqb x m || reaches_in bound h x m) ≡ true
    by x (inl q) ih = or_left (eqb x m) (reaches_in bound h x m) q
    by x (inr q) ih = or_right (eqb x m) (reaches_in bound h x m) (ih q)

-- the end of a path to m that begins with an arrow of node n, and does not come to n again
record Last (h : Heap) (n m : ℕ) : Type 0 where
  next : ℕ
  arrow : Arrow next (at h n)
  rest : (next ≡ m) ⊎ Path (set h n fail) next m

-- a path either does not come to n, or has such an end
last : (h : Heap) (n : ℕ) {x m : ℕ} → Path h x m → Path (set h n fail) x m ⊎ Last h n m
last h n {x} {m} (one a) = by (ℕ_discrete x n)
  where
    by : Dec (x ≡ n) → Path (set h n fail) x m ⊎ Last h n m
    by (yes q) = inr (record { next = m; arrow = rw q at a; rest = inl refl })
    by (no q) = inl (one {n = x} {m = m} (rw (get_or-set_other h n x fail fail q) a))
last h n {x} {m} (more {x = y} a p) = by (ℕ_discrete x n) (last h n p)
  where
    by : Dec (x ≡ n) → Path (set h n fail) y m ⊎ Last h n m → Path (set h n fail) x m ⊎ Last h n m
    by d (inr l) = inr l
    by (yes q) (inl r) = inr (record { next = y; arrow = rw q at a; rest = inr r })
    by (no q) (inl r) = inl (more {n = x} {x = y} (rw (get_or-set_other h n x fail fail q) a) r)

-- a node with an arrow is no fail
arrow_solid : (h : Heap) (n : ℕ) {y : ℕ} → Arrow y (at h n) → at h n ≢ fail
arrow_solid h n a z = none (rw z at a)
  where
    none : {y : ℕ} → ¬ Arrow y fail
    none = elim [ ]

-- a path from n has one
last_of : (h : Heap) {n m : ℕ} → Path h n m → Last h n m
last_of h {n} {m} p = by p (last h n p)
  where
    -- where n is a fail no path begins at it
    no_path : n < length h → ¬ Path (set h n fail) n m
    no_path lt (one a) = arrow_solid (set h n fail) n a (get_or-set_same h n fail fail lt)
    no_path lt (more a q) = arrow_solid (set h n fail) n a (get_or-set_same h n fail fail lt)

    by : Path h n m → Path (set h n fail) n m ⊎ Last h n m → Last h n m
    by p (inr l) = l
    by (one a) (inl q) = absurd (no_path (there h n (arrow_solid h n a)) q)
    by (more a r) (inl q) = absurd (no_path (there h n (arrow_solid h n a)) q)

-- every path is found, with as many arrows as there are nodes that are no fails
path_reaches : (k : ℕ) (h : Heap) → solids h ≤ k → {n m : ℕ} → Path h n m → reaches_in k h n m ≡ true
unfolding reaches_in
path_reaches zero h le {n} {m} p = absurd (omega (arith, solids_set h n (arrow_solid h n (last_of h p).arrow)))
path_reaches (suc k) h le {n} {m} p =
    let l = last_of h p in
    some_is (λ x. eqb x m || reaches_in k h x m) (arrows_of (at h n)) (arrow_in_lem (at h n) l.arrow)
    (by l.next l.rest (λ q. path_reaches k (set h n fail) (omega (arith, solids_set h n (arrow_solid h n l.arrow))) q))
  where
    by : (x : ℕ) → (x ≡ m) ⊎ Path (set h n fail) x m → (Path (set h n fail) x m → reaches_in k (set h n fail) x m ≡ true) → (eqb x m || reaches_in k h x m) ≡ true
    by x (inl q) ih = or_left (eqb x m) (reaches_in k h x m) (eq-eqb x m q)
    by x (inr q) ih = or_right (eqb x m) (reaches_in k h x m) (reaches_back k h n x m (ih q))

-- RETURNS says whether a path returns to its start.
pub returns_path : (h : Heap) (n : ℕ) → returns h n ≡ true → Path h n n
unfolding returns
returns_path h n e = reaches_path (length h) h n n e

pub path_returns : (h : Heap) (n : ℕ) → Path h n n → returns h n ≡ true
unfolding returns
path_returns h n p = path_reaches (length h) h (solids_le h) p
