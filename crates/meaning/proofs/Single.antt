-- No choice number stands in two nodes, and rewriting leaves it so.
use mathlib.Core.Path.{◌≡◌, refl, sym, ap}
use mathlib.Core.Logic.{◌≢◌}
use mathlib.Core.List.{List, [], ◌∷◌, ◌++◌}
use Prim.Native.Nat.{ℕ, zero, suc, ◌+◌, ◌≤◌, ◌<◌}
use native.Mathlib.Omega.{arith}
use native.Mathlib.Decide.{ℕ_discrete, dec_lt}
use native.Mathlib.Nat.{le_refl, le_trans, suc_inj}
use lib.ListN.{length, set}
use Rattle.expressions.specs.Expressions.{Expr, Exprs}
use Rattle.nodes.specs.Nodes.{Node, apply, choice, fail, forward, Heap, at}
use Rattle.machine.specs.Made.{Placed, make, make_row, place, rewritten}
use Rattle.rewriting.specs.Heaps.{ChoiceBelow, ChoicesBelow}
use Rattle.rewriting.proofs.Kept.{make-choices, make_row-choices, place-choices}

-- 1 if P holds, else 0
unfoldable pub one : {P : Type 0} → Dec P → ℕ
one (yes p) = 1
one (no p) = 0

-- at most 1
one_le : {P : Type 0} (d : Dec P) → one d ≤ 1
unfolding one
one_le (yes p) = le_refl 1
one_le (no p) = omega arith

-- 1 if it holds
one_of : {P : Type 0} (d : Dec P) → P → one d ≡ 1
unfolding one
one_of (yes q) p = refl
one_of (no q) p = absurd (q p)

-- 0 if not
none_of : {P : Type 0} (d : Dec P) → ¬ P → one d ≡ 0
unfolding one
none_of (yes q) p = absurd (p q)
none_of (no q) p = refl

-- how often choice i stands at a node: once, or not
unfoldable pub stands : ℕ → Node → ℕ
stands i (apply f xs) = 0
stands i (choice j l r) = one (ℕ_discrete i j)
stands i fail = 0
stands i (forward m) = 0

-- in how many nodes choice i stands
unfoldable pub count : ℕ → List Node → ℕ
count i [] = 0
count i (x ∷ h) = stands i x + count i h

-- no choice number stands in two nodes
abbrev pub Single : Heap → Type 0
Single h = (n m i l r a b : ℕ) → at h n ≡ choice i l r → at h m ≡ choice i a b → n ≡ m

-- the same by counting, as the proofs below use it
abbrev pub Counted : Heap → Type 0
Counted h = (i : ℕ) → count i h ≤ 1

-- in two heaps, one behind the other
count_append : (i : ℕ) (a b : List Node) → count i (a ++ b) ≡ count i a + count i b
unfolding count
count_append i [] b = omega arith
count_append i (x ∷ a) b = rw (count_append i a b) (omega arith)

-- after one node has been replaced
count_set : (i : ℕ) (h : List Node) (n : ℕ) (x : Node) → count i (set h n x) ≤ count i h + stands i x
unfolding count
count_set i [] n x = omega arith
count_set i (y ∷ h) zero x = omega arith
count_set i (y ∷ h) (suc n) x = omega (arith, count_set i h n x)

-- as often as at one node, at least
count-one : (i : ℕ) (h : List Node) (n : ℕ) → stands i (at h n) ≤ count i h
unfolding count stands
count-one i [] n = omega arith
count-one i (y ∷ h) zero = omega arith
count-one i (y ∷ h) (suc n) = omega (arith, count-one i h n)

-- as often as at two nodes, at least
count-two : (i : ℕ) (h : List Node) (n m : ℕ) → n ≢ m → stands i (at h n) + stands i (at h m) ≤ count i h
unfolding count stands
count-two i [] n m ne = omega arith
count-two i (y ∷ h) zero zero ne = absurd (ne refl)
count-two i (y ∷ h) zero (suc m) ne = omega (arith, count-one i h m)
count-two i (y ∷ h) (suc n) zero ne = omega (arith, count-one i h n)
count-two i (y ∷ h) (suc n) (suc m) ne = omega (arith, count-two i h n m (λ e. ne (ap suc e)))

-- if it is at none, not at all
count_none : (i : ℕ) (h : List Node) → ((m a b : ℕ) → at h m ≢ choice i a b) → count i h ≡ 0
unfolding count stands
count_none i [] ne = refl
count_none i (x ∷ h) ne = let z = count_none i h (λ m a b e. ne (suc m) a b e) in let y = go x (ne 0) in omega arith
  where
    go : (x : Node) → ((a b : ℕ) → x ≢ choice i a b) → stands i x ≡ 0
    go (apply f xs) ne = refl
    go (choice j a b) ne = none_of (ℕ_discrete i j) (λ e. ne a b (ap (λ z. choice z a b) (sym e)))
    go fail ne = refl
    go (forward m) ne = refl

-- if no number stands in two nodes, counting says so
pub counted : (h : Heap) → Single h → Counted h
unfolding count stands one
counted [] single i = omega arith
counted (x ∷ h) single i =
    let rest = counted h (λ n m j l r a b e e'. suc_inj (single (suc n) (suc m) j l r a b e e')) i in
    go x refl rest
  where
    go : (y : Node) → x ≡ y → count i h ≤ 1 → stands i y + count i h ≤ 1
    go (apply f xs) e rest = omega arith
    go (choice j a b) e rest = by (ℕ_discrete i j)
      where
        by : (d : Dec (i ≡ j)) → one d + count i h ≤ 1
        by (yes q) =
            let z = count_none i h (λ m c d w. let u : 0 ≡ suc m = single 0 (suc m) i a b c d (rw q e) w in omega arith) in
            omega arith
        by (no q) = omega arith
    go fail e rest = omega arith
    go (forward m) e rest = omega arith

-- and back: two nodes have two choice numbers
pub counted-other : (h : Heap) (n m : ℕ) {i j l r a b : ℕ} → Counted h → at h n ≡ choice i l r → at h m ≡ choice j a b → m ≢ n → j ≢ i
unfolding stands
counted-other h n m {i} {j} s e e' ne q =
    let x : stands i (at h n) ≡ 1 = rw e (one_of (ℕ_discrete i i) refl) in
    let y : stands i (at h m) ≡ 1 = rw e' (one_of (ℕ_discrete i j) (sym q)) in
    omega (arith, count-two i h m n ne, s i)

-- so if counting says so, no number stands in two nodes
pub single : (h : Heap) → Counted h → Single h
single h counts n m i l r a b e e' = go (ℕ_discrete n m)
  where
    go : Dec (n ≡ m) → n ≡ m
    go (yes q) = q
    go (no q) = absurd (counted-other h m n counts e' e q refl)

-- of the choices k, .., c - 1 each stands in one node at most, and no other stands in any
pub record Within (k c : ℕ) (nodes : List Node) : Type 0 where
  pub once : (i : ℕ) → count i nodes ≤ 1
  pub low : (i : ℕ) → i < k → count i nodes ≡ 0
  pub high : (i : ℕ) → c ≤ i → count i nodes ≡ 0

-- no nodes
within_none : {k c : ℕ} → Within k c []
unfolding count
within_none = record { once = λ i. omega arith; low = λ i l. refl; high = λ i l. refl }

-- one run of nodes after another
within-join : {k c c' : ℕ} {a b : List Node} → k ≤ c → c ≤ c' → Within k c a → Within c c' b → Within k c' (a ++ b)
within-join {k} {c} {c'} {a} {b} l l' x y = record {
  once = λ i. go i (dec_lt i c);
  low = λ i q. rw count_append (omega (arith, x.low i q, y.low i (omega arith)));
  high = λ i q. rw count_append (omega (arith, x.high i (omega arith), y.high i q));
}
  where
    go : (i : ℕ) → Dec (i < c) → count i (a ++ b) ≤ 1
    go i (yes q) = rw count_append (omega (arith, x.once i, y.low i q))
    go i (no q) = rw count_append (omega (arith, x.high i (omega arith), y.once i))

-- a node that is no choice in front
within-other : {k c : ℕ} {a : List Node} (x : Node) → ((i : ℕ) → stands i x ≡ 0) → Within k c a → Within k c (x ∷ a)
unfolding count
within-other x z w = record { once = λ i. omega (arith, z i, w.once i); low = λ i q. omega (arith, z i, w.low i q); high = λ i q. omega (arith, z i, w.high i q) }

-- choice k in front
within-choice : {k c l r : ℕ} {a : List Node} → suc k ≤ c → Within (suc k) c a → Within k c (choice k l r ∷ a)
unfolding count stands
within-choice {k} {c} {a} le w = record {
  once = λ i. go i (ℕ_discrete i k);
  low = λ i q. omega (arith, none_of (ℕ_discrete i k) (omega arith), w.low i (omega arith));
  high = λ i q. omega (arith, none_of (ℕ_discrete i k) (omega arith), w.high i q);
}
  where
    go : (i : ℕ) → Dec (i ≡ k) → one (ℕ_discrete i k) + count i a ≤ 1
    go i (yes q) = omega (arith, one_le (ℕ_discrete i k), w.low i (omega arith))
    go i (no q) = omega (arith, none_of (ℕ_discrete i k) q, w.once i)

-- a node moved to the front
within-moved : {k c : ℕ} (a : List Node) (x : Node) (b : List Node) → Within k c (a ++ (x ∷ b)) → Within k c (x ∷ (a ++ b))
unfolding count
within-moved a x b w = record { once = λ i. rw (moved i) (w.once i); low = λ i q. rw (moved i) (w.low i q); high = λ i q. rw (moved i) (w.high i q) }
  where
    moved : (i : ℕ) → stands i x + count i (a ++ b) ≡ count i (a ++ (x ∷ b))
    moved i = omega (arith, count_append i a b, count_append i a (x ∷ b))

mutual
  unfolding make stands

  -- the nodes of an expression, and of a row of them
  pub make-within : (e : Expr) (env : List ℕ) (next k : ℕ) → Within k (make e env next k).choices (make e env next k).nodes
  make-within (Expr.var x) env next k = within_none
  make-within (Expr.apply f es) env next k = within-other _ (λ i. refl) (row_within es env (suc next) k)
  make-within (Expr.choice a b) env next k =
      let m = make a env (suc next) (suc k) in
      let g = (make-choices env a (suc next) (suc k)).0 in
      let g' = (make-choices env b (suc next + length m.nodes) m.choices).0 in
      within-choice (le_trans g g') (within-join g g' (make-within a env (suc next) (suc k)) (make-within b env (suc next + length m.nodes) m.choices))
  make-within Expr.fail env next k = within-other _ (λ i. refl) within_none
  make-within (Expr.shared s a b) env next k =
      let m = make a env next k in
      let bound = env ++ (m.arrow ∷ []) in
      within-join (make-choices env a next k).0 (make-choices bound b (next + length m.nodes) m.choices).0
      (make-within a env next k) (make-within b bound (next + length m.nodes) m.choices)

  row_within : (es : Exprs) (env : List ℕ) (next k : ℕ) → Within k (make_row es env next k).choices (make_row es env next k).nodes
  row_within Exprs.no_exprs env next k = within_none
  row_within (Exprs.more_exprs e es) env next k =
      let m = make e env next k in
      within-join (make-choices env e next k).0 (make_row-choices env es (next + length m.nodes) m.choices).0
      (make-within e env next k) (row_within es env (next + length m.nodes) m.choices)

-- of an expression that takes a node's place
place-within : (e : Expr) (env : List ℕ) (next k : ℕ)
    → Within k (place e env next k).choices ((place e env next k).top ∷ (place e env next k).nodes)
unfolding place stands make
place-within (Expr.var x) env next k = within-other _ (λ i. refl) within_none
place-within (Expr.apply f es) env next k = within-other _ (λ i. refl) (row_within es env next k)
place-within (Expr.choice a b) env next k =
    let m = make a env next (suc k) in
    let g = (make-choices env a next (suc k)).0 in
    let g' = (make-choices env b (next + length m.nodes) m.choices).0 in
    within-choice (le_trans g g') (within-join g g' (make-within a env next (suc k)) (make-within b env (next + length m.nodes) m.choices))
place-within Expr.fail env next k = within-other _ (λ i. refl) within_none
place-within (Expr.shared s a b) env next k =
    let m = make a env next k in
    let bound = env ++ (m.arrow ∷ []) in
    within-moved m.nodes _ _ (within-join (make-choices env a next k).0 (place-choices bound b (next + length m.nodes) m.choices).0
    (make-within a env next k) (place-within b bound (next + length m.nodes) m.choices))

-- choices that are not used yet stand nowhere
unused : (i k : ℕ) (h : List Node) → k ≤ i → ChoicesBelow k h → count i h ≡ 0
unfolding count stands
unused i k [] l below = refl
unused i k (x ∷ h) l below = let z = unused i k h l (λ m. below (suc m)) in let y = new x (below 0) in omega arith
  where
    new : (x : Node) → ChoiceBelow k x → stands i x ≡ 0
    new (apply f xs) b = refl
    new (choice j a b) c = none_of (ℕ_discrete i j) (omega arith)
    new fail b = refl
    new (forward m) b = refl

-- A rewrite and a choice taken leave it so that no choice number stands in two nodes.
pub rewrite-counted : (h : Heap) (n k : ℕ) (e : Expr) (env : List ℕ) → ChoicesBelow k h → Counted h
    → Counted (rewritten h n (place e env (length h) k))
unfolding rewritten count
rewrite-counted h n k e env below counts i = go (dec_lt i k)
  where
    p : Placed
    p = place e env (length h) k

    w : Within k p.choices (p.top ∷ p.nodes)
    w = place-within e env (length h) k

    go : Dec (i < k) → count i (set h n p.top ++ p.nodes) ≤ 1
    go (yes l) = rw count_append (omega (arith, count_set i h n p.top, counts i, w.low i l))
    go (no l) = rw count_append (omega (arith, count_set i h n p.top, unused i k h (omega arith) below, w.once i))

-- a choice taken
pub choose_counted : (h : Heap) (n t : ℕ) → Counted h → Counted (set h n (forward t))
unfolding stands
choose_counted h n t counts i = omega (arith, count_set i h n (forward t), counts i)
