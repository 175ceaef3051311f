-- Two rows that hold these terms, and 0 behind them, are the rows told: nothing in them is left open.
use mathlib.Core.Path.{◌≡◌, refl, sym, ap, ◌∙◌}
use mathlib.Core.List.{List, [], ◌∷◌, ◌++◌, append_assoc}
use Prim.Native.Nat.{ℕ, zero, suc, ◌+◌, ◌-◌, ◌≤◌, ◌<◌}
use native.Mathlib.Omega.{arith}
use lib.ListN.{length, get_or, drop, replicate, length-drop, length-replicate, length-append, take-append-drop}
use lib.Seq.{drop-cons, drop-drop, length-take-le, get_or-drop}
use Rattle.tagged.specs.Listing.{Broader}
use Rattle.terms.specs.Places.{bytes_of}
use Rattle.terms.specs.TermRows.{broader_rows, opens_from, all_terms, filled_to, Terms, refused_as, held_as}

-- ---- nothing but 0

pub zero-at : (n i : ℕ) → ◌≡◌ {A = ℕ} (get_or (replicate n 0) i 0) 0
zero-at zero i = refl
zero-at (suc n) zero = refl
zero-at (suc n) (suc i) = zero-at n i

zeros : (l : List ℕ) → ((i : ℕ) → get_or l i 0 ≡ 0) → l ≡ replicate (length l) 0
zeros [] none = refl
zeros (v ∷ l) none = let rest = zeros l (λ i. none (suc i)) in ap (λ k. k ∷ l) (none 0) ∙ ap (λ k. 0 ∷ k) rest

zeros_from : (l : List ℕ) (p m : ℕ) → p + m ≡ length l → ((i : ℕ) → p ≤ i → get_or l i 0 ≡ 0) → drop p l ≡ replicate m 0
zeros_from l p m long none =
    let all = zeros (drop p l) (λ i. get_or-drop p l i 0 ∙ none (p + i) (omega arith)) in
    let many : length (drop p l) ≡ m = omega (arith, length-drop p l, long) in
    all ∙ ap (λ k. replicate k 0) many

-- ---- the two rows

-- as many numbers as stand between two places
between : (l : List ℕ) (a b : ℕ) → a ≤ b → b ≤ length l → length (bytes_of l a b) ≡ b - a
between l a b low high = length-take-le (b - a) (drop a l) (omega (arith, length-drop a l))

opens-length : (k : ℕ) (broader : Broader) → length (opens_from k broader) ≡ suc (length broader)
unfolding opens_from
opens-length k [] = refl
opens-length k (row ∷ rows) = ap suc (opens-length (k + length row) rows)

module _ (from to : List ℕ) where
  opens-are : (n x m : ℕ) → x + n + 1 + m ≡ length from
      → ((y : ℕ) → y < x + n → get_or from y 0 ≤ get_or from (suc y) 0)
      → ((y : ℕ) → y ≤ x + n → get_or from y 0 ≤ length to)
      → ((y : ℕ) → x + n < y → get_or from y 0 ≡ 0)
      → drop x from ≡ opens_from (get_or from x 0) (broader_rows from to n x) ++ replicate m 0
  unfolding opens_from broader_rows
  opens-are zero x m long rising inside none =
      let rest = zeros_from from (suc x) m (omega arith) (λ y high. none y (omega arith)) in
      drop-cons from x 0 (omega arith) ∙ ap (λ l. get_or from x 0 ∷ l) rest
  opens-are (suc n) x m long rising inside none =
      let rest = opens-are n (suc x) m (omega arith) (λ y low. rising y (omega arith)) (λ y low. inside y (omega arith)) (λ y high. none y (omega arith)) in
      let up = rising x (omega arith) in
      let wide = between to (get_or from x 0) (get_or from (suc x) 0) up (inside (suc x) (omega arith)) in
      let next : get_or from (suc x) 0 ≡ get_or from x 0 + length (bytes_of to (get_or from x 0) (get_or from (suc x) 0)) = omega (arith, wide, up) in
      drop-cons from x 0 (omega arith)
      ∙ ap (λ l. get_or from x 0 ∷ l) (rest ∙ ap (λ k. opens_from k (broader_rows from to n (suc x)) ++ replicate m 0) next)

  terms-are : (n x m : ℕ) → get_or from (x + n) 0 + m ≡ length to
      → ((y : ℕ) → y < x + n → get_or from y 0 ≤ get_or from (suc y) 0)
      → ((i : ℕ) → get_or from (x + n) 0 ≤ i → get_or to i 0 ≡ 0)
      → drop (get_or from x 0) to ≡ all_terms (broader_rows from to n x) ++ replicate m 0
  unfolding all_terms broader_rows
  terms-are zero x m long rising none =
      let here : x + 0 ≡ x = omega arith in
      let last : get_or from (x + 0) 0 ≡ get_or from x 0 = ap (λ k. get_or from k 0) here in
      zeros_from to (get_or from x 0) m (omega (arith, long, last)) (λ i high. none i (omega (arith, last)))
  terms-are (suc n) x m long rising none =
      let same : suc x + n ≡ x + suc n = omega arith in
      let last : get_or from (suc x + n) 0 ≡ get_or from (x + suc n) 0 = ap (λ k. get_or from k 0) same in
      let rest = terms-are n (suc x) m (omega (arith, last, long)) (λ y low. rising y (omega arith)) (λ i high. none i (omega (arith, last))) in
      let a = get_or from x 0 in
      let b = get_or from (suc x) 0 in
      let behind : a + (b - a) ≡ b = omega (arith, rising x (omega arith)) in
      let row = bytes_of to a b in
      sym (take-append-drop (b - a) (drop a to))
      ∙ ap (λ l. row ++ l) (drop-drop (b - a) a to ∙ ap (λ k. drop k to) behind ∙ rest)
      ∙ sym (append_assoc row (all_terms (broader_rows from to n (suc x))) (replicate m 0))

-- ---- what is told

pub same-refused : (c d line at : ℕ) → c ≡ d → line ≡ at → refused_as c line ≡ refused_as d at
same-refused c d line at is there = ap (λ k. refused_as k line) is ∙ ap (refused_as d) there

abbrev pub rows_told : ℕ → ℕ → List ℕ → List ℕ → Terms
rows_told headings size from to = record { number = 0; line = 0; headings = headings; size = size; from = from; to = to }

-- THE ROWS ARE EXACT.
pub held_exact : (broader : Broader) (from to : List ℕ) (n size : ℕ) → n ≡ length broader → size ≡ (held_as broader).size
    → length from ≡ 342 → length to ≡ 2736 → n < 342 → get_or from 0 0 ≡ 0
    → ((y : ℕ) → y < n → get_or from y 0 ≤ get_or from (suc y) 0)
    → ((y : ℕ) → y ≤ n → get_or from y 0 ≤ 2736)
    → ((y : ℕ) → n < y → get_or from y 0 ≡ 0)
    → ((i : ℕ) → get_or from n 0 ≤ i → get_or to i 0 ≡ 0)
    → broader_rows from to n 0 ≡ broader
    → rows_told n size from to ≡ held_as broader
held_exact broader from to n size many sized from-long to-long few opens rising inside from-none to_none rows =
    let here : 0 + n ≡ n = omega arith in
    let m = 2736 - get_or from n 0 in
    let up : (y : ℕ) → y < 0 + n → get_or from y 0 ≤ get_or from (suc y) 0 = λ y low. rising y (omega arith) in
    let low-places : (y : ℕ) → y ≤ 0 + n → get_or from y 0 ≤ length to = λ y low. omega (arith, inside y (omega arith)) in
    let first = opens-are from to n 0 (341 - n) (omega arith) up low-places (λ y high. from-none y (omega arith)) in
    let count : 341 - n ≡ 342 - length (opens_from 0 broader) = omega (arith, opens-length 0 broader) in
    let opened : from ≡ filled_to 342 (opens_from 0 broader) =
    first ∙ ap (λ k. opens_from k (broader_rows from to n 0) ++ replicate (341 - n) 0) opens
    ∙ ap (λ b. opens_from 0 b ++ replicate (341 - n) 0) rows ∙ ap (λ k. opens_from 0 broader ++ replicate k 0) count in
    let end : get_or from (0 + n) 0 ≡ get_or from n 0 = ap (λ k. get_or from k 0) here in
    let most = inside n (omega arith) in
    let second = terms-are from to n 0 m (omega (arith, end, most)) up (λ i high. to_none i (omega (arith, end))) in
    let all : to ≡ all_terms broader ++ replicate m 0 =
    ap (λ k. drop k to) (sym opens) ∙ second ∙ ap (λ b. all_terms b ++ replicate m 0) rows in
    let long = ap length all ∙ length-append (all_terms broader) (replicate m 0) in
    let behind : m ≡ 2736 - length (all_terms broader) = omega (arith, long, length-replicate {A = ℕ} m 0, most) in
    let filled : to ≡ filled_to 2736 (all_terms broader) = all ∙ ap (λ k. all_terms broader ++ replicate k 0) behind in
    ap (λ k. rows_told k size from to) many ∙ ap (λ k. rows_told (length broader) k from to) sized
    ∙ ap (λ l. rows_told (length broader) (held_as broader).size l to) opened
    ∙ ap (λ l. rows_told (length broader) (held_as broader).size (filled_to 342 (opens_from 0 broader)) l) filled
