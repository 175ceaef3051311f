-- An answer's symbols among all bytes, and in the part that starts with them: the same symbols, and places that are moved.
use mathlib.Core.Bool.{Bool, true, false}
use mathlib.Core.List.{List, [], ◌∷◌}
use mathlib.Core.Path.{◌≡◌, refl, sym, ap, ◌∙◌}
use Prim.Native.Nat.{ℕ, zero, suc, ◌+◌, ◌-◌, ◌*◌, ◌≤◌}
use native.Mathlib.Omega.{arith}
use lib.Dec.{leb}
use lib.ListN.{length, get_or, set, take, drop, length-drop}
use lib.Seq.{get_or-drop, take_all}
use Rattle.reading.specs.Reading.{Reading, got, refusal, refuse◌at◌if◌else◌}
use Rattle.reading.specs.Bytes.{big_endian}
use Rattle.std.proofs.Common.{Ok, Err}
use Rattle.tallies.specs.declared.Refusal.{Refusal}
use Rattle.book.specs.TreeAt.{is_in}
use Rattle.tallies.specs.Tallied.{most_total, symbols_at, tallied}
use Rattle.tallies.specs.InCode.{AddedAs, TakenBack, answer_over}
use Rattle.tallies.proofs.TallyWays.{adds_refused, adds_got, added_refusal, added_got}

-- what was read further on
unfoldable moved_by : ℕ → Reading (List ℕ) → Reading (List ℕ)
moved_by from (got row p) = got row (from + p)
moved_by from (refusal c p) = refusal c (from + p)

-- a refusal before a place
Before : ℕ → Reading (List ℕ) → Type 0
Before e (got row p) = Unit
Before e (refusal c p) = p ≤ e

-- one symbol: whether it was seen, is past the row, has a total that cannot grow
abbrev tested : ℕ → Bool → Bool → Bool → Reading (List ℕ) → Reading (List ℕ) → Reading (List ℕ)
tested p seen past full again new = elim seen [
  | true ↦ again
  | false ↦
      refuse 61 at p if past else λ _.
      refuse 62 at p if full else λ _.
      new
]

tested_moved : (from p q : ℕ) → q ≡ from + p → (seen past full : Bool) (again new again' new' : Reading (List ℕ))
    → again ≡ moved_by from again' → new ≡ moved_by from new' → tested q seen past full again new ≡ moved_by from (tested p seen past full again' new')
unfolding moved_by refuse◌at◌if◌else◌
tested_moved from p q there true past full again new again' new' one other = one
tested_moved from p q there false true full again new again' new' one other = ap (refusal 61) there
tested_moved from p q there false false true again new again' new' one other = ap (refusal 62) there
tested_moved from p q there false false false again new again' new' one other = other

tested_before : (e p : ℕ) → p ≤ e → (seen past full : Bool) (again new : Reading (List ℕ)) → Before e again → Before e new
    → Before e (tested p seen past full again new)
unfolding Before refuse◌at◌if◌else◌
tested_before e p low true past full again new one other = one
tested_before e p low false true full again new one other = low
tested_before e p low false false true again new one other = low
tested_before e p low false false false again new one other = other

module _ (bs : List ℕ) where
  -- a refusal is at one of the symbols
  tallied-before : (e : ℕ) (row seen : List ℕ) (k p : ℕ) → p + 2 * k ≤ e → Before e (tallied bs row seen k p)
  unfolding Before tallied
  tallied-before e row seen zero p low = tt
  tallied-before e row seen (suc k) p low =
      let f = big_endian bs p in
      let total = get_or row f 0 in
      tested_before e p (omega arith) (is_in f seen) (leb (length row) f) (leb most_total total) _ _ (tallied-before e row seen k (p + 2) (omega arith))
      (tallied-before e (set row f (suc total)) (f ∷ seen) k (p + 2) (omega arith))

  pub refused-before : (row : List ℕ) (count : ℕ) (r : Refusal) {row' : List ℕ} → AddedAs (tallied bs row [] count 0) (Err r) row row' → r.place ≤ 2 * count
  unfolding Before
  refused-before row count r told = rw (added_refusal row r told).0 at (tallied-before (2 * count) row [] count 0 (omega arith))

  module _ (from : ℕ) where
    big_moved : (p q : ℕ) → q ≡ from + p → big_endian (drop from bs) p ≡ big_endian bs q
    big_moved p q there =
        let next : from + (p + 1) ≡ q + 1 = omega arith in
        let one = get_or-drop from bs p 0 ∙ ap (λ k. get_or bs k 0) (sym there) in
        let other = get_or-drop from bs (p + 1) 0 ∙ ap (λ k. get_or bs k 0) next in
        rw (one, other) refl

    symbols-moved : (k p q : ℕ) → q ≡ from + p → symbols_at (drop from bs) k p ≡ symbols_at bs k q
    unfolding symbols_at
    symbols-moved zero p q there = refl
    symbols-moved (suc k) p q there =
        let rest = symbols-moved k (p + 2) (q + 2) (omega arith) in
        ap (λ f. f ∷ symbols_at (drop from bs) k (p + 2)) (big_moved p q there) ∙ ap (λ l. big_endian bs q ∷ l) rest

    -- what comes of a symbol g there, with k more behind it
    abbrev counted : List ℕ → List ℕ → ℕ → ℕ → ℕ → Reading (List ℕ)
    counted row seen k p g =
        let total = get_or row g 0 in
        let rest = drop from bs in
        tested p (is_in g seen) (leb (length row) g) (leb most_total total) (tallied rest row seen k (p + 2)) (tallied rest (set row g (suc total)) (g ∷ seen) k (p + 2))

    tallied-moved : (row seen : List ℕ) (k p q : ℕ) → q ≡ from + p → tallied bs row seen k q ≡ moved_by from (tallied (drop from bs) row seen k p)
    unfolding tallied moved_by
    tallied-moved row seen zero p q there = ap (got row) there
    tallied-moved row seen (suc k) p q there =
        let f = big_endian bs q in
        let total = get_or row f 0 in
        let further : q + 2 ≡ from + (p + 2) = omega arith in
        tested_moved from p q there (is_in f seen) (leb (length row) f) (leb most_total total) _ _ _ _ (tallied-moved row seen k (p + 2) (q + 2) further)
        (tallied-moved (set row f (suc total)) (f ∷ seen) k (p + 2) (q + 2) further)
        ∙ ap (λ g. moved_by from (counted row seen k p g)) (sym (big_moved p q there))

    -- the part that starts there
    module _ (part : List ℕ) (is : part ≡ take (length bs - from) (drop from bs)) where
      is-rest : part ≡ drop from bs
      is-rest = is ∙ take_all (length bs - from) (drop from bs) (omega (arith, length-drop from bs))

      here : from ≡ from + 0
      here = omega arith

      answer_same : (count : ℕ) → answer_over part count 0 ≡ answer_over bs count from
      answer_same count = ap (λ l. answer_over l count 0) is-rest ∙ ap (λ l. l ∷ []) (symbols-moved count 0 from here)

      tallied-same : (row : List ℕ) (count : ℕ) → tallied bs row [] count from ≡ moved_by from (tallied part row [] count 0)
      tallied-same row count = tallied-moved row [] count 0 from here ∙ ap (λ l. moved_by from (tallied l row [] count 0)) (sym is-rest)

      -- what is told of its symbols
      pub moved_back : (count : ℕ) {row row' : List ℕ} → TakenBack row (answer_over part count 0) row' → TakenBack row (answer_over bs count from) row'
      moved_back count back = rw (answer_same count) at back

      module _ (row : List ℕ) (count : ℕ) {row' : List ℕ} where
        pub moved-refused : (r : Refusal) → AddedAs (tallied part row [] count 0) (Err r) row row' → AddedAs (tallied bs row [] count from) (Err (record { fault = r.fault; place = from + r.place })) row row'
        unfolding moved_by
        moved-refused r told =
            let was = added_refusal row r told in
            adds_refused row (record { fault = r.fault; place = from + r.place }) (tallied-same row count ∙ ap (moved_by from) was.0) was.1

        pub moved-got : {q : ℕ} → AddedAs (tallied part row [] count 0) (Ok q) row row' → AddedAs (tallied bs row [] count from) (Ok (from + q)) row row'
        unfolding moved_by
        moved-got told = adds_got row (tallied-same row count ∙ ap (moved_by from) (added_got row told))
