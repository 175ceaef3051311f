-- The rows that stand in numbers: they do not hang on the bound, and the row at a place is followed by those behind it.
use mathlib.Core.List.{List, [], ◌∷◌}
use mathlib.Core.Path.{◌≡◌, refl, sym, ap, ◌∙◌}
use Prim.Native.Nat.{ℕ, zero, suc, ◌+◌, ◌-◌, ◌<◌, ◌≤◌, min}
use native.Mathlib.Nat.{not-suc-le-zero}
use native.Mathlib.Numerals.{add-one}
use native.Mathlib.Decide.{dec_lt}
use native.Mathlib.Omega.{arith}
use lib.ListN.{length, get_or, take, drop, length-drop, drop_of_length-le}
use lib.Seq.{drop-cons, drop-drop, take_all}
use Rattle.writer.specs.Rows.{Row, rows_from, rows_in}

abbrev pub row : ℕ → List ℕ → Row
row n ns = record { says = n; numbers = ns }

-- any bound that is large enough
rows_enough : (b c : ℕ) (ns : List ℕ) → length ns ≤ b → length ns ≤ c → rows_from b ns ≡ rows_from c ns
unfolding rows_from
rows_enough zero zero ns h k = refl
rows_enough zero (suc c) [] h k = refl
rows_enough zero (suc c) (n ∷ ns) h k = absurd (not-suc-le-zero h)
rows_enough (suc b) zero [] h k = refl
rows_enough (suc b) zero (n ∷ ns) h k = absurd (not-suc-le-zero k)
rows_enough (suc b) (suc c) [] h k = refl
rows_enough (suc b) (suc c) (n ∷ ns) h k =
    ap (λ (rows : List Row). row n (take n ns) ∷ rows) (rows_enough b c (drop n ns) (simp length-drop (omega arith)) (simp length-drop (omega arith)))

-- a row, and those behind it
pub rows_more : (n : ℕ) (ns : List ℕ) → rows_in (n ∷ ns) ≡ row n (take n ns) ∷ rows_in (drop n ns)
unfolding rows_in rows_from
rows_more n ns =
    ap (λ (rows : List Row). row n (take n ns) ∷ rows) (rows_enough (length ns) (length (drop n ns)) (drop n ns) (simp length-drop (omega arith)) (omega arith))

-- past the end there is nothing more to drop
drop-least : (ns : List ℕ) (k : ℕ) → drop k ns ≡ drop (min (length ns) k) ns
drop-least ns k = elim (dec_lt (length ns) k) [
  | yes h ↦ drop_of_length-le ns {i = k} (omega arith) ∙ sym (drop_of_length-le ns {i = min (length ns) k} (omega arith))
  | no h ↦ let e : min (length ns) k ≡ k = omega arith in rw e
]

-- in all numbers, the row at p, whose end is q
module _ (ns : List ℕ) (p q : ℕ) (end : q ≡ min (length ns) (p + 1 + get_or ns p 0)) where
  -- what is behind it
  rest-behind : drop (get_or ns p 0) (drop (suc p) ns) ≡ drop q ns
  rest-behind =
      let e : suc p + get_or ns p 0 ≡ p + 1 + get_or ns p 0 = omega arith in
      drop-drop (get_or ns p 0) (suc p) ns ∙ rw (e, end) (drop-least ns (p + 1 + get_or ns p 0))

  module _ (there : p < length ns) where
    -- its numbers, as many as are there
    row-there : take (get_or ns p 0) (drop (p + 1) ns) ≡ take (q - (p + 1)) (drop (p + 1) ns)
    row-there = elim (dec_lt (length ns) (p + 1 + get_or ns p 0)) [
      | yes h ↦ take_all (get_or ns p 0) (drop (p + 1) ns) (simp length-drop (omega arith)) ∙ sym (take_all (q - (p + 1)) (drop (p + 1) ns) (simp length-drop (omega arith)))
      | no h ↦ let e : q - (p + 1) ≡ get_or ns p 0 = omega arith in rw e
    ]

    -- it, and the rows behind it
    pub rows-one : rows_in (drop p ns) ≡ row (get_or ns p 0) (take (q - (p + 1)) (drop (p + 1) ns)) ∷ rows_in (drop q ns)
    rows-one = ap rows_in (drop-cons ns p 0 there) ∙ rows_more (get_or ns p 0) (drop (suc p) ns) ∙ rw (rest-behind, ← row-there, add-one)

-- at the end there is none
pub rows_none : (ns : List ℕ) (p : ℕ) → length ns ≤ p → rows_in (drop p ns) ≡ []
unfolding rows_in rows_from
rows_none ns p h = ap rows_in (drop_of_length-le ns {i = p} h)
