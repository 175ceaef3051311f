-- Numbers below a bound: the bytes laid out from 16-bit numbers are bytes, where the book that they make is not too large.
use mathlib.Core.Bool.{Bool, true, false}
use mathlib.Core.List.{List, [], ◌∷◌, ◌++◌, map}
use Prim.Native.Nat.{ℕ, zero, suc, ◌/◌, ◌%◌, ◌≤◌, ◌<◌}
use native.Mathlib.Omega.{arith}
use lib.Dec.{ltb}
use lib.ListN.{length, take, drop, length-append}
use lib.Seq.{get_or-drop}
use Rattle.limits.specs.Sizes.{most_book_bytes}
use Rattle.reading.specs.Bytes.{two_bytes}
use Rattle.writer.specs.Rows.{Row, rows_from, rows_in}
use Rattle.writer.specs.Layout.{byte_of, Next, Due, due, code, behind, number_bytes, numbers_bytes, tree_row_bytes, past_every_book, item_bytes, items_bytes, part_bytes, front_bytes, tree_part_bytes}
use Rattle.writer.specs.Exact.{Below, Bytes}
use Rattle.writer.proofs.Splitting.{row}

-- ---- any numbers

module _ {bound : ℕ} where
  -- a number in front
  pub below_cons : (n : ℕ) (ns : List ℕ) → n < bound → Below bound ns → Below bound (n ∷ ns)
  below_cons n ns first others zero = first
  below_cons n ns first others (suc i) = others i

  -- a lone number
  below_one : (n : ℕ) → n < bound → Below bound (n ∷ [])
  below_one n is = below_cons n [] is (λ i. omega arith)

  -- numbers in front
  pub below_append : (ms ns : List ℕ) → Below bound ms → Below bound ns → Below bound (ms ++ ns)
  below_append [] ns first others = others
  below_append (m ∷ ms) ns first others = below_cons m (ms ++ ns) (first 0) (below_append ms ns (λ i. first (suc i)) others)

  module _ (some : 0 < bound) where
    pub below_none : Below bound []
    below_none i = some

    -- the first of them
    below-take : (k : ℕ) (ns : List ℕ) → Below bound ns → Below bound (take k ns)
    below-take zero ns is = below_none
    below-take (suc k) [] is = below_none
    below-take (suc k) (n ∷ ns) is = below_cons n (take k ns) (is 0) (below-take k ns (λ i. is (suc i)))

-- the others
below-drop : {bound : ℕ} (k : ℕ) (ns : List ℕ) → Below bound ns → Below bound (drop k ns)
below-drop k ns is i = rw (get_or-drop k ns i 0) (is _)

-- ---- the bytes laid out

byte_small : (n : ℕ) → byte_of n < 256
unfolding byte_of
byte_small n = omega arith

-- each number in one byte
row-bytes : (ns : List ℕ) → Bytes (map byte_of ns)
row-bytes [] = below_none (omega arith)
row-bytes (n ∷ ns) = below_cons (byte_of n) (map byte_of ns) (byte_small n) (row-bytes ns)

-- two bytes
two_bytes_lem : (n : ℕ) → n < 65536 → Bytes (two_bytes n)
unfolding two_bytes
two_bytes_lem n small = below_cons (n / 256) (n % 256 ∷ []) (omega arith) (below_one (n % 256) (omega arith))

number-bytes : (next : Next) (n : ℕ) → n < 65536 → Bytes (number_bytes next n)
unfolding number_bytes
number-bytes Next.code n small = below_one (byte_of n) (byte_small n)
number-bytes Next.variable n small = below_one (byte_of n) (byte_small n)
number-bytes Next.symbol n small = two_bytes_lem n small

-- a part
part_bytes_lem : (bytes : List ℕ) → length bytes < 65536 → Bytes bytes → Bytes (part_bytes bytes)
unfolding part_bytes
part_bytes_lem bytes small are = below_append (two_bytes (length bytes)) bytes (two_bytes_lem (length bytes) small) are

module _ (arities : List ℕ) where
  numbers-bytes : (d : Due) (ns : List ℕ) → Below 65536 ns → Bytes (numbers_bytes arities d ns)
  unfolding numbers_bytes
  numbers-bytes d [] small = below_none (omega arith)
  numbers-bytes d (n ∷ ns) small =
      let d' = behind arities d n in
      below_append (number_bytes d.next n) (numbers_bytes arities d' ns) (number-bytes d.next n (small 0)) (numbers-bytes d' ns (λ i. small (suc i)))

  -- a tree
  item-bytes : (row : Row) → Below 65536 row.numbers → length (item_bytes arities row) < 65536 → Bytes (item_bytes arities row)
  unfolding item_bytes tree_row_bytes two_bytes
  item-bytes row small short =
      below_append (two_bytes _) (tree_row_bytes arities row.numbers) (two_bytes_lem _ (by (ltb (length row.numbers) row.says))) (numbers-bytes (due code 0) row.numbers small)
    where
      by : (missing : Bool) → elim missing [ true ↦ past_every_book | false ↦ length (tree_row_bytes arities row.numbers) ] < 65536
      by true = omega arith
      by false = omega arith

  items-bytes : (bound : ℕ) (ns : List ℕ) → Below 65536 ns → length (items_bytes arities (rows_from bound ns)) < 65536 → Bytes (items_bytes arities (rows_from bound ns))
  unfolding rows_from items_bytes
  items-bytes zero ns small short = below_none (omega arith)
  items-bytes (suc bound) [] small short = below_none (omega arith)
  items-bytes (suc bound) (n ∷ ns) small short =
      let first = item_bytes arities (row n (take n ns)) in
      let others = items_bytes arities (rows_from bound (drop n ns)) in
      let both = length-append first others in
      let rest : Below 65536 ns = λ i. small (suc i) in
      below_append first others (item-bytes (row n (take n ns)) (below-take (omega arith) n ns rest) (omega arith)) (items-bytes bound (drop n ns) (below-drop n ns rest) (omega arith))

-- THE WHOLE BOOK IS BYTES.
pub book-bytes : (arities symbol_rows tree_rows : List ℕ) → Below 65536 tree_rows → length (front_bytes symbol_rows ++ tree_part_bytes arities tree_rows) ≤ most_book_bytes
    → Bytes (front_bytes symbol_rows ++ tree_part_bytes arities tree_rows)
unfolding front_bytes tree_part_bytes rows_in part_bytes two_bytes
book-bytes arities symbol_rows tree_rows small size =
    let symbols = map byte_of symbol_rows in
    let trees = items_bytes arities (rows_in tree_rows) in
    let long = length-append (front_bytes symbol_rows) (tree_part_bytes arities tree_rows) in
    below_append (front_bytes symbol_rows) (tree_part_bytes arities tree_rows)
    (below_cons 1 (part_bytes symbols) (omega arith) (part_bytes_lem symbols (omega arith) (row-bytes symbol_rows)))
    (part_bytes_lem trees (omega arith) (items-bytes arities (length tree_rows) tree_rows small (omega arith)))
