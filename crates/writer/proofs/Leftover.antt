-- The bytes of what is left of a row, and of the rows that are left: those of the first number or row, then those of the rest.
use mathlib.Core.List.{List, [], ◌∷◌, ◌++◌}
use mathlib.Core.Path.{◌≡◌, ap}
use Prim.Native.Nat.{ℕ, ◌+◌, ◌-◌, ◌<◌, ◌≤◌, min}
use native.Mathlib.Numerals.{add-one}
use lib.ListN.{length, get_or, take, drop, drop_of_length-le}
use lib.Seq.{drop-cons}
use borrow.Author.Tests.{lt-ltb, le-ltb}
use Rattle.reading.specs.Bytes.{two_bytes}
use Rattle.writer.specs.Rows.{Row, rows_in}
use Rattle.writer.specs.Layout.{Due, number_bytes, numbers_bytes, behind, tree_row_bytes, past_every_book, item_bytes, items_bytes}
use Rattle.writer.proofs.Putting.{front_length}
use Rattle.writer.proofs.Splitting.{row, rows_more, rows-one, rows_none}

module _ (arities : List ℕ) where
  -- the number at i of a row, then those behind it
  pub numbers-one : (d : Due) (row : List ℕ) (i : ℕ) → i < length row
      → numbers_bytes arities d (drop i row)
      ≡ number_bytes d.next (get_or row i 0) ++ numbers_bytes arities (behind arities d (get_or row i 0)) (drop (i + 1) row)
  unfolding numbers_bytes
  numbers-one d row i there = rw (add-one, drop-cons row i 0)

  -- at the row's end there is none
  pub numbers-none : (d : Due) (row : List ℕ) (i : ℕ) → length row ≤ i → numbers_bytes arities d (drop i row) ≡ []
  unfolding numbers_bytes
  numbers-none d row i past = ap (numbers_bytes arities d) (drop_of_length-le row {i = i} past)

  module _ (row : Row) where
    -- a row with numbers missing
    pub item-missing : (said : ℕ) → length row.numbers < row.says → said ≡ past_every_book → item_bytes arities row ≡ two_bytes said ++ tree_row_bytes arities row.numbers
    unfolding item_bytes
    item-missing said few is = rw (lt-ltb (length row.numbers) row.says few, is)

    -- and one with all
    pub item-whole : (said : ℕ) → row.says ≤ length row.numbers → said ≡ length (tree_row_bytes arities row.numbers)
        → item_bytes arities row ≡ two_bytes said ++ tree_row_bytes arities row.numbers
    unfolding item_bytes
    item-whole said all is = rw (le-ltb (length row.numbers) row.says all, is)

    pub item-length : length (item_bytes arities row) ≡ 2 + length (tree_row_bytes arities row.numbers)
    unfolding item_bytes
    item-length = front_length _ (tree_row_bytes arities row.numbers)

  -- a row, then those behind it
  pub items_more : (n : ℕ) (ns : List ℕ) → items_bytes arities (rows_in (n ∷ ns)) ≡ item_bytes arities (row n (take n ns)) ++ items_bytes arities (rows_in (drop n ns))
  unfolding items_bytes
  items_more n ns = ap (items_bytes arities) (rows_more n ns)

  -- the row at i, whose end is q, then those behind it
  pub items-one : (rows : List ℕ) (i q : ℕ) → q ≡ min (length rows) (i + 1 + get_or rows i 0) → i < length rows
      → items_bytes arities (rows_in (drop i rows))
      ≡ item_bytes arities (row (get_or rows i 0) (take (q - (i + 1)) (drop (i + 1) rows))) ++ items_bytes arities (rows_in (drop q rows))
  unfolding items_bytes
  items-one rows i q end there = ap (items_bytes arities) (rows-one rows i q end there)

  -- at the end there is none
  pub items-none : (rows : List ℕ) (i : ℕ) → length rows ≤ i → items_bytes arities (rows_in (drop i rows)) ≡ []
  unfolding items_bytes
  items-none rows i past = ap (items_bytes arities) (rows_none rows i past)
