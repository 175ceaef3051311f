-- Counting the rows of a book that are read whole, one lemma for each way through the code.
use mathlib.Core.Bool.{true, false}
use mathlib.Core.List.{List, [], ◌∷◌}
use mathlib.Core.Path.{◌≡◌, ◌∙◌}
use Prim.Native.Nat.{ℕ, ◌+◌}
use native.Mathlib.Nat.{add-zero, add-suc, suc-add}
use native.Mathlib.Numerals.{add-one}
use lib.ListN.{length}
use Rattle.reading.specs.Reading.{got, refusal}
use Rattle.reading.specs.Bytes.{length_at}
use Rattle.reading.specs.Answer.{keeping, nothing}
use Rattle.reading.proofs.Keeping.{kept-got, kept-refusal}
use Rattle.symbols.specs.Symbols.{Symbol, Symbols}
use Rattle.symbols.specs.SymbolPart.{symbol_part}
use Rattle.symbols.specs.SymbolsRead.{symbols_read}
use Rattle.book.specs.TreeAt.{item_at}
use Rattle.book.specs.RowsRead.{trees_read_at, trees_read, rows_read}

-- ---- the operations' trees, after `count` of them

module _ (bs : List ℕ) (S : Symbols) (e p count : ℕ) where
  -- the count, with the trees of these symbols from p on
  abbrev pub counted : Symbols → ℕ
  counted symbols = count + trees_read_at bs S e symbols p

  -- no symbol is left
  pub count_none : {symbols : Symbols} → symbols ≡ [] → count ≡ counted symbols
  unfolding trees_read_at
  count_none none = simp (none, trees_read_at, add-zero)

  -- symbol x is next, and then `rest`
  module _ {symbols : Symbols} (x : Symbol) (rest : Symbols) (next : symbols ≡ x ∷ rest) where
    -- a constructor has no tree
    pub count_past : x.is_operation ≡ false → counted rest ≡ counted symbols
    unfolding trees_read_at
    count_past constructor = simp (next, trees_read_at, constructor)

    -- an operation's tree is refused
    pub count-refused : {c q : ℕ} → x.is_operation ≡ true → refusal c q ≡ keeping nothing (item_at bs S e x p) → count ≡ counted symbols
    unfolding trees_read_at
    count-refused operation told = simp (next, trees_read_at, operation, kept-refusal nothing _ told, add-zero)

    -- it is read, and then the rest
    pub count-more : {v q : ℕ} → x.is_operation ≡ true → got v q ≡ keeping nothing (item_at bs S e x p) → count + 1 + trees_read_at bs S e rest q ≡ counted symbols
    unfolding trees_read_at
    count-more operation told = simp (next, trees_read_at, operation, (kept-got nothing _ told).1, add-one, suc-add, add-suc)

-- ---- the tree part and the book

module _ (bs : List ℕ) (S : Symbols) (p : ℕ) where
  -- the part is not opened
  pub unopened_counted : {c q : ℕ} → refusal c q ≡ length_at bs 0 (length bs) p → 0 ≡ trees_read bs S p
  unfolding trees_read
  unopened_counted opened = simp (trees_read, ← opened)

  -- its trees are counted
  pub opened-counted : {e q r : ℕ} → got e q ≡ length_at bs 0 (length bs) p → r ≡ trees_read_at bs S e S q → r ≡ trees_read bs S p
  unfolding trees_read
  opened-counted opened counted = counted ∙ simp (trees_read, ← opened)

module _ (bs : List ℕ) where
  -- a symbol is at fault
  pub symbols-counted : {c q r : ℕ} → refusal c q ≡ keeping length (symbol_part bs) → r ≡ symbols_read bs → r ≡ rows_read bs
  unfolding rows_read
  symbols-counted told counted = counted ∙ simp (rows_read, kept-refusal length _ told)

  -- all symbols are read, and then the trees are counted
  pub trees-counted : {symbols : Symbols} {count p r : ℕ} → symbol_part bs ≡ got symbols p → count ≡ length symbols → r ≡ trees_read bs symbols p
      → count + r ≡ rows_read bs
  unfolding rows_read
  trees-counted part many counted = simp (rows_read, part, many, counted)
