-- How many rows of a book, one for each symbol and then one for each operation's tree, are read whole before the first fault, or the
-- book's end.
use Rattle.std.specs.Prelude.{true, false, List, [], ◌∷◌, ℕ, suc, ◌+◌, length}
use Rattle.reading.specs.Reading.{got, refusal}
use Rattle.reading.specs.Bytes.{length_at}
use Rattle.symbols.specs.Symbols.{Symbols}
use Rattle.symbols.specs.SymbolPart.{symbol_part}
use Rattle.symbols.specs.SymbolsRead.{symbols_read}
use Rattle.book.specs.TreeAt.{item_at}

-- the trees of the operations in `rest`, the symbols still to come, of which the first tree is opened at p in a part that ends at e
unfoldable pub trees_read_at : List ℕ → Symbols → ℕ → Symbols → ℕ → ℕ
trees_read_at bs symbols e [] p = 0
trees_read_at bs symbols e (x ∷ rest) p = elim x.is_operation [
  | false ↦ trees_read_at bs symbols e rest p
  | true ↦ elim (item_at bs symbols e x p) [
    | refusal c q ↦ 0
    | got t q ↦ suc (trees_read_at bs symbols e rest q)
  ]
]

-- those of the tree part, whose length stands at p
unfoldable pub trees_read : List ℕ → Symbols → ℕ → ℕ
trees_read bs symbols p = elim (length_at bs 0 (length bs) p) [
  | refusal c q ↦ 0
  | got e q ↦ trees_read_at bs symbols e symbols q
]

-- the rows of a book: its symbols, and its trees where all symbols are read
unfoldable pub rows_read : List ℕ → ℕ
rows_read bs = elim (symbol_part bs) [
  | refusal c p ↦ symbols_read bs
  | got symbols p ↦ length symbols + trees_read bs symbols p
]
