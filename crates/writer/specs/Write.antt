-- What the writer makes of rows, and what it leaves in the room lent.
use Rattle.std.specs.Prelude.{true, false, List, ◌++◌, ℕ, ltb, length, drop}
use Rattle.limits.specs.Sizes.{most_book_bytes}
use Rattle.reading.specs.Reading.{got, refusal}
use Rattle.symbols.specs.SymbolPart.{symbol_part}
use Rattle.symbols.specs.SymbolsRead.{symbols_read}
use Rattle.book.specs.Admission.{read_book}
use Rattle.book.specs.RowsRead.{rows_read}
use Rattle.writer.specs.Rows.{Rows, row_count}
use Rattle.writer.specs.Layout.{arities_of, front_bytes, tree_part_bytes}

-- the bytes of a book, or a refusal by number and row
pub data Writing : Type 0 where
  made : List ℕ → Writing
  refused : ℕ → ℕ → Writing

-- "50 rows not a book, with the first row at fault (the count of rows if some are missing or the book is too large)": the bytes are read as any
-- book's are, and as many rows were read whole as stand before the row at fault. `count` is the count of rows.
unfoldable pub judged : ℕ → List ℕ → Writing
judged count bs = elim (ltb most_book_bytes (length bs)) [
  | true ↦ refused 50 count
  | false ↦ elim (read_book bs) [
    | got rules p ↦ made bs
    | refusal c p ↦ refused 50 (rows_read bs)
  ]
]

-- Judged in this order: first that the symbols' numbers are not too many for any book; then the symbols; then the size of the whole, since how long a
-- tree's row becomes hangs on how many arguments the symbols take; then the rest.
unfoldable pub made_of : Rows → Writing
made_of rows =
    let front = front_bytes rows.symbols in
    elim (ltb most_book_bytes (length front)) [
      | true ↦ refused 50 (row_count rows)
      | false ↦ elim (symbol_part front) [
        | refusal c p ↦ refused 50 (symbols_read front)
        | got symbols p ↦ judged (row_count rows) (front ++ tree_part_bytes (arities_of symbols) rows.trees)
      ]
    ]

-- the numbers that are handed back: 0 or the refusal, the row at fault, and how many bytes were written
pub record Result : Type 0 where
  pub number : ℕ
  pub row : ℕ
  pub bytes : ℕ

-- with the room lent, after it
pub record Outcome : Type 0 where
  pub result : Result
  pub room : List ℕ

abbrev pub refusing : ℕ → ℕ → List ℕ → Outcome
refusing c row room = record { result = record { number = c; row = row; bytes = 0 }; room = room }

-- "51 no room for all bytes, with nothing written; 50 before 51"
unfoldable pub laid : Writing → List ℕ → Outcome
laid (refused c row) room = refusing c row room
laid (made bs) room = elim (ltb (length room) (length bs)) [
  | true ↦ refusing 51 0 room
  | false ↦ record { result = record { number = 0; row = 0; bytes = length bs }; room = bs ++ drop (length bs) room }
]

-- "it takes such rows in lent memory and writes the bytes of document 01, or refuses"
unfoldable pub write : Rows → List ℕ → Outcome
write rows room = laid (made_of rows) room
