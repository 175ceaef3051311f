-- What the converter makes of a book, and what it leaves in the room lent.
use Rattle.std.specs.Prelude.{true, false, List, ◌++◌, ℕ, ltb, eqb, length, drop}
use Rattle.limits.specs.Sizes.{most_book_bytes}
use Rattle.reading.specs.Reading.{Reading, got, refusal, refuse◌at◌if◌else◌}
use Rattle.reading.specs.Bytes.{version_of}
use Rattle.book.specs.Rules.{Rules}
use Rattle.book.specs.Admission.{read_book}
use Rattle.converter.specs.Written.{book_written}
use Rattle.converter.specs.Converted.{converted}

-- "any admitted version 1 book"; "2 if the converter is lent version 2"
unfoldable pub read_old : List ℕ → Reading Rules
read_old bs =
    refuse 1 at 0 if ltb most_book_bytes (length bs) else λ _.
    refuse 2 at 0 if eqb (version_of bs) 2 else λ _.
    read_book bs

-- the numbers that are handed back: 0 or the refusal, its place, and how many bytes were written; with the room lent, after it
pub record Outcome : Type 0 where
  pub number : ℕ
  pub place : ℕ
  pub bytes : ℕ
  pub room : List ℕ

abbrev pub refusing : ℕ → ℕ → List ℕ → Outcome
refusing c p room = record { number = c; place = p; bytes = 0; room = room }

-- the book that it is written as
abbrev pub new_book : Rules → List ℕ
new_book r = book_written 2 (converted r)

-- "52 when the converted book would pass 32,768 bytes or the room lent, nothing written"
unfoldable pub laid : List ℕ → List ℕ → Outcome
laid cs room = elim (ltb most_book_bytes (length cs)) [
  | true ↦ refusing 52 0 room
  | false ↦ elim (ltb (length room) (length cs)) [
    | true ↦ refusing 52 0 room
    | false ↦ record { number = 0; place = 0; bytes = length cs; room = cs ++ drop (length cs) room }
  ]
]

-- "after the reader's own"
unfoldable pub convert : List ℕ → List ℕ → Outcome
convert bs room = elim (read_old bs) [
  | refusal c p ↦ refusing c p room
  | got rules p ↦ laid (new_book rules) room
]
