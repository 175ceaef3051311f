-- Requests L1 and L13 of the code: what is promised of the numbers that `write_book` and `add_figures` hand back, and of lent memory after them.
use Rattle.std.specs.Prelude.{◌≡◌, List, ◌++◌, ℕ, ◌+◌, ◌≤◌, ◌<◌, length, get_or, take, drop}
use Rattle.writer.specs.Rows.{Rows}
use Rattle.writer.specs.Exact.{Bytes, Numbers, BookOf, Meant}
use Rattle.writer.specs.Write as Write
use Rattle.figures.specs.Figures as Figures
use Rattle.tallies.specs.Tallied.{how_many}
use Rattle.figures.specs.Counts.{all_answers, books_in}

-- of the book of these rows, written into this room
pub record MakesBook (rows : Rows) (room : List ℕ) (o : Write.Outcome) : Type 0 where
  -- "What it writes is admitted and reads back to the same rows"
  pub reads_back : o.result.number ≡ 0 → BookOf rows (take o.result.bytes o.room)
  -- "writing what was read from an admitted book gives the same bytes", where there is room for them
  pub writes_back : (bs : List ℕ) → Bytes bs → BookOf rows bs → length bs ≤ length room → (o.result.number ≡ 0) × (o.room ≡ bs ++ drop (length bs) room)
  -- "Rows are accepted exactly when some admitted book has that meaning": refused with 50 only where none has, and wherever none has
  pub only50 : Numbers rows → o.result.number ≡ 50 → Meant rows → ⊥
  pub always50 : Numbers rows → (o.result.number ≡ 50 → ⊥) → Meant rows
  -- "with nothing written"
  pub untouched : (o.result.number ≡ 0 → ⊥) → o.room ≡ room

-- of the figures of these books, added to this row
pub record AddsFigures (books row : List ℕ) (o : Figures.Outcome) : Type 0 where
  -- "for each symbol, in how many answers it stands", "added to what it holds"
  pub counted : o.number ≡ 0 → (f : ℕ) → f < length row → get_or o.row f 0 ≡ get_or row f 0 + how_many f (all_answers (books_in books))
  -- "the row untouched"
  pub untouched : (o.number ≡ 0 → ⊥) → o.row ≡ row
