-- What request L1 asks of the writer, beside that it does what `Write.antt` says.
use Rattle.std.specs.Prelude.{List, ◌≡◌, ℕ, ◌<◌, get_or}
use Rattle.reading.specs.Reading.{got}
use Rattle.reading.specs.Bytes.{version_of}
use Rattle.book.specs.Rules.{Rules}
use Rattle.book.specs.Admission.{read_book}
use Rattle.writer.specs.Rows.{Rows, rows_of}
use Rattle.writer.specs.Write.{made, made_of}

abbrev pub Below : ℕ → List ℕ → Type 0
Below bound ns = (i : ℕ) → get_or ns i 0 < bound

-- each number is a byte
abbrev pub Bytes : List ℕ → Type 0
Bytes bs = Below 256 bs

-- each number is one of 16 bits, as they are lent
abbrev pub Numbers : Rows → Type 0
Numbers rows = Below 65536 rows.symbols × Below 65536 rows.trees

-- these bytes are an admitted book, of edition 1 as the writer's are, that has these rows
pub record BookOf (rows : Rows) (bs : List ℕ) : Type 0 where
  pub rules : Rules
  pub end : ℕ
  pub edition : version_of bs ≡ 1
  pub admitted : read_book bs ≡ got rules end
  pub same : rows_of rules ≡ rows

-- "What it writes is admitted and reads back to the same rows"
abbrev pub ReadsBack : Type 0
ReadsBack = (rows : Rows) (bs : List ℕ) → made_of rows ≡ made bs → BookOf rows bs

-- "writing what was read from an admitted book gives the same bytes"
abbrev pub WritesBack : Type 0
WritesBack = (rows : Rows) (bs : List ℕ) → Bytes bs → BookOf rows bs → made_of rows ≡ made bs

-- the rows are accepted
abbrev pub Accepted : Rows → Type 0
Accepted rows = (bs : List ℕ) × (made_of rows ≡ made bs)

-- some admitted book has that meaning
abbrev pub Meant : Rows → Type 0
Meant rows = (bs : List ℕ) × Bytes bs × BookOf rows bs

-- "Rows are accepted exactly when some admitted book has that meaning"
abbrev pub Exactly : Type 0
Exactly = (rows : Rows) → Numbers rows → (Accepted rows → Meant rows) × (Meant rows → Accepted rows)
