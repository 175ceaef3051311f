-- What request L9 asks of the converter, beside that it does what `Convert.antt` says.
use Rattle.std.specs.Prelude.{List, ◌≡◌, ℕ, ◌≤◌, ◌<◌, length}
use Rattle.limits.specs.Sizes.{most_book_bytes}
use Rattle.reading.specs.Reading.{got, refusal}
use Rattle.reading.specs.Bytes.{version_of}
use Rattle.book.specs.Rules.{Rules}
use Rattle.book.specs.Admission.{read_book}
use Rattle.machine.specs.Run.{Memory, run}
use Rattle.converter.specs.Converted.{converted}
use Rattle.converter.specs.Convert.{read_old, new_book}

-- "both give the same results, answers and nodes for every question and fuel, provided the converted book fits": the whole outcome, in any lent memory
abbrev pub SameRuns : Type 0
SameRuns = (bs : List ℕ) (r : Rules) (p : ℕ) → read_old bs ≡ got r p → length (new_book r) ≤ most_book_bytes
    → (question : List ℕ) (fuel : ℕ) (m : Memory) → run (new_book r) question fuel m ≡ run bs question fuel m

-- what it writes is admitted exactly if it fits; and then it means the old rules without their exempts
abbrev pub AdmittedIfFits : Type 0
AdmittedIfFits = (bs : List ℕ) (r : Rules) (p : ℕ) → read_old bs ≡ got r p
    → (length (new_book r) ≤ most_book_bytes → read_book (new_book r) ≡ got (converted r) (length (new_book r)))
    × (most_book_bytes < length (new_book r) → read_book (new_book r) ≡ refusal 1 0)

-- of an old book and a new one: "any admitted version 1 book as version 2 with a fail rule in each such spot", and that both give the same runs
pub record Replaces (old new : List ℕ) : Type 0 where
  pub rules : Rules
  pub end : ℕ
  pub admitted : read_book old ≡ got rules end
  pub first : version_of old ≡ 1
  pub second : version_of new ≡ 2
  pub written : read_book new ≡ got (converted rules) (length new)
  pub runs : (question : List ℕ) (fuel : ℕ) (m : Memory) → run new question fuel m ≡ run old question fuel m
