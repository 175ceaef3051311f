-- What the code answers, and what it leaves of the totals, in the words of the definitions.
use Rattle.std.specs.Prelude.{List, [], ◌∷◌, ◌≡◌, ℕ, ◌+◌, ◌-◌, ◌<◌, ◌≤◌, length, get_or, set, Result, Ok, Err}
use Rattle.reading.specs.Reading.{Reading, got, refusal}
use Rattle.reading.specs.Answer.{keeping, nothing}
use Rattle.tallies.specs.declared.Refusal.{Refusal}
use Rattle.tallies.specs.declared.Fault.{Fault}
use Rattle.tallies.specs.declared.Fault.TheVariants.{Layout, PastRow, PastBits}
use Rattle.tallies.specs.Tallied.{how_many, symbols_at}

-- the row after it: what is refused leaves it as it was
unfoldable pub left_of : List ℕ → Reading (List ℕ) → List ℕ
left_of row (got row' p) = row'
left_of row (refusal c p) = row

-- "60 a book cut short or not in the layout, 61 a symbol past the row, 62 a total past 32 bits"
abbrev pub number_of : Fault → ℕ
number_of Layout = 60
number_of PastRow = 61
number_of PastBits = 62

-- the code's answer, the place behind what was added or the refusal, as the definitions have it
abbrev pub reading_of : Result ℕ Refusal → Reading ℕ
reading_of (Ok next) = got 0 next
reading_of (Err r) = refusal (number_of r.fault) r.place

-- what was to be added to a row, what the code answers, and the row that it leaves
abbrev pub AddedAs : Reading (List ℕ) → Result ℕ Refusal → List ℕ → List ℕ → Type 0
AddedAs t r row row' = (reading_of r ≡ keeping nothing t) × (row' ≡ left_of row t)

-- one more at f, where the row goes so far and the total stays within 32 bits
abbrev pub Grown : ℕ → List ℕ → Result (Unit {0}) Fault → List ℕ → Type 0
Grown f row (Ok done) row' = (f < length row) × (get_or row f 0 < 4294967295) × (row' ≡ set row f (get_or row f 0 + 1))
Grown f row (Err PastRow) row' = (length row ≤ f) × (row' ≡ row)
Grown f row (Err PastBits) row' = (f < length row) × (4294967295 ≤ get_or row f 0) × (row' ≡ row)
Grown f row (Err Layout) row' = ⊥

-- ---- what was added is taken back

-- one less at f
abbrev pub Lessened : ℕ → List ℕ → List ℕ → Type 0
Lessened f row row' = row' ≡ set row f (get_or row f 0 - 1)

-- a row from whose total at each f so many were taken
pub record Less (row : List ℕ) (many : ℕ → ℕ) (row' : List ℕ) : Type 0 where
  pub long : length row' ≡ length row
  pub total : (f : ℕ) → f < length row → get_or row' f 0 ≡ get_or row f 0 - many f

-- these answers were
abbrev pub TakenBack : List ℕ → List (List ℕ) → List ℕ → Type 0
TakenBack row answers row' = Less row (λ f. how_many f answers) row'

-- one answer, by its symbols
abbrev pub answer_over : List ℕ → ℕ → ℕ → List (List ℕ)
answer_over bs count from = symbols_at bs count from ∷ []
