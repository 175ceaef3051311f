-- What an editor is told when a listing is saved: the levels or, in the same row, a circle.
use Rattle.std.specs.Prelude.{true, false, List, ◌++◌, ℕ, ltb, length, drop}
use Rattle.std.proofs.Math.Option.{Option, none, some}
use Rattle.reading.specs.Reading.{got, refusal}
use Rattle.tagged.specs.Listing.{Broader, broader_in}
use Rattle.tagged.specs.Write.{passes}
use Rattle.tagged.specs.Levels.{levels}
use Rattle.tagged.specs.Circle.{circle}

-- the numbers handed back: 0 or the refusal, the line concerned, how many headings there are, and how many of them the circle has. Where
-- that is 0 there is no circle, and the row's first numbers are the levels of the headings; else they are the circle's headings.
pub record Result : Type 0 where
  pub number : ℕ
  pub line : ℕ
  pub headings : ℕ
  pub circle : ℕ

pub record Outcome : Type 0 where
  pub result : Result
  pub row : List ℕ

abbrev pub refusing : ℕ → ℕ → List ℕ → Outcome
refusing c line row = record { result = record { number = c; line = line; headings = 0; circle = 0 }; row = row }

-- over the front of the row; the rest is untouched
abbrev pub over : List ℕ → List ℕ → List ℕ
over new row = new ++ drop (length new) row

-- "Answer with a level for every heading .., or, in the same row, with the shortest circle": of so many headings
unfoldable pub answered : Broader → Option (List ℕ) → List ℕ → Outcome
answered broader none row = record { result = record { number = 0; line = 0; headings = length broader; circle = 0 }; row = over (levels broader) row }
answered broader (some c) row = record { result = record { number = 0; line = 0; headings = length broader; circle = length c }; row = over c row }

-- "44 if the lent row of levels is shorter than the headings"
unfoldable pub judged : Broader → List ℕ → Outcome
judged broader row = elim (passes broader) [
  | true ↦ refusing 43 0 row
  | false ↦ elim (ltb (length row) (length broader)) [
    | true ↦ refusing 44 0 row
    | false ↦ answered broader (circle broader) row
  ]
]

-- "Refusals: those of L5 (43 for sizes only), and 44"
unfoldable pub saved_as : List ℕ → List ℕ → Outcome
saved_as listing row = elim (broader_in listing) [
  | refusal c line ↦ refusing c line row
  | got broader _ ↦ judged broader row
]
