-- What the code of `save_listing` keeps on its way. For contracts of inner functions.
use Rattle.std.specs.Prelude.{Option, Some, None, Result, Ok, Err, Bool, true, false, ◌&&◌, ◌≡◌, List, [], ◌∷◌, ℕ, zero, suc, min, ◌≤◌, ◌<◌, leb, length, get_or}
use Rattle.std.proofs.Math.Option.{none, some}
use Rattle.tagged.specs.Listing.{Broader}
use Rattle.tagged.specs.Hops.{broader_of, IsBroader}
use Rattle.tagged.specs.Levels.{longest, levels}
use Rattle.tagged.specs.Circle.{some_marked, returns, lowest, way_to, circle}
use Rattle.terms.specs.TermRows.{broader_rows, most_headings, most_terms, HoldTerms}
use Rattle.tagged.specs.Saved.{Outcome, over, answered}
use Rattle.terms.specs.Refusals.{number_of}
use Rattle.terms.specs.declared.faults.Refusal.{Refusal}
use Rattle.circles.specs.declared.circle.Saved.{Saved}
use Rattle.circles.specs.declared.circle.Shortest.{Shortest}

-- the broader terms that two rows hold, of n headings
abbrev pub held : List ℕ → List ℕ → ℕ → Broader
held from to n = broader_rows from to n 0

-- rows that hold them, and how many places the second has
pub record Holding (from to : List ℕ) (n : ℕ) : Type 0 where
  pub terms : HoldTerms from to n
  pub places : length to ≡ most_terms

-- the numbers handed back and the row, as the definition has them
abbrev pub outcome_of : Result Saved Refusal → List ℕ → Outcome
outcome_of (Ok told) row = record { result = record { number = 0; line = 0; headings = told.headings; circle = told.circle }; row = row }
outcome_of (Err r) row = record { result = record { number = number_of r.fault; line = r.line; headings = 0; circle = 0 }; row = row }

-- ---- levels

-- two rows with the same numbers; behind the headings both have 0
abbrev pub SameRow : List ℕ → List ℕ → Type 0
SameRow a b = (x : ℕ) → get_or a x 0 ≡ get_or b x 0

-- whether two rows have the same numbers for n headings
pub record SameAs (a b : List ℕ) (n : ℕ) (r : Bool) : Type 0 where
  pub same : r ≡ true → (x : ℕ) → x < n → get_or a x 0 ≡ get_or b x 0
  pub other : r ≡ false → SameRow a b → ⊥

-- no chain is longer than there are headings at most
abbrev pub Low : List ℕ → Type 0
Low row = (x : ℕ) → get_or row x 0 ≤ most_headings

-- the next row of chains
abbrev pub RoundOf : Broader → List ℕ → List ℕ → Type 0
RoundOf broader row next = (x : ℕ) → get_or next x 0 ≡ longest row (broader_of broader x)

-- a row that settled has the levels, and there is no circle; else there is one
abbrev pub LevelledAs : Broader → Option (List ℕ) → Type 0
LevelledAs broader (Some row) = (circle broader ≡ none) × SameRow row (levels broader)
LevelledAs broader None = circle broader ≡ none → ⊥

-- the levels of n headings, over the front of a row, whoever holds them
abbrev pub PutLevels : ℕ → List ℕ → List ℕ → List ℕ → Type 0
PutLevels n own row after = (levels : List ℕ) → SameRow own levels → length levels ≡ n → after ≡ over levels row

-- ---- the circle

-- the same marks; behind the headings none is set
abbrev pub SameMarks : List Bool → List Bool → Type 0
SameMarks a b = (x : ℕ) → get_or a x false ≡ get_or b x false

-- the headings, from `low` on, from which one hop leads to a marked one
abbrev pub HopFrom : Broader → ℕ → List Bool → List Bool → Type 0
HopFrom broader low marks next = (x : ℕ) → get_or next x false ≡ (leb low x && some_marked marks (broader_of broader x))

-- z stands so many BT hops above x, by headings no lower than `low`
pub data HopsFrom (broader : Broader) (low : ℕ) : ℕ → ℕ → ℕ → Type 0 where
  still : {x : ℕ} → HopsFrom broader low 0 x x
  step : {k x y z : ℕ} → low ≤ x → IsBroader broader x y → HopsFrom broader low k y z → HopsFrom broader low (suc k) x z

-- no heading is marked
abbrev pub NoMark : List Bool → ℕ → Bool → Type 0
NoMark marks n r = r ≡ true → (x : ℕ) → x < n → get_or marks x false ≡ false

-- the lowest broader term of `here` that is marked, whoever holds these marks of n headings
abbrev pub LowestAs : Broader → ℕ → List Bool → ℕ → ℕ → Type 0
LowestAs broader n marks here r = (own : List Bool) → SameMarks marks own → length own ≡ n → r ≡ lowest own (broader_of broader here)

-- the lower of two, where the first counts at all
abbrev pub lower_of : Bool → ℕ → ℕ → ℕ
lower_of true b low = min b low
lower_of false b low = low

-- in how many hops, fewer than `best`, x is first reached from itself by headings no lower; `best` if in none
pub record BackIn (broader : Broader) (x best r : ℕ) : Type 0 where
  pub any : 1 ≤ r
  pub within : r ≤ best
  pub before : (k : ℕ) → 1 ≤ k → k < r → HopsFrom broader x k x x → ⊥
  pub back : r < best → returns broader r x ≡ true

-- the hops of a shortest circle and the heading that it starts with, if there is a circle
pub record IsShortest (broader : Broader) (s : Shortest) : Type 0 where
  pub any : 1 ≤ s.hops
  pub few : s.hops ≤ length broader
  pub first : s.first < length broader
  pub found : circle broader ≡ some (s.first ∷ way_to broader s.first s.hops s.first)

abbrev pub ShortestAs : Broader → Option Shortest → Type 0
ShortestAs broader (Some s) = IsShortest broader s
ShortestAs broader None = circle broader ≡ none

-- the headings from `here` on to x, so many hops on
unfoldable pub way_from : Broader → ℕ → ℕ → ℕ → List ℕ
way_from broader x zero here = []
way_from broader x (suc left) here = here ∷ way_to broader x (suc left) here

-- the levels or the circle stand in the row, and r is how many headings the circle has
abbrev pub AnsweredAs : Broader → ℕ → List ℕ → List ℕ → Type 0
AnsweredAs broader r row after =
    answered broader (circle broader) row ≡ record { result = record { number = 0; line = 0; headings = length broader; circle = r }; row = after }
