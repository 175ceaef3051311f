-- What the code's answers mean in the words of the definitions.
use Rattle.std.specs.Prelude.{List, ℕ, ◌+◌, ◌-◌, take, drop, Result, Ok, Err}
use Rattle.reading.specs.declared.Refusal.{Refusal}
use Rattle.reading.specs.declared.Fault.{Fault}
use Rattle.reading.specs.declared.Fault.TheVariants.{Extent, Version, Symbol, Code, Sort}
use Rattle.reading.specs.declared.Asker.{Asker}
use Rattle.reading.specs.declared.Asker.TheVariants.{Book, Question}
use Rattle.reading.specs.Reading.{Reading, got, refusal}

-- "11 to 15: the same in the question"
abbrev pub base_of : Asker → ℕ
base_of Book = 0
base_of Question = 10

-- the numbers of the table of refusals, in the book
abbrev pub number_of : Fault → ℕ
number_of Extent = 1
number_of Version = 2
number_of Symbol = 3
number_of Code = 4
number_of Sort = 5

-- the number of a refusal
abbrev pub refusal_number : Refusal → ℕ
refusal_number r = base_of r.who + number_of r.fault

-- the code's answer, as the definitions have it
abbrev pub reading_of : Result (ℕ × ℕ) Refusal → Reading ℕ
reading_of (Ok (value, next)) = got value next
reading_of (Err r) = refusal (refusal_number r) r.place

-- the same of an answer that is a place alone: nothing was read but what lies before it
abbrev pub behind_of : Result ℕ Refusal → Reading ℕ
behind_of (Ok next) = got 0 next
behind_of (Err r) = refusal (refusal_number r) r.place

-- the same of an answer of which two numbers are told
abbrev pub reading_by : {A : Type 0} → (A → ℕ × ℕ) → Result A Refusal → Reading ℕ
reading_by told (Ok a) = got (told a).0 (told a).1
reading_by told (Err r) = refusal (refusal_number r) r.place

-- of what was read the code keeps a number
unfoldable pub keeping : {A : Type 0} → (A → ℕ) → Reading A → Reading ℕ
keeping number (got a p) = got (number a) p
keeping number (refusal c p) = refusal c p

-- nothing is kept
abbrev pub nothing : {A : Type 0} → A → ℕ
nothing a = 0

-- the bytes from one place to another
abbrev pub part_of : List ℕ → ℕ → ℕ → List ℕ
part_of s from to = take (to - from) (drop from s)
