-- What a run over the book of a listing tells, from bytes to bytes.
use Rattle.std.specs.Prelude.{◌≡◌, ◌⊎◌, List, [], ◌∷◌, ℕ, ◌+◌, ◌*◌, ◌≤◌, ◌<◌, length, take}
use Rattle.limits.specs.Sizes.{most_choices}
use Rattle.tagged.specs.Listing.{Broader}
use Rattle.tagged.specs.Hops.{broader_of, IsBroader, Above, HasCircle}
use Rattle.tagged.specs.Write.{Outcome as Written}
use Rattle.machine.specs.Answers.{Answer}
use Rattle.machine.specs.Turn.{Rooms}
use Rattle.machine.specs.Run.{Memory, Outcome, rooms_of, run}
use Rattle.meaning.specs.Demand3.{answer_at}
use Rattle.meaning.specs.Records.{answers_in}
use Rattle.above.specs.Promised.{asking}
use Rattle.nights.specs.Costs.{turns_price, choices_price, entries_price, cost_at}

-- the book that was written
abbrev pub book_in : Written → List ℕ
book_in o = take o.result.bytes o.room

-- the records that are read back from the answer bytes
abbrev pub records : Outcome → List Answer
records o = answers_in o.result.answers o.memory.bytes

-- Each record is a heading of which P holds, even before a refusal; and if the run is finished, each such heading has a record.
pub record Told (P : ℕ → Type 0) (o : Outcome) : Type 0 where
  pub sound : (i : ℕ) → i < length (records o) → (b : ℕ) × P b × ((answer_at (records o) i).symbols ≡ b ∷ [])
  pub complete : o.result.number ≡ 0 → (b : ℕ) → P b → (i : ℕ) × (i < length (records o)) × ((answer_at (records o) i).symbols ≡ b ∷ [])

-- a record with one symbol is no longer than this
abbrev pub most_record : ℕ
most_record = 6 + 2 * most_choices

-- there is room for so many choices, entries and records
pub record Roomy (choices entries : ℕ) (r : Rooms) : Type 0 where
  pub few : choices ≤ most_choices
  pub nodes : 1 + 2 * choices ≤ r.nodes
  pub places : entries ≤ r.places
  pub bytes : 1 + most_record * entries ≤ r.bytes

-- how a run can end where there is room for 575 nodes: finished, out of fuel, or for want of choices, entries or answer room
abbrev pub enough_nodes : ℕ
enough_nodes = 575

abbrev pub Among : ℕ → Type 0
Among number = (number ≡ 0) ⊎ (number ≡ 20) ⊎ (number ≡ 22) ⊎ (number ≡ 23) ⊎ (number ≡ 25)

-- of the book that was written of a listing, which says this of broader terms
pub record Nights (broader : Broader) (book : List ℕ) : Type 0 where
  -- WHAT IS TOLD, of each heading, under any fuel and in any lent memory
  pub first : (x : ℕ) → x < length broader → (fuel : ℕ) (m : Memory) → Told (IsBroader broader x) (run book (asking (length broader + x)) fuel m)
  pub second : (x : ℕ) → x < length broader → (fuel : ℕ) (m : Memory) → Told (Above broader x) (run book (asking (length broader + length broader + x)) fuel m)
  -- FINISHED: its broader terms, of any heading, circles or not
  pub first_finished : (x : ℕ) → x < length broader → (fuel : ℕ) (m : Memory) → let k = length (broader_of broader x) in
      2 + 2 * k ≤ fuel → Roomy k (1 + k) (rooms_of m) → (run book (asking (length broader + x)) fuel m).result.number ≡ 0
  -- FINISHED: all terms above it, where there is no circle
  pub second_finished : (HasCircle broader → ⊥) → (x : ℕ) → x < length broader → (fuel : ℕ) (m : Memory)
      → cost_at turns_price broader x ≤ fuel → Roomy (cost_at choices_price broader x) (cost_at entries_price broader x) (rooms_of m)
      → (run book (asking (length broader + length broader + x)) fuel m).result.number ≡ 0
  -- NEVER 21 NOR 24: whatever is asked, with circles or without
  pub among : (f : ℕ) → f < length broader + (length broader + length broader) → (fuel : ℕ) (m : Memory) → enough_nodes ≤ (rooms_of m).nodes → 1 ≤ (rooms_of m).places
      → 1 ≤ (rooms_of m).bytes → Among (run book (asking f) fuel m).result.number
