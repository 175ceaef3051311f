-- Requests L5 and L6 of the code: what is promised of the numbers that `write_listing` and `save_listing` hand back, and of lent memory after them.
use Rattle.std.specs.Prelude.{◌≡◌, ◌↔◌, List, ℕ, ◌<◌, length, get_or, take, drop}
use Rattle.reading.specs.Reading.{got}
use Rattle.tagged.specs.Listing.{Broader, broader_in}
use Rattle.tagged.specs.Hops.{HasCircle}
use Rattle.tagged.specs.Told.{FirstCircle, IsLevel}
use Rattle.tagged.specs.Write as Write
use Rattle.tagged.specs.Saved as Saved
use Rattle.above.specs.Promised.{Promised}
use Rattle.above.specs.TooLarge.{TooLarge}
use Rattle.nights.specs.Nights.{book_in, Nights}

-- of the book of a listing, written into this room
pub record Writes (listing room : List ℕ) (o : Write.Outcome) : Type 0 where
  -- it is admitted, and "for every heading, the values the first can reach are exactly its BT headings, and the second's are those one or more BT hops up"
  pub says : o.result.number ≡ 0 → Promised listing o
  -- what runs over it tell, and when they are finished
  pub tells : (done : o.result.number ≡ 0) → Nights (says done).broader (book_in o)
  -- "43 the book would pass a size in document 01 or the room lent": told exactly where the reader would refuse the bytes or the room is too short
  pub only43 : o.result.number ≡ 43 → (broader : Broader) × (line : ℕ) × (broader_in listing ≡ got broader line) × TooLarge broader room
  pub always43 : (broader : Broader) (line : ℕ) → broader_in listing ≡ got broader line → TooLarge broader room → o.result.number ≡ 43
  -- "nothing is written" on a refusal, and never anything behind the book
  pub untouched : (o.result.number ≡ 0 → ⊥) → o.room ≡ room
  pub behind : drop o.result.bytes o.room ≡ drop o.result.bytes room

-- of what is answered when a listing is saved that says this of broader terms
pub record Answers (broader : Broader) (row : List ℕ) (o : Saved.Outcome) : Type 0 where
  pub headings : o.result.headings ≡ length broader
  -- "A circle is reported exactly if one exists."
  pub reported : HasCircle broader ↔ (0 < o.result.circle)
  -- "the shortest circle of headings, the first in number order"; the rest of the row is as it was
  pub circle_is : 0 < o.result.circle
      → FirstCircle broader (take o.result.circle o.row) × (drop o.result.circle o.row ≡ drop o.result.circle row)
  -- "a level for every heading, the longest chain of BT hops above it"; the rest of the row is as it was
  pub levels_are : o.result.circle ≡ 0
      → ((x : ℕ) → x < length broader → IsLevel broader x (get_or o.row x 0)) × (drop (length broader) o.row ≡ drop (length broader) row)

pub record Saves (listing row : List ℕ) (o : Saved.Outcome) : Type 0 where
  pub answers : o.result.number ≡ 0 → (broader : Broader) × (line : ℕ) × (broader_in listing ≡ got broader line) × Answers broader row o
  pub untouched : (o.result.number ≡ 0 → ⊥) → o.row ≡ row
