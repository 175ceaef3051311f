-- "43 the book would pass a size in document 01 or the room lent": it is told where the reader would refuse the book's bytes, or the room
-- is too short for them, and nowhere else. "43 gives line 0, and nothing is written."
use Rattle.std.specs.Prelude.{◌⊎◌, ◌≡◌, List, ℕ, ◌<◌, length}
use Rattle.reading.specs.Reading.{got, refusal}
use Rattle.book.specs.Admission.{read_book}
use Rattle.tagged.specs.Listing.{Broader, broader_in}
use Rattle.tagged.specs.Terms.{rules_for}
use Rattle.tagged.specs.Laid.{laid}
use Rattle.tagged.specs.Write.{refusing, book_from}

-- these bytes are no book: the reader refuses them
abbrev pub NoBook : List ℕ → Type 0
NoBook bytes = (c : ℕ) × (place : ℕ) × (read_book bytes ≡ refusal c place)

-- the book of a listing that says this of broader terms passes the room lent, or a size
abbrev pub TooLarge : Broader → List ℕ → Type 0
TooLarge broader room = (length room < length (laid (rules_for broader))) ⊎ NoBook (laid (rules_for broader))

pub record Told43 (listing room : List ℕ) : Type 0 where
  -- told only where it is so
  pub only : (book_from listing room).result.number ≡ 43
      → (broader : Broader) × (line : ℕ) × (broader_in listing ≡ got broader line) × TooLarge broader room
  -- and wherever it is so
  pub always : (broader : Broader) (line : ℕ) → broader_in listing ≡ got broader line → TooLarge broader room
      → book_from listing room ≡ refusing 43 0 room
