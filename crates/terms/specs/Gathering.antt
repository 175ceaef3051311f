-- How the code gathers broader terms, line by line: in sums and in the two rows of TermRows. For contracts of inner functions.
use Rattle.std.specs.Prelude.{Bool, ◌&&◌, ◌≡◌, List, [], ℕ, zero, suc, ◌+◌, ◌*◌, ◌≤◌, ◌<◌, leb, length, get_or, set}
use Rattle.limits.specs.Sizes.{most_book_bytes}
use Rattle.reading.specs.Reading.{Reading, got, refusal}
use Rattle.tagged.specs.Lines.{Name, Line, heading, broader, narrower, other, lines_of}
use Rattle.tagged.specs.Listing.{Broader, number_of, headings_of}
use Rattle.terms.specs.Places.{bytes_of}
use Rattle.terms.specs.TermRows.{most_headings}
use Rattle.terms.specs.declared.terms.Sum.{Sum}

-- the most broader terms of one heading: "64 nodes in one expression", of which 16 take 63
abbrev pub most_own : ℕ
most_own = 16

-- a good listing that has no more headings than a book has room for
abbrev pub FewHeadings : Reading Broader → Type 0
FewHeadings (refusal c line) = ⊥
FewHeadings (got terms n) = length terms ≤ most_headings

-- so many headings are noted by the places where their names open and end, in the order of their numbers
pub record Noted (s opens ends : List ℕ) (names : List Name) (count : ℕ) : Type 0 where
  pub inside : (x : ℕ) → x < count → get_or ends x 0 ≤ length s
  pub stand : (x : ℕ) → x < count → bytes_of s (get_or opens x 0) (get_or ends x 0) ≡ get_or names x []

-- all headings of a listing are
pub record AllNoted (s opens ends : List ℕ) (count : ℕ) : Type 0 where
  pub all : count ≡ length (headings_of (lines_of s))
  pub few : count ≤ most_headings
  pub noted : Noted s opens ends (headings_of (lines_of s)) count

-- what a line adds to them
abbrev pub count_after : Line → ℕ → ℕ
count_after (heading name) count = count + 1
count_after (broader name) count = count
count_after (narrower name) count = count
count_after other count = count

abbrev pub places_after : Line → ℕ → ℕ → List ℕ → List ℕ
places_after (heading name) count place places = set places count place
places_after (broader name) count place places = places
places_after (narrower name) count place places = places
places_after other count place places = places

abbrev pub RoomToNote : Line → ℕ → Type 0
RoomToNote (heading name) count = count < most_headings
RoomToNote (broader name) count = Unit
RoomToNote (narrower name) count = Unit
RoomToNote other count = Unit

-- one line was noted, from place `at` to its newline at `end`
pub record LineNoted (line : Line) (at end count after : ℕ) (opens opens_now ends ends_now : List ℕ) : Type 0 where
  pub counted : after ≡ count_after line count
  pub opened : opens_now ≡ places_after line count at opens
  pub ended : ends_now ≡ places_after line count end ends

-- the sums are those of a book within its sizes
pub record Within (sum : Sum) : Type 0 where
  pub headings : sum.headings ≤ most_headings
  pub own : sum.own ≤ most_own
  pub terms : 12 * sum.terms ≤ sum.size
  pub size : sum.size ≤ most_book_bytes

-- the bytes that a heading's first broader term adds, in the place of two rules to fail, and a further one
abbrev pub grown_by : ℕ → ℕ
grown_by zero = 8
grown_by (suc k) = 12

-- after a heading's own line: three symbols of 3 bytes, and two rules to fail, of 4 each
abbrev pub sum_opened : Sum → Sum
sum_opened sum = record { headings = sum.headings + 1; own = 0; terms = sum.terms; size = sum.size + 17 }

-- after a BT line
abbrev pub sum_added : Sum → Sum
sum_added sum = record { headings = sum.headings; own = sum.own + 1; terms = sum.terms + 1; size = sum.size + grown_by sum.own }

-- after any line
abbrev pub sum_after : Line → Sum → Sum
sum_after (heading name) sum = sum_opened sum
sum_after (broader name) sum = sum_added sum
sum_after (narrower name) sum = sum
sum_after other sum = sum

-- where the rows open: a new one where the last ends; the last one ends behind its new term
abbrev pub from_after : Line → Sum → List ℕ → List ℕ
from_after (heading name) sum from = set from (sum.headings + 1) sum.terms
from_after (broader name) sum from = set from sum.headings (sum.terms + 1)
from_after (narrower name) sum from = from
from_after other sum from = from

-- and the terms in them
abbrev pub to_after : List Name → Line → Sum → List ℕ → List ℕ
to_after headings (heading name) sum to = to
to_after headings (broader name) sum to = set to sum.terms (number_of name headings)
to_after headings (narrower name) sum to = to
to_after headings other sum to = to

-- there is room for what the line says
abbrev pub RoomFor : List Name → Line → Sum → Type 0
RoomFor headings (heading name) sum = sum.headings < most_headings
RoomFor headings (broader name) sum = number_of name headings < most_headings
RoomFor headings (narrower name) sum = Unit
RoomFor headings other sum = Unit

-- one line was taken
pub record LineTaken (headings : List Name) (line : Line) (sum after : Sum) (from from_now to to_now : List ℕ) : Type 0 where
  pub sums : after ≡ sum_after line sum
  pub opened : from_now ≡ from_after line sum from
  pub filled : to_now ≡ to_after headings line sum to

-- no size is passed so far
abbrev pub within_by : Sum → Bool
within_by sum = leb sum.own most_own && leb sum.size most_book_bytes
