-- Listings, good and bad, and what comes of each: one table. What is claimed was computed by an independent evaluator, not by these definitions.
use Rattle.std.specs.Prelude.{◌≡◌, List, [], ◌∷◌, ◌++◌, ℕ, ◌-◌, length, replicate}
use Prim.Native.Char.{code}
use Prim.Native.String as Text
use Prim.Native.String.{String}
use Rattle.tagged.specs.Write as Write
use Rattle.tagged.specs.Saved as Saved

-- the bytes of a text
unfoldable pub text : String → List ℕ
text Text.[] = []
text (Text.◌∷◌ c s) = code c ∷ text s

pub record Case : Type 0 where
  pub listing : List ℕ
  pub room : List ℕ
  pub row : List ℕ
  pub written : Write.Outcome
  pub saved : Saved.Outcome

-- a listing, so many bytes of room, so many places of a row; the refusal, line and bytes of its book; the refusal, line, headings and circle told
-- when it is saved, and what stands in the row
unfoldable pub case : String → ℕ → ℕ → ℕ → ℕ → List ℕ → ℕ → ℕ → ℕ → ℕ → List ℕ → Case
case listing room row number line bytes number' line' headings circle numbers = record {
  listing = text listing;
  room = replicate room 9;
  row = replicate row 7;
  written = record { result = record { number = number; line = line; bytes = length bytes }; room = bytes ++ replicate (room - length bytes) 9 };
  saved = record {
    result = record { number = number'; line = line'; headings = headings; circle = circle };
    row = numbers ++ replicate (row - length numbers) 7;
  };
}

unfoldable pub Hold : List Case → Type 0
Hold [] = Unit {0}
Hold (c ∷ cases) =
    ((Write.book_from c.listing c.room ≡ c.written) × (Saved.saved_as c.listing c.row ≡ c.saved)) × Hold cases

unfoldable pub cases : List Case
cases =
    -- the archive's own: corn dollies, with a circle between plaiting and straw work
    case "corn dollies\n  BT straw work\n  BT harvest customs\nplaiting\n  BT straw work\n  NT straw work\nstraw work\n  BT crafts\n  BT plaiting\n  NT corn dollies\n  NT plaiting\nharvest customs\n  BT calendar customs\n  NT corn dollies\ncrafts\n  NT straw work\ncalendar customs\n  NT harvest customs\n" 400 8
    0 0 (1 ∷ 0 ∷ 54 ∷ 2 ∷ 0 ∷ 0 ∷ 2 ∷ 0 ∷ 0 ∷ 2 ∷ 0 ∷ 0 ∷ 2 ∷ 0 ∷ 0 ∷ 2 ∷ 0 ∷ 0 ∷ 2 ∷ 0 ∷ 0 ∷ 2 ∷ 1 ∷ 0 ∷ 2 ∷ 1 ∷ 0 ∷ 2 ∷ 1 ∷ 0 ∷ 2 ∷ 1 ∷ 0 ∷ 2 ∷ 1 ∷ 0 ∷ 2 ∷ 1 ∷ 0 ∷ 2 ∷ 1 ∷ 0 ∷ 2 ∷ 1 ∷ 0 ∷ 2 ∷ 1 ∷ 0 ∷ 2 ∷ 1 ∷ 0 ∷ 2 ∷ 1 ∷ 0 ∷ 2 ∷ 1 ∷ 0 ∷ 0 ∷ 104 ∷ 0 ∷ 8 ∷ 1 ∷ 2 ∷ 1 ∷ 0 ∷ 2 ∷ 1 ∷ 0 ∷ 3 ∷ 0 ∷ 4 ∷ 1 ∷ 1 ∷ 0 ∷ 2 ∷ 0 ∷ 8 ∷ 1 ∷ 2 ∷ 1 ∷ 0 ∷ 4 ∷ 1 ∷ 0 ∷ 1 ∷ 0 ∷ 4 ∷ 1 ∷ 1 ∷ 0 ∷ 5 ∷ 0 ∷ 2 ∷ 1 ∷ 3 ∷ 0 ∷ 2 ∷ 1 ∷ 3 ∷ 0 ∷ 16 ∷ 1 ∷ 2 ∷ 1 ∷ 0 ∷ 2 ∷ 2 ∷ 1 ∷ 0 ∷ 14 ∷ 2 ∷ 1 ∷ 0 ∷ 3 ∷ 1 ∷ 0 ∷ 15 ∷ 0 ∷ 8 ∷ 1 ∷ 2 ∷ 1 ∷ 0 ∷ 2 ∷ 1 ∷ 0 ∷ 14 ∷ 0 ∷ 16 ∷ 1 ∷ 2 ∷ 1 ∷ 0 ∷ 4 ∷ 2 ∷ 1 ∷ 0 ∷ 16 ∷ 2 ∷ 1 ∷ 0 ∷ 1 ∷ 1 ∷ 0 ∷ 13 ∷ 0 ∷ 8 ∷ 1 ∷ 2 ∷ 1 ∷ 0 ∷ 5 ∷ 1 ∷ 0 ∷ 17 ∷ 0 ∷ 2 ∷ 1 ∷ 3 ∷ 0 ∷ 2 ∷ 1 ∷ 3 ∷ [])
    0 0 6 2 (1 ∷ 2 ∷ [])
    -- the same without the slip
    ∷ case "corn dollies\n  BT straw work\n  BT harvest customs\nplaiting\n  BT straw work\nstraw work\n  BT crafts\n  NT corn dollies\n  NT plaiting\nharvest customs\n  BT calendar customs\n  NT corn dollies\ncrafts\n  NT straw work\ncalendar customs\n  NT harvest customs\n" 400 8
    0 0 (1 ∷ 0 ∷ 54 ∷ 2 ∷ 0 ∷ 0 ∷ 2 ∷ 0 ∷ 0 ∷ 2 ∷ 0 ∷ 0 ∷ 2 ∷ 0 ∷ 0 ∷ 2 ∷ 0 ∷ 0 ∷ 2 ∷ 0 ∷ 0 ∷ 2 ∷ 1 ∷ 0 ∷ 2 ∷ 1 ∷ 0 ∷ 2 ∷ 1 ∷ 0 ∷ 2 ∷ 1 ∷ 0 ∷ 2 ∷ 1 ∷ 0 ∷ 2 ∷ 1 ∷ 0 ∷ 2 ∷ 1 ∷ 0 ∷ 2 ∷ 1 ∷ 0 ∷ 2 ∷ 1 ∷ 0 ∷ 2 ∷ 1 ∷ 0 ∷ 2 ∷ 1 ∷ 0 ∷ 2 ∷ 1 ∷ 0 ∷ 0 ∷ 92 ∷ 0 ∷ 8 ∷ 1 ∷ 2 ∷ 1 ∷ 0 ∷ 2 ∷ 1 ∷ 0 ∷ 3 ∷ 0 ∷ 4 ∷ 1 ∷ 1 ∷ 0 ∷ 2 ∷ 0 ∷ 4 ∷ 1 ∷ 1 ∷ 0 ∷ 4 ∷ 0 ∷ 4 ∷ 1 ∷ 1 ∷ 0 ∷ 5 ∷ 0 ∷ 2 ∷ 1 ∷ 3 ∷ 0 ∷ 2 ∷ 1 ∷ 3 ∷ 0 ∷ 16 ∷ 1 ∷ 2 ∷ 1 ∷ 0 ∷ 2 ∷ 2 ∷ 1 ∷ 0 ∷ 14 ∷ 2 ∷ 1 ∷ 0 ∷ 3 ∷ 1 ∷ 0 ∷ 15 ∷ 0 ∷ 8 ∷ 1 ∷ 2 ∷ 1 ∷ 0 ∷ 2 ∷ 1 ∷ 0 ∷ 14 ∷ 0 ∷ 8 ∷ 1 ∷ 2 ∷ 1 ∷ 0 ∷ 4 ∷ 1 ∷ 0 ∷ 16 ∷ 0 ∷ 8 ∷ 1 ∷ 2 ∷ 1 ∷ 0 ∷ 5 ∷ 1 ∷ 0 ∷ 17 ∷ 0 ∷ 2 ∷ 1 ∷ 3 ∷ 0 ∷ 2 ∷ 1 ∷ 3 ∷ [])
    0 0 6 0 (2 ∷ 2 ∷ 1 ∷ 1 ∷ 0 ∷ 0 ∷ [])
    -- one heading
    ∷ case "a\n" 22 1
    0 0 (1 ∷ 0 ∷ 9 ∷ 2 ∷ 0 ∷ 0 ∷ 2 ∷ 1 ∷ 0 ∷ 2 ∷ 1 ∷ 0 ∷ 0 ∷ 8 ∷ 0 ∷ 2 ∷ 1 ∷ 3 ∷ 0 ∷ 2 ∷ 1 ∷ 3 ∷ [])
    0 0 1 0 (0 ∷ [])
    -- no room for its book: 43
    ∷ case "a\n" 21 1
    43 0 ([])
    0 0 1 0 (0 ∷ [])
    -- a row too short: 44
    ∷ case "a\nb\n" 60 1
    0 0 (1 ∷ 0 ∷ 18 ∷ 2 ∷ 0 ∷ 0 ∷ 2 ∷ 0 ∷ 0 ∷ 2 ∷ 1 ∷ 0 ∷ 2 ∷ 1 ∷ 0 ∷ 2 ∷ 1 ∷ 0 ∷ 2 ∷ 1 ∷ 0 ∷ 0 ∷ 16 ∷ 0 ∷ 2 ∷ 1 ∷ 3 ∷ 0 ∷ 2 ∷ 1 ∷ 3 ∷ 0 ∷ 2 ∷ 1 ∷ 3 ∷ 0 ∷ 2 ∷ 1 ∷ 3 ∷ [])
    44 0 0 0 ([])
    -- "an empty listing: line 1"
    ∷ case "" 60 1
    40 1 ([])
    40 1 0 0 ([])
    -- an empty line
    ∷ case "a\n\nb\n" 60 4
    40 2 ([])
    40 2 0 0 ([])
    -- no newline at the end
    ∷ case "a\nb" 60 4
    40 2 ([])
    40 2 0 0 ([])
    -- a carriage return
    ∷ case "a\r\n" 60 4
    40 1 ([])
    40 1 0 0 ([])
    -- a byte past 126
    ∷ case "a\n~\n\u{7f}\n" 60 4
    40 3 ([])
    40 3 0 0 ([])
    -- one space in front
    ∷ case "a\n b\n" 60 4
    40 2 ([])
    40 2 0 0 ([])
    -- an unknown tag
    ∷ case "a\n  RT a\n" 60 4
    40 2 ([])
    40 2 0 0 ([])
    -- a tag in small letters
    ∷ case "a\n  bt a\n" 60 4
    40 2 ([])
    40 2 0 0 ([])
    -- a tag and no name
    ∷ case "a\n  BT \n" 60 4
    40 2 ([])
    40 2 0 0 ([])
    -- a tag and no space
    ∷ case "a\n  BT\n" 60 4
    40 2 ([])
    40 2 0 0 ([])
    -- a name that opens with a space
    ∷ case "a\n  BT  a\n" 60 4
    40 2 ([])
    40 2 0 0 ([])
    -- three spaces
    ∷ case "a\n   BT a\n" 60 4
    40 2 ([])
    40 2 0 0 ([])
    -- a BT before any heading
    ∷ case "  BT a\na\n" 60 4
    40 1 ([])
    40 1 0 0 ([])
    -- an NT before any heading
    ∷ case "  NT a\na\n" 60 4
    40 1 ([])
    40 1 0 0 ([])
    -- a heading given twice: the line that gives it again
    ∷ case "a\nb\na\nb\n" 60 4
    41 3 ([])
    41 3 0 0 ([])
    -- 41 in line 2 before 40 in line 3
    ∷ case "a\na\n b\n" 60 4
    41 2 ([])
    41 2 0 0 ([])
    -- 40 in line 2 before 41 in line 3
    ∷ case "a\n b\na\n" 60 4
    40 2 ([])
    40 2 0 0 ([])
    -- 40 before 42
    ∷ case "a\n  BT b\nb" 60 4
    40 3 ([])
    40 3 0 0 ([])
    -- a mirror line is missing
    ∷ case "a\n  BT b\nb\n" 90 4
    42 2 ([])
    42 2 0 0 ([])
    -- its mirror line is missing, the other way
    ∷ case "a\nb\n  NT a\n" 90 4
    42 3 ([])
    42 3 0 0 ([])
    -- a name that has no line of its own
    ∷ case "a\n  BT b\n" 60 4
    42 2 ([])
    42 2 0 0 ([])
    -- the first of two such lines
    ∷ case "a\n  NT b\n  BT c\nb\n" 60 4
    42 2 ([])
    42 2 0 0 ([])
    -- names differ in a blank at the end
    ∷ case "a\n  BT b\nb \n  NT a\n" 60 4
    42 2 ([])
    42 2 0 0 ([])
    -- a name like a tag, and one with blanks
    ∷ case "BT a\n  BT x  y\nx  y\n  NT BT a\n" 90 4
    0 0 (1 ∷ 0 ∷ 18 ∷ 2 ∷ 0 ∷ 0 ∷ 2 ∷ 0 ∷ 0 ∷ 2 ∷ 1 ∷ 0 ∷ 2 ∷ 1 ∷ 0 ∷ 2 ∷ 1 ∷ 0 ∷ 2 ∷ 1 ∷ 0 ∷ 0 ∷ 24 ∷ 0 ∷ 4 ∷ 1 ∷ 1 ∷ 0 ∷ 1 ∷ 0 ∷ 2 ∷ 1 ∷ 3 ∷ 0 ∷ 8 ∷ 1 ∷ 2 ∷ 1 ∷ 0 ∷ 1 ∷ 1 ∷ 0 ∷ 5 ∷ 0 ∷ 2 ∷ 1 ∷ 3 ∷ [])
    0 0 2 0 (1 ∷ 0 ∷ [])
    -- a BT line twice: the term stands twice
    ∷ case "a\n  BT b\n  BT b\nb\n  NT a\n" 90 4
    0 0 (1 ∷ 0 ∷ 18 ∷ 2 ∷ 0 ∷ 0 ∷ 2 ∷ 0 ∷ 0 ∷ 2 ∷ 1 ∷ 0 ∷ 2 ∷ 1 ∷ 0 ∷ 2 ∷ 1 ∷ 0 ∷ 2 ∷ 1 ∷ 0 ∷ 0 ∷ 36 ∷ 0 ∷ 8 ∷ 1 ∷ 2 ∷ 1 ∷ 0 ∷ 1 ∷ 1 ∷ 0 ∷ 1 ∷ 0 ∷ 2 ∷ 1 ∷ 3 ∷ 0 ∷ 16 ∷ 1 ∷ 2 ∷ 1 ∷ 0 ∷ 1 ∷ 2 ∷ 1 ∷ 0 ∷ 5 ∷ 2 ∷ 1 ∷ 0 ∷ 1 ∷ 1 ∷ 0 ∷ 5 ∷ 0 ∷ 2 ∷ 1 ∷ 3 ∷ [])
    0 0 2 0 (1 ∷ 0 ∷ [])
    -- its own broader term: a circle of one
    ∷ case "a\n  BT a\n  NT a\n" 60 4
    0 0 (1 ∷ 0 ∷ 9 ∷ 2 ∷ 0 ∷ 0 ∷ 2 ∷ 1 ∷ 0 ∷ 2 ∷ 1 ∷ 0 ∷ 0 ∷ 16 ∷ 0 ∷ 4 ∷ 1 ∷ 1 ∷ 0 ∷ 0 ∷ 0 ∷ 8 ∷ 1 ∷ 2 ∷ 1 ∷ 0 ∷ 0 ∷ 1 ∷ 0 ∷ 2 ∷ [])
    0 0 1 1 (0 ∷ [])
    -- two circles: the shorter
    ∷ case "a\n  BT b\n  NT c\nb\n  BT c\n  NT a\nc\n  BT a\n  NT b\n  BT d\n  NT d\nd\n  BT c\n  NT c\n" 400 6
    0 0 (1 ∷ 0 ∷ 36 ∷ 2 ∷ 0 ∷ 0 ∷ 2 ∷ 0 ∷ 0 ∷ 2 ∷ 0 ∷ 0 ∷ 2 ∷ 0 ∷ 0 ∷ 2 ∷ 1 ∷ 0 ∷ 2 ∷ 1 ∷ 0 ∷ 2 ∷ 1 ∷ 0 ∷ 2 ∷ 1 ∷ 0 ∷ 2 ∷ 1 ∷ 0 ∷ 2 ∷ 1 ∷ 0 ∷ 2 ∷ 1 ∷ 0 ∷ 2 ∷ 1 ∷ 0 ∷ 0 ∷ 76 ∷ 0 ∷ 4 ∷ 1 ∷ 1 ∷ 0 ∷ 1 ∷ 0 ∷ 4 ∷ 1 ∷ 1 ∷ 0 ∷ 2 ∷ 0 ∷ 8 ∷ 1 ∷ 2 ∷ 1 ∷ 0 ∷ 0 ∷ 1 ∷ 0 ∷ 3 ∷ 0 ∷ 4 ∷ 1 ∷ 1 ∷ 0 ∷ 2 ∷ 0 ∷ 8 ∷ 1 ∷ 2 ∷ 1 ∷ 0 ∷ 1 ∷ 1 ∷ 0 ∷ 9 ∷ 0 ∷ 8 ∷ 1 ∷ 2 ∷ 1 ∷ 0 ∷ 2 ∷ 1 ∷ 0 ∷ 10 ∷ 0 ∷ 16 ∷ 1 ∷ 2 ∷ 1 ∷ 0 ∷ 0 ∷ 2 ∷ 1 ∷ 0 ∷ 8 ∷ 2 ∷ 1 ∷ 0 ∷ 3 ∷ 1 ∷ 0 ∷ 11 ∷ 0 ∷ 8 ∷ 1 ∷ 2 ∷ 1 ∷ 0 ∷ 2 ∷ 1 ∷ 0 ∷ 10 ∷ [])
    0 0 4 2 (2 ∷ 3 ∷ [])
    -- two circles as short: the first in number order, lowest heading first
    ∷ case "a\nb\n  BT c\n  NT c\nc\n  BT b\n  NT b\n  BT d\n  NT d\nd\n  BT c\n  NT c\n" 400 6
    0 0 (1 ∷ 0 ∷ 36 ∷ 2 ∷ 0 ∷ 0 ∷ 2 ∷ 0 ∷ 0 ∷ 2 ∷ 0 ∷ 0 ∷ 2 ∷ 0 ∷ 0 ∷ 2 ∷ 1 ∷ 0 ∷ 2 ∷ 1 ∷ 0 ∷ 2 ∷ 1 ∷ 0 ∷ 2 ∷ 1 ∷ 0 ∷ 2 ∷ 1 ∷ 0 ∷ 2 ∷ 1 ∷ 0 ∷ 2 ∷ 1 ∷ 0 ∷ 2 ∷ 1 ∷ 0 ∷ 0 ∷ 68 ∷ 0 ∷ 2 ∷ 1 ∷ 3 ∷ 0 ∷ 4 ∷ 1 ∷ 1 ∷ 0 ∷ 2 ∷ 0 ∷ 8 ∷ 1 ∷ 2 ∷ 1 ∷ 0 ∷ 1 ∷ 1 ∷ 0 ∷ 3 ∷ 0 ∷ 4 ∷ 1 ∷ 1 ∷ 0 ∷ 2 ∷ 0 ∷ 2 ∷ 1 ∷ 3 ∷ 0 ∷ 8 ∷ 1 ∷ 2 ∷ 1 ∷ 0 ∷ 2 ∷ 1 ∷ 0 ∷ 10 ∷ 0 ∷ 16 ∷ 1 ∷ 2 ∷ 1 ∷ 0 ∷ 1 ∷ 2 ∷ 1 ∷ 0 ∷ 9 ∷ 2 ∷ 1 ∷ 0 ∷ 3 ∷ 1 ∷ 0 ∷ 11 ∷ 0 ∷ 8 ∷ 1 ∷ 2 ∷ 1 ∷ 0 ∷ 2 ∷ 1 ∷ 0 ∷ 10 ∷ [])
    0 0 4 2 (1 ∷ 2 ∷ [])
    -- rows are compared and not sets: 0 2 3 before 0 5 1
    ∷ case "a\n  BT f\n  BT c\n  NT b\n  NT d\nb\n  BT a\n  NT f\nc\n  BT d\n  NT a\nd\n  BT a\n  NT c\ne\nf\n  BT b\n  NT a\n" 500 6
    0 0 (1 ∷ 0 ∷ 54 ∷ 2 ∷ 0 ∷ 0 ∷ 2 ∷ 0 ∷ 0 ∷ 2 ∷ 0 ∷ 0 ∷ 2 ∷ 0 ∷ 0 ∷ 2 ∷ 0 ∷ 0 ∷ 2 ∷ 0 ∷ 0 ∷ 2 ∷ 1 ∷ 0 ∷ 2 ∷ 1 ∷ 0 ∷ 2 ∷ 1 ∷ 0 ∷ 2 ∷ 1 ∷ 0 ∷ 2 ∷ 1 ∷ 0 ∷ 2 ∷ 1 ∷ 0 ∷ 2 ∷ 1 ∷ 0 ∷ 2 ∷ 1 ∷ 0 ∷ 2 ∷ 1 ∷ 0 ∷ 2 ∷ 1 ∷ 0 ∷ 2 ∷ 1 ∷ 0 ∷ 2 ∷ 1 ∷ 0 ∷ 0 ∷ 100 ∷ 0 ∷ 8 ∷ 1 ∷ 2 ∷ 1 ∷ 0 ∷ 5 ∷ 1 ∷ 0 ∷ 2 ∷ 0 ∷ 4 ∷ 1 ∷ 1 ∷ 0 ∷ 0 ∷ 0 ∷ 4 ∷ 1 ∷ 1 ∷ 0 ∷ 3 ∷ 0 ∷ 4 ∷ 1 ∷ 1 ∷ 0 ∷ 0 ∷ 0 ∷ 2 ∷ 1 ∷ 3 ∷ 0 ∷ 4 ∷ 1 ∷ 1 ∷ 0 ∷ 1 ∷ 0 ∷ 16 ∷ 1 ∷ 2 ∷ 1 ∷ 0 ∷ 5 ∷ 2 ∷ 1 ∷ 0 ∷ 17 ∷ 2 ∷ 1 ∷ 0 ∷ 2 ∷ 1 ∷ 0 ∷ 14 ∷ 0 ∷ 8 ∷ 1 ∷ 2 ∷ 1 ∷ 0 ∷ 0 ∷ 1 ∷ 0 ∷ 12 ∷ 0 ∷ 8 ∷ 1 ∷ 2 ∷ 1 ∷ 0 ∷ 3 ∷ 1 ∷ 0 ∷ 15 ∷ 0 ∷ 8 ∷ 1 ∷ 2 ∷ 1 ∷ 0 ∷ 0 ∷ 1 ∷ 0 ∷ 12 ∷ 0 ∷ 2 ∷ 1 ∷ 3 ∷ 0 ∷ 8 ∷ 1 ∷ 2 ∷ 1 ∷ 0 ∷ 1 ∷ 1 ∷ 0 ∷ 13 ∷ [])
    0 0 6 3 (0 ∷ 2 ∷ 3 ∷ [])
    -- levels: the longest chain
    ∷ case "a\n  BT b\n  BT d\nb\n  BT c\n  NT a\nc\n  BT d\n  NT b\nd\n  NT a\n  NT c\n" 400 6
    0 0 (1 ∷ 0 ∷ 36 ∷ 2 ∷ 0 ∷ 0 ∷ 2 ∷ 0 ∷ 0 ∷ 2 ∷ 0 ∷ 0 ∷ 2 ∷ 0 ∷ 0 ∷ 2 ∷ 1 ∷ 0 ∷ 2 ∷ 1 ∷ 0 ∷ 2 ∷ 1 ∷ 0 ∷ 2 ∷ 1 ∷ 0 ∷ 2 ∷ 1 ∷ 0 ∷ 2 ∷ 1 ∷ 0 ∷ 2 ∷ 1 ∷ 0 ∷ 2 ∷ 1 ∷ 0 ∷ 0 ∷ 68 ∷ 0 ∷ 8 ∷ 1 ∷ 2 ∷ 1 ∷ 0 ∷ 1 ∷ 1 ∷ 0 ∷ 3 ∷ 0 ∷ 4 ∷ 1 ∷ 1 ∷ 0 ∷ 2 ∷ 0 ∷ 4 ∷ 1 ∷ 1 ∷ 0 ∷ 3 ∷ 0 ∷ 2 ∷ 1 ∷ 3 ∷ 0 ∷ 16 ∷ 1 ∷ 2 ∷ 1 ∷ 0 ∷ 1 ∷ 2 ∷ 1 ∷ 0 ∷ 9 ∷ 2 ∷ 1 ∷ 0 ∷ 3 ∷ 1 ∷ 0 ∷ 11 ∷ 0 ∷ 8 ∷ 1 ∷ 2 ∷ 1 ∷ 0 ∷ 2 ∷ 1 ∷ 0 ∷ 10 ∷ 0 ∷ 8 ∷ 1 ∷ 2 ∷ 1 ∷ 0 ∷ 3 ∷ 1 ∷ 0 ∷ 11 ∷ 0 ∷ 2 ∷ 1 ∷ 3 ∷ [])
    0 0 4 0 (3 ∷ 2 ∷ 1 ∷ 0 ∷ [])
    ∷ []
