-- What the converter's code puts and hands back, in the words of the definitions.
use Rattle.std.specs.Prelude.{List, ◌≡◌, ℕ, ◌+◌, ◌≤◌, length, take, Result, Ok, Err}
use Rattle.std.proofs.lemmas.List.Edits.{sets}
use Rattle.limits.specs.Sizes.{most_book_bytes}
use Rattle.reading.specs.Answer.{refusal_number}
use Rattle.converter.specs.Convert.{Outcome, refusing}
use Rattle.converter.specs.Scan.{spot_bytes, spot_behind}
use Rattle.converter.specs.declared.Refusal.{Refusal}
use Rattle.converter.specs.declared.Refusal.TheVariants.{Unread, NoRoom}
use Rattle.converter.specs.declared.made.Made.{Made}

-- Places of a new book that is made are no further than this, whatever the old bytes are: each item takes at most ten times a book's size.
abbrev pub furthest : ℕ
furthest = 68719476736

-- what opens at p was put behind the bytes that were there
pub record SpotPut (bs ends : List ℕ) (p : ℕ) (was : Made) (to : ℕ) (is : Made) : Type 0 where
  pub old : to ≡ spot_behind bs ends p
  pub new : is.size ≡ was.size + length (spot_bytes bs ends p)
  pub put : is.bytes ≡ sets was.bytes was.size (spot_bytes bs ends p)

-- xs were put at q, if they end within a book's size; `to` is the place behind them, no further than `most`
pub record Put (xs was : List ℕ) (q most to : ℕ) (is : List ℕ) : Type 0 where
  pub behind : to ≡ q + length xs
  pub near : to ≤ most
  pub put : to ≤ most_book_bytes → is ≡ sets was q xs

-- xs were put behind the bytes that were there
abbrev pub PutBehind : List ℕ → Made → ℕ → Made → Type 0
PutBehind xs was most is = Put xs was.bytes was.size most is.size is.bytes

-- these are the bytes that were made, if they are not more than a book has
pub record MadeOf (cs : List ℕ) (made : Made) : Type 0 where
  pub size : made.size ≡ length cs
  pub bytes : made.size ≤ most_book_bytes → take made.size made.bytes ≡ cs

-- the numbers of the refusals
abbrev pub number_of : Refusal → ℕ
number_of (Unread r) = refusal_number r
number_of NoRoom = 52

-- and their places
abbrev pub place_of : Refusal → ℕ
place_of (Unread r) = r.place
place_of NoRoom = 0

-- what is handed back, and the room lent after it: 0, no place and how many bytes were written, or the refusal's number, its place and no bytes
abbrev pub after : Result ℕ Refusal → List ℕ → Outcome
after (Ok bytes) room = record { number = 0; place = 0; bytes = bytes; room = room }
after (Err r) room = refusing (number_of r) (place_of r) room
