-- What is promised of runs from bytes to bytes: over a row of questions (L3) and over one (L7, L10), with demand 3 of each question. Kept by
-- proofs/Nights.antt.
use Rattle.std.specs.Prelude.{true, false, ◌≡◌, List, [], ◌∷◌, map, ℕ, ◌<◌, length, get_or}
use Rattle.reading.specs.Reading.{got}
use Rattle.expressions.specs.Expressions.{Expr}
use Rattle.book.specs.Rules.{Rules, book_of}
use Rattle.book.specs.Admission.{read_book, read_question}
use Rattle.machine.specs.Turn as Plain
use Rattle.forwards.specs.Shorten.{shortened}
use Rattle.alike.specs.Turning as Later
use Rattle.alike.specs.Night.{Memory, Outcome, rooms_of, refused_at, ended_as, read_row, asked}
use Rattle.alike.specs.Alone.{AsAlone}
use Rattle.alike.specs.EachQuestion.{EachQuestion}
use Rattle.meaning.specs.Records as PlainRecords
use Rattle.alike.specs.RowRecords.{answers_in}
use Rattle.alike.specs.AsWithRoom.{plainly, AsWithRoom}

-- how the turns end, of a row of questions and of one question
abbrev pub row_ended : Rules → ℕ → Memory → List Expr → Later.Ended
row_ended r fuel m xs = Later.turns shortened (book_of r) true (rooms_of m) fuel (Later.loaded xs)

abbrev pub one_ended : Rules → ℕ → Memory → Expr → Later.Ended
one_ended r fuel m x = Later.turns shortened (book_of r) false (rooms_of m) fuel (Later.loaded (x ∷ []))

-- A run over a row: refused before its first turn, with a number above 0; or book and questions are admitted, it has its turns, and each question's
-- answers are those that it gets alone, and keep demand 3; and the answer bytes read back to the answers.
pub data RowRan (book lengths questions : List ℕ) (fuel : ℕ) (m : Memory) : Outcome → Type 0 where
  early : (c p q : ℕ) → 0 < c → RowRan book lengths questions fuel m (refused_at c p q m)
  late : {r : Rules} {p : ℕ} {xs : List Expr} → read_book book ≡ got r p → read_row r.symbols 0 lengths questions ≡ asked xs
      → ((q : ℕ) (d : Expr) → q < length xs
      → AsAlone (book_of r) (get_or xs q d) q (row_ended r fuel m xs) × EachQuestion (book_of r) (get_or xs q d) q (row_ended r fuel m xs))
      → answers_in true (length (row_ended r fuel m xs).state.answers) (ended_as true m (row_ended r fuel m xs)).memory.bytes
      ≡ (row_ended r fuel m xs).state.answers
      → RowRan book lengths questions fuel m (ended_as true m (row_ended r fuel m xs))

-- A run over one question: the same, and its turns and answers are those with room enough.
pub data OneRan (book question : List ℕ) (fuel : ℕ) (m : Memory) : Outcome → Type 0 where
  early : (c p : ℕ) → 0 < c → OneRan book question fuel m (refused_at c p 0 m)
  late : {r : Rules} {p p' : ℕ} {x : Expr} → read_book book ≡ got r p → read_question r.symbols question ≡ got x p'
      → AsWithRoom (book_of r) (rooms_of m) fuel (Plain.loaded x) (one_ended r fuel m x) → EachQuestion (book_of r) x 0 (one_ended r fuel m x)
      → PlainRecords.answers_in (length (one_ended r fuel m x).state.answers) (ended_as false m (one_ended r fuel m x)).memory.bytes
      ≡ map plainly (one_ended r fuel m x).state.answers
      → OneRan book question fuel m (ended_as false m (one_ended r fuel m x))
