-- What the writer's code holds and answers, in the words of the definitions.
use Rattle.std.specs.Prelude.{List, ◌≡◌, ℕ, ◌+◌, ◌≤◌, length, take, Result, Ok, Err, IfOk}
use Rattle.std.proofs.lemmas.List.Edits.{sets}
use Rattle.limits.specs.Sizes.{most_book_bytes}
use Rattle.writer.specs.Layout as Layout
use Rattle.writer.specs.Write as Write
use Rattle.writer.specs.Write.{Writing, made, refused, Outcome}
use Rattle.writer.specs.declared.Refusal.{Refusal}
use Rattle.writer.specs.declared.Refusal.TheVariants.{NotABook, NoRoom}
use Rattle.writer.specs.declared.made.Made.{Made}
use Rattle.writer.specs.declared.trees.Due.{Due}
use Rattle.writer.specs.declared.trees.Next.{Next}
use Rattle.writer.specs.declared.trees.Next.TheVariants.{Code, Variable, Symbol}

-- what the next number of a tree's row is
abbrev pub next_by : Next → Layout.Next
next_by Code = Layout.code
next_by Variable = Layout.variable
next_by Symbol = Layout.symbol

abbrev pub due_by : Due → Layout.Due
due_by d = record { next = next_by d.next; expressions = d.expressions }

-- xs were put behind the bytes that were there
pub record Put (xs : List ℕ) (was is : Made) : Type 0 where
  pub size : is.size ≡ was.size + length xs
  pub bytes : is.bytes ≡ sets was.bytes was.size xs

-- the same, as far as they fit
pub record PutIfFits (xs : List ℕ) (was is : Made) : Type 0 where
  pub size : is.size ≡ was.size + length xs
  pub bytes : is.size ≤ most_book_bytes → is.bytes ≡ sets was.bytes was.size xs

-- the numbers of the refusals
abbrev pub number_of : Refusal → ℕ
number_of (NotABook row) = 50
number_of NoRoom = 51

-- and the row at fault
abbrev pub row_of : Refusal → ℕ
row_of (NotABook row) = row
row_of NoRoom = 0

-- a book that was made, or its refusal
abbrev pub writing_by : Result Made Refusal → Writing
writing_by (Ok m) = made (take m.size m.bytes)
writing_by (Err r) = refused (number_of r) (row_of r)

-- the bytes of a book that was made lie in their array
abbrev pub Within : Result Made Refusal → Type 0
Within r = IfOk r (λ (m : Made). m.size ≤ length m.bytes)

-- what is handed back: 0, no row and how many bytes were written, or the refusal's number, its row and no bytes
abbrev pub result_of : Result ℕ Refusal → Write.Result
result_of (Ok bytes) = record { number = 0; row = 0; bytes = bytes }
result_of (Err r) = record { number = number_of r; row = row_of r; bytes = 0 }

-- with the room lent after it
abbrev pub after : Result ℕ Refusal → List ℕ → Outcome
after r room = record { result = result_of r; room = room }
