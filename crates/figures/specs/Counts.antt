-- What the figures mean, that the order of the books does not matter, and that what a run writes can be read for them.
use Rattle.std.specs.Prelude.{true, false, ◌≡◌, ℕ, zero, suc, ◌+◌, ◌≤◌, ◌<◌, ◌/◌, ◌%◌, ltb, length, get_or}
use mathlib.Core.List.{List, [], ◌∷◌, ◌++◌, map, Mem, Perm}
use Rattle.std.proofs.Math.Seq.{slice}
use Rattle.limits.specs.Sizes.{most_choices}
use Rattle.reading.specs.Reading.{got, refusal}
use Rattle.reading.specs.Bytes.{two_bytes}
use Rattle.tallies.specs.Tallied.{most_total, how_many, symbols_at}
use Rattle.machine.specs.Answers.{Answer, answer_bytes}
use Rattle.figures.specs.AnswerBook.{whole_at}
use Rattle.figures.specs.Figures.{book_end, figures}

module _ (bs : List ℕ) where
  -- the answers of a book from p to its end e, each by its symbols, as far as its records can be read
  unfoldable pub answers_at : ℕ → ℕ → ℕ → ℕ → List (List ℕ)
  answers_at zero version e p = []
  answers_at (suc bound) version e p = elim (ltb p e) [
    | false ↦ []
    | true ↦ elim (whole_at bs version e p) [
      | refusal c q ↦ []
      | got answer end ↦ symbols_at bs answer.count answer.from ∷ answers_at bound version e end
    ]
  ]

-- the answers of one book: its version byte, then its records
unfoldable pub answers_of : List ℕ → List (List ℕ)
answers_of book = answers_at book (length book) (get_or book 0 0) (length book) 1

unfoldable pub all_answers : List (List ℕ) → List (List ℕ)
all_answers [] = []
all_answers (book ∷ books) = answers_of book ++ all_answers books

-- "many answer books laid one behind another in a lent buffer, each opened by a four-byte length"
unfoldable pub laid : List (List ℕ) → List ℕ
laid [] = []
laid (book ∷ books) = two_bytes (length book / 65536) ++ two_bytes (length book % 65536) ++ book ++ laid books

module _ (bs : List ℕ) where
  -- the books from p on, as far as they are not cut short; the first number bounds how many there can be
  unfoldable pub books_from : ℕ → ℕ → List (List ℕ)
  books_from zero p = []
  books_from (suc bound) p = elim (ltb p (length bs)) [
    | false ↦ []
    | true ↦ elim (ltb (length bs) (book_end bs p)) [
      | true ↦ []
      | false ↦ slice (p + 4) (book_end bs p) bs ∷ books_from bound (book_end bs p)
    ]
  ]

-- the books of a buffer
unfoldable pub books_in : List ℕ → List (List ℕ)
books_in bs = books_from bs (length bs) 0

-- "for each symbol, in how many answers it stands .. Totals go to a lent row, added to what it holds"
abbrev pub Counted : Type 0
Counted = (bs row : List ℕ) → (figures bs row).number ≡ 0
    → (f : ℕ) → f < length row → get_or (figures bs row).row f 0 ≡ get_or row f 0 + how_many f (all_answers (books_in bs))

-- books that are laid are found again
abbrev pub FindsLaid : Type 0
FindsLaid = (books : List (List ℕ)) → books_in (laid books) ≡ books

-- "where none is refused the order of the books doesn't matter": then none is refused in another order either
abbrev pub AnyOrder : Type 0
AnyOrder = (books others : List (List ℕ)) (row : List ℕ) → Perm books others
    → (figures (laid books) row).number ≡ 0 → figures (laid others) row ≡ figures (laid books) row

-- and every buffer of bytes that is not refused is one of books that are laid: those found in it
abbrev pub FoundAreLaid : Type 0
FoundAreLaid = (bs row : List ℕ) → ((i : ℕ) → get_or bs i 0 < 256) → (figures bs row).number ≡ 0 → laid (books_in bs) ≡ bs

-- so of each such buffer the books may be laid in any order
abbrev pub AnyOrderFound : Type 0
AnyOrderFound = (bs row : List ℕ) (others : List (List ℕ)) → ((i : ℕ) → get_or bs i 0 < 256) → Perm (books_in bs) others
    → (figures bs row).number ≡ 0 → figures (laid others) row ≡ figures bs row

-- an answer that a run can write: a value has one symbol at least, and there are no more than 256 choices to decide. How large its numbers are is not asked:
-- `two_bytes` and `big_endian` agree on any.
pub record Writable (a : Answer) : Type 0 where
  pub some : 0 < length a.symbols
  pub decided : length a.decisions ≤ most_choices

-- what a run writes is read for its figures: the symbols of each answer, so that no record of it is refused
abbrev pub ReadsRuns : Type 0
ReadsRuns = (answers : List Answer) → ((a : Answer) → Mem a answers → Writable a)
    → answers_of (answer_bytes answers) ≡ map (λ (a : Answer). a.symbols) answers

-- so the book of a run is refused only for want of room: where each symbol of its answers has a total, and that stays within 32 bits, it is not
abbrev pub AcceptsRuns : Type 0
AcceptsRuns = (answers : List Answer) (row : List ℕ) → ((a : Answer) → Mem a answers → Writable a)
    → ((f : ℕ) → let many = how_many f (map (λ (a : Answer). a.symbols) answers) in 0 < many → (f < length row) × (get_or row f 0 + many ≤ most_total))
    → (figures (laid (answer_bytes answers ∷ [])) row).number ≡ 0
