-- The index figures: "for each symbol, in how many answers it stands, over many answer books laid one behind another in a lent buffer".
use Rattle.std.specs.Prelude.{true, false, not, List, [], ℕ, zero, suc, ◌+◌, ◌*◌, ltb, eqb, length, get_or}
use Rattle.reading.specs.Reading.{Reading, got, refusal, ◌then◌, refuse◌at◌if◌else◌}
use Rattle.reading.specs.Bytes.{big_endian}
use Rattle.tallies.specs.Tallied.{tallied}
use Rattle.figures.specs.AnswerBook.{record_at, decided}

module _ (bs : List ℕ) where
  -- the symbols of a record at p, k of them from `from` on, and then its decisions; it ends at `end`
  unfoldable pub symbols_added : List ℕ → ℕ → ℕ → ℕ → ℕ → Reading (List ℕ)
  symbols_added row k from p end =
      tallied bs row [] k from then λ row' q.
      refuse 60 at p if not (decided bs end q) else λ _.
      got row' end

  -- a record at p, in reading order
  unfoldable pub answer_at : ℕ → ℕ → List ℕ → ℕ → Reading (List ℕ)
  answer_at version e row p =
      record_at bs version e p then λ answer end.
      symbols_added row answer.count answer.from p end

  -- the records of a book from p to its end e; the first number bounds how many there can be
  unfoldable pub records_at : ℕ → ℕ → ℕ → List ℕ → ℕ → Reading (List ℕ)
  records_at zero version e row p = got row p
  records_at (suc bound) version e row p = elim (ltb p e) [
    | false ↦ got row p
    | true ↦
        answer_at version e row p then λ row' q.
        records_at bound version e row' q
  ]

  -- "each opened by a four-byte length": where the book at p ends by it
  abbrev pub book_end : ℕ → ℕ
  book_end p = p + 4 + (big_endian bs p * 65536 + big_endian bs (p + 2))

  -- An answer book at p: its version byte behind its length, then its records. "60 a book cut short or not in the layout"
  unfoldable pub book_at : List ℕ → ℕ → Reading (List ℕ)
  book_at row p =
      let size = length bs in
      let e = book_end p in
      let version = get_or bs (p + 4) 0 in
      refuse 60 at p if ltb size (p + 4) else λ _.
      refuse 60 at p if ltb size e else λ _.
      refuse 60 at p if eqb (p + 4) e else λ _.
      refuse 60 at p + 4 if eqb version 0 else λ _.
      refuse 60 at p + 4 if ltb 2 version else λ _.
      records_at (length bs) version e row (p + 5)

  -- all books from p on
  unfoldable pub books_at : ℕ → List ℕ → ℕ → Reading (List ℕ)
  books_at zero row p = got row p
  books_at (suc bound) row p = elim (ltb p (length bs)) [
    | false ↦ got row p
    | true ↦
        book_at row p then λ row' q.
        books_at bound row' q
  ]

-- what is handed back, and the row after it
pub record Outcome : Type 0 where
  pub number : ℕ
  pub place : ℕ
  pub row : List ℕ

-- "Totals go to a lent row, added to what it holds"; after a refusal "the row untouched"
unfoldable pub ended_as : List ℕ → Reading (List ℕ) → Outcome
ended_as row (got row' p) = record { number = 0; place = 0; row = row' }
ended_as row (refusal c p) = record { number = c; place = p; row = row }

unfoldable pub figures : List ℕ → List ℕ → Outcome
figures bs row = ended_as row (books_at bs (length bs) row 0)
