-- What the code of the figures answers, and what it leaves of the totals, in the words of the definitions.
use Rattle.std.specs.Prelude.{true, false, List, [], ◌++◌, ℕ, zero, suc, ◌+◌, ◌*◌, ltb, get_or, Result, Ok, Err}
use Rattle.reading.specs.Bytes.{big_endian}
use Rattle.figures.specs.Figures.{book_end, Outcome}
use Rattle.tallies.specs.declared.Refusal.{Refusal}
use Rattle.tallies.specs.InCode.{number_of, answer_over}

-- what is handed back, and the row after it
abbrev pub after : Result (Unit {0}) Refusal → List ℕ → Outcome
after (Ok done) row = record { number = 0; place = 0; row = row }
after (Err r) row = record { number = number_of r.fault; place = r.place; row = row }

-- ---- what is taken back

-- the answers of what stands from p to e, one thing behind another: where it ends, and its answers; the first number bounds how many there can be
unfoldable pub over : (ℕ → ℕ) → (ℕ → List (List ℕ)) → ℕ → ℕ → ℕ → List (List ℕ)
over behind answers zero e p = []
over behind answers (suc bound) e p = elim (ltb p e) [ false ↦ [] | true ↦ answers p ++ over behind answers bound e (behind p) ]

module _ (bs : List ℕ) where
  -- a record at p, and where it ends, by its symbol count and its length
  abbrev pub record_over : ℕ → ℕ → List (List ℕ)
  record_over version p = answer_over bs (big_endian bs (p + 2 * version)) (p + 2 * version + 2)

  abbrev pub behind_record : ℕ → ℕ
  behind_record p = p + 2 + big_endian bs p

  -- the records from p to e
  abbrev pub records_over : ℕ → ℕ → ℕ → List (List ℕ)
  records_over version e p = over behind_record (record_over version) e e p

  -- a book at p
  abbrev pub book_over : ℕ → List (List ℕ)
  book_over p = records_over (get_or bs (p + 4) 0) (book_end bs p) (p + 5)

  -- the books before e
  abbrev pub books_over : ℕ → List (List ℕ)
  books_over e = over (book_end bs) book_over e e 0
