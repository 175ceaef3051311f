-- One record of an answer book, as it is read for the yearly report: the layout of document 01 (version byte 1), or of request L3 (version byte 2). The only
-- refusal here is 60.
use Rattle.std.specs.Prelude.{Bool, true, false, not, List, ℕ, zero, suc, ◌+◌, ◌-◌, ◌*◌, ◌/◌, ◌%◌, leb, ltb, eqb}
use Rattle.limits.specs.Sizes.{most_choices}
use Rattle.reading.specs.Reading.{Reading, got, ◌then◌, refuse◌at◌if◌else◌}
use Rattle.reading.specs.Bytes.{big_endian}

-- where a record's symbols stand, and how many there are
pub record Symbols : Type 0 where
  pub count : ℕ
  pub from : ℕ

module _ (bs : List ℕ) where
  -- "for each decided choice in rising order two bytes: twice its number, plus 1 if right": k of them from p on, of choices from `least` on
  unfoldable pub rising : ℕ → ℕ → ℕ → Bool
  rising zero least p = true
  rising (suc k) least p =
      let choice = big_endian bs p / 2 in
      elim (leb least choice) [
        | false ↦ false
        | true ↦ elim (ltb choice most_choices) [
          | false ↦ false
          | true ↦ rising k (suc choice) (p + 2)
        ]
      ]

  -- A record at p, in a book that ends at e, up to its symbols. "two-byte length of the rest, two-byte symbol count, each node's symbol .., two bytes each,
  -- then for each decided choice .. two bytes". A value has one symbol at least. The symbol count stands at q, in version 2 behind the question's number
  -- ("also stands as two bytes after each record's length"), which may be any.
  unfoldable pub record_at : ℕ → ℕ → ℕ → Reading Symbols
  record_at version e p =
      let end = p + 2 + big_endian bs p in
      let q = p + 2 * version in
      let count = big_endian bs q in
      let decisions = q + 2 + 2 * count in
      refuse 60 at p if ltb e (p + 2) else λ _.
      refuse 60 at p if ltb e end else λ _.
      refuse 60 at p if ltb end (q + 2) else λ _.
      refuse 60 at p if eqb count 0 else λ _.
      refuse 60 at p if ltb end decisions else λ _.
      refuse 60 at p if eqb ((end - decisions) % 2) 1 else λ _.
      got (record { count = count; from = q + 2 }) end

  -- its decisions, which stand from q, behind its symbols, to its end
  abbrev pub decided : ℕ → ℕ → Bool
  decided end q = rising ((end - q) / 2) 0 q

  -- a record with its decisions
  unfoldable pub whole_at : ℕ → ℕ → ℕ → Reading Symbols
  whole_at version e p =
      record_at version e p then λ answer end.
      refuse 60 at p if not (decided end (answer.from + 2 * answer.count)) else λ _.
      got answer end
