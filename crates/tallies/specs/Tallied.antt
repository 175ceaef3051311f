-- One answer's symbols, added to the totals of a row, and in how many answers a symbol stands.
use Rattle.std.specs.Prelude.{true, false, List, [], ◌∷◌, ℕ, zero, suc, ◌+◌, leb, length, get_or, set}
use Rattle.reading.specs.Reading.{Reading, got, refuse◌at◌if◌else◌}
use Rattle.reading.specs.Bytes.{big_endian}
use Rattle.book.specs.TreeAt.{is_in}

-- in how many of these answers, each given by its symbols, symbol f stands
unfoldable pub how_many : ℕ → List (List ℕ) → ℕ
how_many f [] = 0
how_many f (symbols ∷ more) = elim (is_in f symbols) [ true ↦ suc (how_many f more) | false ↦ how_many f more ]

-- "a total past 32 bits"
unfoldable pub most_total : ℕ
most_total = 4294967295

module _ (bs : List ℕ) where
  -- k symbols from p on
  unfoldable pub symbols_at : ℕ → ℕ → List ℕ
  symbols_at zero p = []
  symbols_at (suc k) p = big_endian bs p ∷ symbols_at k (p + 2)

  -- an answer's symbols, k of them from p on, added to the totals of the row; one that is in `seen`, those before it in this answer, counts no more.
  -- "61 a symbol past the row, 62 a total past 32 bits"
  unfoldable pub tallied : List ℕ → List ℕ → ℕ → ℕ → Reading (List ℕ)
  tallied row seen zero p = got row p
  tallied row seen (suc k) p =
      let f = big_endian bs p in
      let total = get_or row f 0 in
      elim (is_in f seen) [
        | true ↦ tallied row seen k (p + 2)
        | false ↦
            refuse 61 at p if leb (length row) f else λ _.
            refuse 62 at p if leb most_total total else λ _.
            tallied (set row f (suc total)) (f ∷ seen) k (p + 2)
      ]
