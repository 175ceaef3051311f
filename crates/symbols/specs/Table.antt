-- The table of symbols that the code keeps: the place of each in the book. Any numbers, over any bytes, mean symbols.
use Rattle.std.specs.Prelude.{true, false, List, [], ◌∷◌, ◌++◌, map, ◌≡◌, ℕ, zero, suc, ◌+◌, ◌-◌, eqb, length, get_or, take, drop, replicate}
use Rattle.std.proofs.lemmas.List.Edits.{sets}
use Rattle.limits.specs.Sizes.{most_symbols, sorts_of_a_byte}
use Rattle.reading.specs.Reading.{Reading, got, refusal}
use Rattle.symbols.specs.Symbols.{Symbol, Symbols, is_constructor_of, constructors_before}

-- the symbol whose length byte stands at p
unfoldable pub symbol_in : List ℕ → ℕ → Symbol
symbol_in bs p = record {
  is_operation = eqb (get_or bs (p + 1) 0) 1;
  sort = get_or bs (p + 2) 0;
  arguments = take (get_or bs p 0 - 2) (drop (p + 3) bs);
}

-- the most arguments that it can have: a length byte, 255 at most, counts kind and sort too
abbrev pub arguments_of_a_byte : ℕ
arguments_of_a_byte = 253

-- the symbols whose places are `at`
unfoldable pub symbols_in : List ℕ → List ℕ → Symbols
symbols_in bs at = map (symbol_in bs) at

-- the places of symbols that stand one after the other from p on: each takes its length byte, kind, sort and arguments
unfoldable pub places_from : ℕ → Symbols → List ℕ
places_from p [] = []
places_from p (x ∷ rest) = p ∷ places_from (p + 3 + length x.arguments) rest

-- how many symbols there are, with `before` in front of them
abbrev pub counted : ℕ → Symbols → ℕ
counted before symbols = before + length symbols

-- where symbols were read from p on, with `before` in front of them, their places stand over what was there
unfoldable pub PlacedAfter : ℕ → ℕ → Reading Symbols → List ℕ → List ℕ → Type 0
PlacedAfter before p (got symbols q) was is = is ≡ sets was before (places_from p symbols)
PlacedAfter before p (refusal c q) was is = Unit {0}

-- a row of numbers, one for each symbol, in an array that has room for all that can be
unfoldable pub in_array : List ℕ → List ℕ
in_array row = row ++ replicate (most_symbols - length row) 0

-- the array of places after the symbol part was read; zeros if it was refused
unfoldable pub places_after : Reading Symbols → List ℕ
places_after (got symbols p) = in_array (places_from 3 symbols)
places_after (refusal c p) = in_array []

-- which of its sort's constructors each symbol is, from symbol f on; 0 for an operation
unfoldable pub ranks_from : Symbols → ℕ → Symbols → List ℕ
ranks_from symbols f [] = []
ranks_from symbols f (x ∷ rest) = elim x.is_operation [
  | true ↦ 0 ∷ ranks_from symbols (suc f) rest
  | false ↦ constructors_before x.sort symbols f ∷ ranks_from symbols (suc f) rest
]

-- the array of ranks after the symbol part was read; zeros if it was refused
unfoldable pub ranks_after : Reading Symbols → List ℕ
ranks_after (got symbols p) = in_array (ranks_from symbols 0 symbols)
ranks_after (refusal c p) = in_array []

-- The constructors of a sort are chained, so that a branch looks at them alone: from `rest` on, whose first symbol is number f, the
-- number of the first constructor of the sort, or the number behind the last symbol.
unfoldable pub first_from : ℕ → Symbols → ℕ → ℕ
first_from s [] f = f
first_from s (x ∷ rest) f = elim (is_constructor_of s x) [ true ↦ f | false ↦ first_from s rest (suc f) ]

-- the number of the next constructor of each symbol's sort
unfoldable pub nexts_from : Symbols → ℕ → List ℕ
nexts_from [] f = []
nexts_from (x ∷ rest) f = first_from x.sort rest (suc f) ∷ nexts_from rest (suc f)

-- the number of the first constructor of each of so many sorts, from sort s on
unfoldable pub firsts_from : Symbols → ℕ → ℕ → List ℕ
firsts_from symbols zero s = []
firsts_from symbols (suc n) s = first_from s symbols 0 ∷ firsts_from symbols n (suc s)

-- both arrays after the symbol part was read; zeros if it was refused
unfoldable pub nexts_after : Reading Symbols → List ℕ
nexts_after (got symbols p) = in_array (nexts_from symbols 0)
nexts_after (refusal c p) = in_array []

unfoldable pub firsts_after : Reading Symbols → List ℕ
firsts_after (got symbols p) = firsts_from symbols sorts_of_a_byte 0
firsts_after (refusal c p) = replicate sorts_of_a_byte 0
