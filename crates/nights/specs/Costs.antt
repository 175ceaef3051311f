-- What "all terms above it" costs for each heading of a listing without a circle: turns, choices, and entries that may wait at once.
use Rattle.std.specs.Prelude.{List, [], ◌∷◌, map, ℕ, zero, suc, ◌+◌, ◌-◌, length, get_or, replicate}
use Rattle.tagged.specs.Listing.{Broader}

-- a heading without broader terms costs `none`; else each costs `each` and its own cost, and `off` goes off the sum
pub record Price : Type 0 where
  pub none : ℕ
  pub each : ℕ
  pub off : ℕ

-- a rewrite and a fail; else a rewrite, a split for each item but the last, and an answer for each term
abbrev pub turns_price : Price
turns_price = record { none = 2; each = 3; off = 0 }

-- a choice for each item but the last
abbrev pub choices_price : Price
choices_price = record { none = 0; each = 2; off = 1 }

-- one for each line of thought: a term each, and one where there is none above
abbrev pub entries_price : Price
entries_price = record { none = 1; each = 1; off = 0 }

-- where `row` has the costs of the others
unfoldable pub sums : Price → List ℕ → List ℕ → ℕ
sums price row [] = 0
sums price row (b ∷ bs) = price.each + get_or row b 0 + sums price row bs

unfoldable pub cost_from : Price → List ℕ → List ℕ → ℕ
cost_from price row [] = price.none
cost_from price row (b ∷ bs) = sums price row (b ∷ bs) - price.off

-- so many rounds over all headings
unfoldable pub rounds : Price → Broader → ℕ → List ℕ
rounds price broader zero = replicate (length broader) 0
rounds price broader (suc k) = map (cost_from price (rounds price broader k)) broader

-- without a circle no chain has more hops than there are headings
unfoldable pub costs : Price → Broader → List ℕ
costs price broader = rounds price broader (suc (length broader))

abbrev pub cost_at : Price → Broader → ℕ → ℕ
cost_at price broader x = get_or (costs price broader) x 0
