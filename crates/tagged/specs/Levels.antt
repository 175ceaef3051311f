-- Levels: "a level for every heading, the longest chain of BT hops above it".
use Rattle.std.specs.Prelude.{List, [], ◌∷◌, map, ℕ, zero, suc, max, length, get_or, replicate}
use Rattle.tagged.specs.Listing.{Broader}

-- one hop, and the longest chain behind it, where `row` has the longest chain of each heading
unfoldable pub longest : List ℕ → List ℕ → ℕ
longest row [] = 0
longest row (b ∷ bs) = max (suc (get_or row b 0)) (longest row bs)

-- for each heading the longest chain of at most so many hops
unfoldable pub chains : Broader → ℕ → List ℕ
chains broader zero = replicate (length broader) 0
chains broader (suc k) = map (longest (chains broader k)) broader

-- without a circle no chain has as many hops as there are headings
unfoldable pub levels : Broader → List ℕ
levels broader = chains broader (length broader)
