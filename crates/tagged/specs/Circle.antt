-- The circle that is named: "the shortest circle of headings, the first in number order".
use Rattle.std.specs.Prelude.{Bool, true, false, ◌||◌, List, [], ◌∷◌, map, ℕ, zero, suc, min, length, get_or, set, replicate}
use Rattle.std.proofs.Math.Option.{Option, none, some}
use Rattle.tagged.specs.Listing.{Broader}

-- some of these headings has its mark set
unfoldable pub some_marked : List Bool → List ℕ → Bool
some_marked marks [] = false
some_marked marks (b ∷ bs) = get_or marks b false || some_marked marks bs

-- a mark at heading x alone, of so many headings
unfoldable pub mark_at : ℕ → ℕ → List Bool
mark_at n x = set (replicate n false) x true

-- the headings from which x is reached in exactly so many hops
unfoldable pub below : Broader → ℕ → ℕ → List Bool
below broader x zero = mark_at (length broader) x
below broader x (suc k) = map (some_marked (below broader x k)) broader

-- heading x is reached from itself in k hops
unfoldable pub returns : Broader → ℕ → ℕ → Bool
returns broader k x = get_or (below broader x k) x false

-- the first of so many headings, from x on, that is reached from itself in k hops
unfoldable pub first_return : Broader → ℕ → ℕ → ℕ → Option ℕ
first_return broader k zero x = none
first_return broader k (suc count) x = elim (returns broader k x) [ true ↦ some x | false ↦ first_return broader k count (suc x) ]

-- the lowest of these headings that has its mark set; where none has, past all headings
unfoldable pub lowest : List Bool → List ℕ → ℕ
lowest marks [] = length marks
lowest marks (b ∷ bs) = elim (get_or marks b false) [ true ↦ min b (lowest marks bs) | false ↦ lowest marks bs ]

-- the headings between this one and x, so many hops on: each is the lowest broader term from which x is reached in time
unfoldable pub way_to : Broader → ℕ → ℕ → ℕ → List ℕ
way_to broader x zero here = []
way_to broader x (suc zero) here = []
way_to broader x (suc (suc left)) here =
    let next = lowest (below broader x (suc left)) (get_or broader here []) in
    next ∷ way_to broader x (suc left) next

-- the first circle of k hops, or of one more, and so on
unfoldable pub shortest_from : Broader → ℕ → ℕ → Option (List ℕ)
shortest_from broader zero k = none
shortest_from broader (suc bound) k = elim (first_return broader k (length broader) 0) [
  | some x ↦ some (x ∷ way_to broader x k x)
  | none ↦ shortest_from broader bound (suc k)
]

-- a shortest circle has no more hops than there are headings
unfoldable pub circle : Broader → Option (List ℕ)
circle broader = shortest_from broader (length broader) 1
