-- Ranks of nodes. Where no arrow leads to a higher rank, a path that returns to its start stays at one rank: so none returns to a node
-- whose arrows all lead to lower ones.
use Rattle.std.specs.Prelude.{Bool, List, ℕ, ◌≤◌, leb, get_or}
use Rattle.nodes.specs.Nodes.{Heap, at}
use Rattle.rewriting.specs.Paths.{Arrow}

-- node x has at least this rank
unfoldable pub ranked : List ℕ → ℕ → ℕ → Bool
ranked ranks least x = leb least (get_or ranks x 0)

-- no arrow leads to a higher rank
pub record Falling (h : Heap) (ranks : List ℕ) : Type 0 where
  pub falls : (n x : ℕ) → Arrow x (at h n) → get_or ranks x 0 ≤ get_or ranks n 0
