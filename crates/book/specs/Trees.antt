-- Trees: the definitional trees of source document 004, definitions 1 and 2, as the tree part has them.
use Rattle.std.specs.Prelude.{ℕ, zero, suc}
use Rattle.expressions.specs.Expressions.{Expr}

-- "0 exempt; 1 rule, then an expression; 2 branch, then a variable byte, then one tree for each constructor of that variable's sort"
mutual
  pub data Tree : Type 0 where
    exempt : Tree
    rule : Expr → Tree
    branch : ℕ → Trees → Tree

  pub data Trees : Type 0 where
    no_trees : Trees
    more_trees : Tree → Trees → Trees

-- the tree at a place of a row, exempt past its end
unfoldable pub tree_at : Trees → ℕ → Tree
tree_at no_trees k = exempt
tree_at (more_trees t ts) zero = t
tree_at (more_trees t ts) (suc k) = tree_at ts k

-- how many trees stand in a row
abbrev pub many : Trees → ℕ
many no_trees = 0
many (more_trees t ts) = suc (many ts)
