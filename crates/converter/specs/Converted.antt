-- Rules without exempts: "a fail rule in each such spot".
use Rattle.std.specs.Prelude.{true, false, [], ◌∷◌}
use Rattle.symbols.specs.Symbols.{Symbols}
use Rattle.expressions.specs.Expressions.{Expr}
use Rattle.book.specs.Trees.{Tree, Trees, no_trees, more_trees}
use Rattle.book.specs.Rules.{Rules}

unfoldable mutual
  pub without_exempt : Tree → Tree
  without_exempt Tree.exempt = Tree.rule Expr.fail
  without_exempt (Tree.rule x) = Tree.rule x
  without_exempt (Tree.branch x ts) = Tree.branch x (without_exempts ts)

  pub without_exempts : Trees → Trees
  without_exempts Trees.no_trees = Trees.no_trees
  without_exempts (Trees.more_trees t ts) = Trees.more_trees (without_exempt t) (without_exempts ts)

-- of the trees of all symbols those of operations; for a constructor, which has none, exempt still stands
unfoldable pub trees_converted : Symbols → Trees → Trees
trees_converted [] ts = ts
trees_converted (x ∷ rest) no_trees = no_trees
trees_converted (x ∷ rest) (more_trees t ts) = more_trees (elim x.is_operation [ true ↦ without_exempt t | false ↦ t ]) (trees_converted rest ts)

unfoldable pub converted : Rules → Rules
converted r = record { symbols = r.symbols; trees = trees_converted r.symbols r.trees }
