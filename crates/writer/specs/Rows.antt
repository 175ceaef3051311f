-- The rows of numbers in which the editors' desk holds a book: a row for each symbol, and a row for each operation's tree. Each row opens with how
-- many numbers follow.
use Rattle.std.specs.Prelude.{Bool, true, false, List, [], ◌∷◌, ◌++◌, ℕ, zero, suc, ◌+◌, length, take, drop}
use Rattle.symbols.specs.Symbols.{Symbol, Symbols}
use Rattle.expressions.specs.Expressions.{Expr, Exprs}
use Rattle.book.specs.Trees.{Tree, Trees, no_trees, more_trees}
use Rattle.book.specs.Rules.{Rules}

-- "symbols and trees as rows of numbers": those of all symbols, one row behind the other, and those of all trees
pub record Rows : Type 0 where
  pub symbols : List ℕ
  pub trees : List ℕ

-- "kind (0 constructor, 1 operation), result sort .., and the sorts of its arguments"
unfoldable pub kind_of : Bool → ℕ
kind_of false = 0
kind_of true = 1

unfoldable pub symbol_row : Symbol → List ℕ
symbol_row x = (2 + length x.arguments) ∷ kind_of x.is_operation ∷ x.sort ∷ x.arguments

unfoldable pub symbol_rows : Symbols → List ℕ
symbol_rows [] = []
symbol_rows (x ∷ rest) = symbol_row x ++ symbol_rows rest

-- an expression's codes, variables and symbols in the order written, each one number. The rows are those of edition 1: no book of it
-- has a shared part.
unfoldable mutual
  pub expr_numbers : Expr → List ℕ
  expr_numbers (Expr.var x) = 0 ∷ x ∷ []
  expr_numbers (Expr.apply f es) = 1 ∷ f ∷ argument_numbers es
  expr_numbers (Expr.choice a b) = 2 ∷ (expr_numbers a ++ expr_numbers b)
  expr_numbers Expr.fail = 3 ∷ []
  expr_numbers (Expr.shared s a b) = []

  pub argument_numbers : Exprs → List ℕ
  argument_numbers Exprs.no_exprs = []
  argument_numbers (Exprs.more_exprs e es) = expr_numbers e ++ argument_numbers es

-- a tree's in the same way
unfoldable mutual
  pub tree_numbers : Tree → List ℕ
  tree_numbers Tree.exempt = 0 ∷ []
  tree_numbers (Tree.rule x) = 1 ∷ expr_numbers x
  tree_numbers (Tree.branch x ts) = 2 ∷ x ∷ case_numbers ts

  pub case_numbers : Trees → List ℕ
  case_numbers Trees.no_trees = []
  case_numbers (Trees.more_trees t ts) = tree_numbers t ++ case_numbers ts

unfoldable pub tree_row : Tree → List ℕ
tree_row t = length (tree_numbers t) ∷ tree_numbers t

-- "one tree per operation, in symbol order": a constructor has no row
unfoldable pub tree_rows : Symbols → Trees → List ℕ
tree_rows [] ts = []
tree_rows (x ∷ rest) no_trees = []
tree_rows (x ∷ rest) (more_trees t ts) = elim x.is_operation [
  | false ↦ tree_rows rest ts
  | true ↦ tree_row t ++ tree_rows rest ts
]

-- the rows of what a book means
unfoldable pub rows_of : Rules → Rows
rows_of r = record { symbols = symbol_rows r.symbols; trees = tree_rows r.symbols r.trees }

-- a row: how many numbers it says that it has, and those that are there
pub record Row : Type 0 where
  pub says : ℕ
  pub numbers : List ℕ

-- the rows that stand in these numbers, the last one even if numbers of it are missing; the first number bounds how many there can be
unfoldable pub rows_from : ℕ → List ℕ → List Row
rows_from zero ns = []
rows_from (suc bound) [] = []
rows_from (suc bound) (n ∷ ns) = record { says = n; numbers = take n ns } ∷ rows_from bound (drop n ns)

unfoldable pub rows_in : List ℕ → List Row
rows_in ns = rows_from (length ns) ns

-- "the count of rows"
unfoldable pub row_count : Rows → ℕ
row_count rows = length (rows_in rows.symbols) + length (rows_in rows.trees)
