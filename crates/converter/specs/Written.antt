-- The bytes of a book that means these rules: "A book is a version byte .., the symbol part, the tree part. Each part opens with its length in two
-- bytes, which counts what follows."
use Rattle.std.specs.Prelude.{Bool, true, false, List, [], ◌∷◌, ◌++◌, ℕ, ◌+◌, length}
use Rattle.reading.specs.Bytes.{two_bytes}
use Rattle.symbols.specs.Symbols.{Symbol, Symbols}
use Rattle.expressions.specs.Expressions.{Expr, Exprs}
use Rattle.book.specs.Trees.{Tree, Trees, no_trees, more_trees}
use Rattle.book.specs.Rules.{Rules}

-- "0 variable, one byte; 1 apply, a two-byte symbol, then arguments; 2 choice, two expressions; 3 fail"; "4: a sort byte, an expression of that
-- sort, then the body"
unfoldable mutual
  pub expr_written : Expr → List ℕ
  expr_written (Expr.var x) = 0 ∷ x ∷ []
  expr_written (Expr.apply f es) = 1 ∷ (two_bytes f ++ row_written es)
  expr_written (Expr.choice a b) = 2 ∷ (expr_written a ++ expr_written b)
  expr_written Expr.fail = 3 ∷ []
  expr_written (Expr.shared s a b) = 4 ∷ s ∷ (expr_written a ++ expr_written b)

  pub row_written : Exprs → List ℕ
  row_written Exprs.no_exprs = []
  row_written (Exprs.more_exprs e es) = expr_written e ++ row_written es

-- "0 exempt; 1 rule, then an expression; 2 branch, then a variable byte, then one tree for each constructor"
unfoldable mutual
  pub tree_written : Tree → List ℕ
  tree_written Tree.exempt = 0 ∷ []
  tree_written (Tree.rule x) = 1 ∷ expr_written x
  tree_written (Tree.branch x ts) = 2 ∷ x ∷ trees_written ts

  pub trees_written : Trees → List ℕ
  trees_written Trees.no_trees = []
  trees_written (Trees.more_trees t ts) = tree_written t ++ trees_written ts

-- behind their length
unfoldable pub counted : List ℕ → List ℕ
counted bytes = two_bytes (length bytes) ++ bytes

-- "one tree per operation, in symbol order, each opened by a two-byte length"
unfoldable pub items_written : Symbols → Trees → List ℕ
items_written [] ts = []
items_written (x ∷ rest) no_trees = []
items_written (x ∷ rest) (more_trees t ts) = elim x.is_operation [
  | false ↦ items_written rest ts
  | true ↦ counted (tree_written t) ++ items_written rest ts
]

-- "kind (0 constructor, 1 operation)"
unfoldable pub kind_of : Bool → ℕ
kind_of false = 0
kind_of true = 1

-- "Each opens with one length byte (2 to 10), then kind .., result sort .., and the sorts of its arguments"
unfoldable pub symbol_written : Symbol → List ℕ
symbol_written x = (2 + length x.arguments) ∷ kind_of x.is_operation ∷ x.sort ∷ x.arguments

unfoldable pub symbols_written : Symbols → List ℕ
symbols_written [] = []
symbols_written (x ∷ rest) = symbol_written x ++ symbols_written rest

unfoldable pub book_written : ℕ → Rules → List ℕ
book_written version r = version ∷ (counted (symbols_written r.symbols) ++ counted (items_written r.symbols r.trees))
