-- The bytes of a book, from its symbols and trees: the layout of document 01, written out.
use Rattle.std.specs.Prelude.{Bool, true, false, List, [], ◌∷◌, ◌++◌, ℕ, ◌+◌, length}
use Rattle.reading.specs.Bytes.{two_bytes}
use Rattle.symbols.specs.Symbols.{Symbol, Symbols}
use Rattle.expressions.specs.Expressions.{Expr, Exprs}
use Rattle.book.specs.Trees.{Tree, Trees}
use Rattle.book.specs.Rules.{Rules}

-- "kind (0 constructor, 1 operation)"
abbrev pub kind_of : Bool → ℕ
kind_of false = 0
kind_of true = 1

-- "Each opens with one length byte (2 to 10), then kind .., result sort .., and the sorts of its arguments"
unfoldable pub symbol_laid : Symbol → List ℕ
symbol_laid x = (2 + length x.arguments) ∷ kind_of x.is_operation ∷ x.sort ∷ x.arguments

unfoldable pub symbols_laid : Symbols → List ℕ
symbols_laid [] = []
symbols_laid (x ∷ rest) = symbol_laid x ++ symbols_laid rest

-- "0 variable, one byte; 1 apply, a two-byte symbol, then arguments; 2 choice, two expressions; 3 fail"; in edition 2 also "4: a sort byte, an expression
-- of that sort, then the body"
unfoldable mutual
  pub expr_laid : Expr → List ℕ
  expr_laid (Expr.var x) = 0 ∷ x ∷ []
  expr_laid (Expr.apply f es) = 1 ∷ (two_bytes f ++ row_laid es)
  expr_laid (Expr.choice a b) = 2 ∷ (expr_laid a ++ expr_laid b)
  expr_laid Expr.fail = 3 ∷ []
  expr_laid (Expr.shared s a b) = 4 ∷ s ∷ (expr_laid a ++ expr_laid b)

  pub row_laid : Exprs → List ℕ
  row_laid Exprs.no_exprs = []
  row_laid (Exprs.more_exprs e es) = expr_laid e ++ row_laid es

-- "0 exempt; 1 rule, then an expression; 2 branch, then a variable byte, then one tree for each constructor of that variable's sort"
unfoldable mutual
  pub tree_laid : Tree → List ℕ
  tree_laid Tree.exempt = 0 ∷ []
  tree_laid (Tree.rule e) = 1 ∷ expr_laid e
  tree_laid (Tree.branch x ts) = 2 ∷ x ∷ cases_laid ts

  pub cases_laid : Trees → List ℕ
  cases_laid Trees.no_trees = []
  cases_laid (Trees.more_trees t ts) = tree_laid t ++ cases_laid ts

-- "opens with its length in two bytes, which counts what follows"
unfoldable pub length_first : List ℕ → List ℕ
length_first bytes = two_bytes (length bytes) ++ bytes

-- "one tree per operation, in symbol order, each opened by a two-byte length"
unfoldable pub trees_laid : Symbols → Trees → List ℕ
trees_laid [] ts = []
trees_laid (x ∷ rest) Trees.no_trees = []
trees_laid (x ∷ rest) (Trees.more_trees t ts) = elim x.is_operation [
  | false ↦ trees_laid rest ts
  | true ↦ length_first (tree_laid t) ++ trees_laid rest ts
]

-- "A book is a version byte 1, the symbol part, the tree part."
unfoldable pub laid : Rules → List ℕ
laid r = 1 ∷ (length_first (symbols_laid r.symbols) ++ length_first (trees_laid r.symbols r.trees))
