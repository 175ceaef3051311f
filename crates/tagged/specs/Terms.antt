-- The book of a listing, as symbols and trees.
use Rattle.std.specs.Prelude.{true, false, List, [], ◌∷◌, ◌++◌, map, ℕ, zero, suc, ◌+◌, length, replicate}
use Rattle.symbols.specs.Symbols.{Symbol, Symbols}
use Rattle.expressions.specs.Expressions.{Expr, Exprs}
use Rattle.book.specs.Trees.{Tree, Trees}
use Rattle.book.specs.Rules.{Rules}
use Rattle.tagged.specs.Listing.{Broader}

-- "a book of one sort": sort 0; no symbol takes arguments
abbrev pub term : Symbol
term = record { is_operation = false; sort = 0; arguments = [] }

abbrev pub operation : Symbol
operation = record { is_operation = true; sort = 0; arguments = [] }

-- "a constructor per heading, then per heading an operation for its broader terms, then per heading one for all terms above it", of n headings
unfoldable pub symbols_for : ℕ → Symbols
symbols_for n = replicate n term ++ replicate (n + n) operation

-- the symbols of heading x
abbrev pub term_of : ℕ → Expr
term_of x = Expr.apply x Exprs.no_exprs

abbrev pub broader_than : ℕ → ℕ → Expr
broader_than n x = Expr.apply (n + x) Exprs.no_exprs

abbrev pub above_of : ℕ → ℕ → Expr
above_of n x = Expr.apply (n + n + x) Exprs.no_exprs

-- "as choices in listing order, nested to the right", or fail where there are none
unfoldable pub nested : List Expr → Expr
nested [] = Expr.fail
nested (e ∷ []) = e
nested (e ∷ (f ∷ es)) = Expr.choice e (nested (f ∷ es))

-- "the BT terms"
unfoldable pub first_of : List ℕ → List Expr
first_of bs = map term_of bs

-- "for each BT, the term and then that term's own second operation"
unfoldable pub second_of : ℕ → List ℕ → List Expr
second_of n [] = []
second_of n (b ∷ bs) = term_of b ∷ above_of n b ∷ second_of n bs

-- a row of trees, one for each
unfoldable pub rules_before : List Expr → Trees → Trees
rules_before [] ts = ts
rules_before (e ∷ es) ts = Trees.more_trees (Tree.rule e) (rules_before es ts)

-- constructors have no tree: exempt stands for it
unfoldable pub exempt_before : ℕ → Trees → Trees
exempt_before zero ts = ts
exempt_before (suc n) ts = Trees.more_trees Tree.exempt (exempt_before n ts)

-- the rules of the first operations, and of the second
unfoldable pub first_rules : Broader → List Expr
first_rules broader = map (λ (bs : List ℕ). nested (first_of bs)) broader

unfoldable pub second_rules : ℕ → Broader → List Expr
second_rules n broader = map (λ (bs : List ℕ). nested (second_of n bs)) broader

unfoldable pub trees_for : Broader → Trees
trees_for broader =
    let n = length broader in
    exempt_before n (rules_before (first_rules broader ++ second_rules n broader) Trees.no_trees)

unfoldable pub rules_for : Broader → Rules
rules_for broader = record { symbols = symbols_for (length broader); trees = trees_for broader }
