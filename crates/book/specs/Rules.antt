-- What an admitted book means.
use Rattle.std.specs.Prelude.{Bool, not, ℕ}
use Rattle.symbols.specs.Symbols.{Symbols, symbol_of, constructors_before}
use Rattle.book.specs.Trees.{Tree, Trees, tree_at}

-- its symbols, and a tree for each (exempt for a constructor, which has none)
pub record Rules : Type 0 where
  pub symbols : Symbols
  pub trees : Trees

-- What rewriting needs of a book: which symbols are constructors, a constructor's place among those of its sort, and an
-- operation's tree.
pub record Book : Type 0 where
  pub is_constructor : ℕ → Bool
  pub place : ℕ → ℕ
  pub tree : ℕ → Tree

unfoldable pub book_of : Rules → Book
book_of r = record {
  is_constructor = λ f. not (symbol_of r.symbols f).is_operation;
  place = λ f. constructors_before (symbol_of r.symbols f).sort r.symbols f;
  tree = λ f. tree_at r.trees f;
}
