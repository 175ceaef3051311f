-- What the reader of trees keeps beside the bytes: the path's variables, and the ends that it marks.
use Rattle.std.specs.Prelude.{false, List, ◌≡◌, ℕ, ◌≤◌, ◌<◌, length, get_or, take}
use Rattle.std.specs.Coded.{Π_prop, →_prop, le_prop}
use Rattle.limits.specs.Sizes.{most_symbols, most_variables, most_arguments, sorts_of_a_byte}
use Rattle.reading.specs.Reading.{Reading, got, refusal}
use Rattle.symbols.specs.Symbols.{Symbols, symbol_of}
use Rattle.symbols.specs.Table.{symbols_in, in_array, nexts_from, firsts_from}
use Rattle.book.specs.TreeAt.{is_in}
use Rattle.book.specs.Trees.{Tree, Trees}
use Rattle.book.specs.Index.{mark_tree, mark_trees, roots_from, ends_from}
use Rattle.book.specs.declared.path.Path.{Path}

-- the constructors of each sort, chained
pub record Chained (symbols : Symbols) (next first : List ℕ) : Type 0 where
  pub nexts : next ≡ in_array (nexts_from symbols 0)
  pub firsts : first ≡ firsts_from symbols sorts_of_a_byte 0

-- the sorts of the variables bound on a path
abbrev pub vars_of : Path → List ℕ
vars_of path = take path.bound path.sorts

-- the flags say which variables were branched on
unfoldable pub Branched : Path → List ℕ → Type 0
Branched path done = (x : ℕ) → x < most_variables → is_in x done ≡ get_or path.done x false

-- every symbol takes as many arguments as document 01 allows
unfoldable pub FewArguments : Symbols → Type 0
FewArguments symbols = (f : ℕ) → f < length symbols → length (symbol_of symbols f).arguments ≤ most_arguments

pub FewArguments-prop : (symbols : Symbols) → IsProp (FewArguments symbols)
unfolding FewArguments
FewArguments-prop symbols = Π_prop λ f. →_prop le_prop

-- the symbols that the table of places means, no more than a book can have, with the constructors of each sort chained
pub record Tabled (bs at next first : List ℕ) : Type 0 where
  pub few : length at ≤ most_symbols
  pub chained : Chained (symbols_in bs at) next first

-- where a tree was read at p, its ends are marked over what was there
unfoldable pub Marked : ℕ → Reading Tree → List ℕ → List ℕ → Type 0
Marked p (got t q) was is = is ≡ mark_tree p t was
Marked p (refusal c q) was is = Unit {0}

-- the same of a row of trees from p on
unfoldable pub MarkedRow : ℕ → Reading Trees → List ℕ → List ℕ → Type 0
MarkedRow p (got ts q) was is = is ≡ mark_trees p ts was
MarkedRow p (refusal c q) was is = Unit {0}

-- the same of the trees of operations from symbol f on, with where each stands
unfoldable pub Indexed : ℕ → ℕ → Symbols → Reading Trees → List ℕ → List ℕ → List ℕ → List ℕ → Type 0
Indexed p f rest (got ts q) info' info ends' ends = (info ≡ roots_from p f rest ts info') × (ends ≡ ends_from p rest ts ends')
Indexed p f rest (refusal c q) info' info ends' ends = Unit {0}
