-- What the reader of trees asks, and what it answers: the reading of the definition (TreeAt.antt) without its trees, and their ends marked.
use Rattle.std.specs.Prelude.{false, List, ◌++◌, ◌≡◌, ℕ, ◌+◌, get_or, Result}
use Rattle.reading.specs.Reading.{Reading}
use Rattle.reading.specs.Answer.{behind_of, keeping, nothing}
use Rattle.reading.specs.declared.Refusal.{Refusal}
use Rattle.symbols.specs.Symbols.{Symbols, constructors_of}
use Rattle.symbols.specs.Table.{symbols_in, symbol_in}
use Rattle.book.specs.Trees.{Tree, Trees}
use Rattle.book.specs.TreeAt.{binds_past, trees_with, tree_in, item_at, trees_of, tree_part}
use Rattle.book.specs.Reader.{vars_of, Branched, Marked, MarkedRow, Indexed}
use Rattle.book.specs.declared.path.Path.{Path}
use Rattle.book.specs.declared.table.Table.{Table}

-- the symbols that a table means
abbrev pub symbols_of : Table → Symbols
symbols_of table = symbols_in table.book.now table.at.now

-- what a reader of trees answers: the place behind them
abbrev pub Answered : Type 0
Answered = Result ℕ Refusal

-- ---- what is asked

-- no constructor of the branch's sort binds past the last variable
abbrev pub CasesFit : Table → Path → ℕ → Type 0
CasesFit table path branch = binds_past path.bound (constructors_of branch (symbols_of table)) ≡ false

-- ---- what is answered

-- a tree's reading at p, and where one was read its ends are marked
abbrev pub ReadAs : ℕ → Reading Tree → Answered → List ℕ → List ℕ → Type 0
ReadAs p t r was is = (behind_of r ≡ keeping nothing t) × Marked p t was is

-- the same of a row of trees from p on
abbrev pub RowReadAs : ℕ → Reading Trees → Answered → List ℕ → List ℕ → Type 0
RowReadAs p ts r was is = (behind_of r ≡ keeping nothing ts) × MarkedRow p ts was is

module _ (table : Table) where
  -- a tree at p of an operation of result sort `sort`, in an item that ends at e, whatever was branched on as the path's flags say
  abbrev pub TreeRead : ℕ → ℕ → ℕ → Path → ℕ → Answered → List ℕ → List ℕ → Type 0
  TreeRead sort e depth path p r was is =
      (done : List ℕ) → Branched path done → ReadAs p (tree_in table.book.now (symbols_of table) sort e depth (vars_of path) done p) r was is

  -- one tree for each constructor of the branch's sort, from p on
  abbrev pub CasesRead : ℕ → ℕ → ℕ → Path → ℕ → ℕ → Answered → List ℕ → List ℕ → Type 0
  CasesRead sort e depth path branch p r was is =
      (done : List ℕ) → Branched path done
      → RowReadAs p
      (trees_with table.book.now (symbols_of table) sort e (λ (sorts : List ℕ) (q : ℕ). tree_in table.book.now (symbols_of table) sort e depth (vars_of path ++ sorts) done q)
      (constructors_of branch (symbols_of table)) p) r was is

  -- the tree of operation f, opened by its length at p, in a part that ends at e
  abbrev pub ItemRead : ℕ → ℕ → ℕ → Answered → List ℕ → List ℕ → Type 0
  ItemRead e f p r was is = ReadAs (p + 2) (item_at table.book.now (symbols_of table) e (symbol_in table.book.now (get_or table.at.now f 0)) p) r was is

  -- the trees of the operations, the first of them opened at p, with where each stands: info and ends before, info' and ends' after
  abbrev pub TreesRead : ℕ → ℕ → Answered → List ℕ → List ℕ → List ℕ → List ℕ → Type 0
  TreesRead e p r info info' ends ends' =
      (behind_of r ≡ keeping nothing (trees_of table.book.now (symbols_of table) e (symbols_of table) p))
      × Indexed p 0 (symbols_of table) (trees_of table.book.now (symbols_of table) e (symbols_of table) p) info info' ends ends'

  -- the tree part, opened at p, with nothing left over, and its index
  abbrev pub PartRead : ℕ → Answered → List ℕ → List ℕ → List ℕ → List ℕ → Type 0
  PartRead p r info info' ends ends' =
      (behind_of r ≡ keeping nothing (tree_part table.book.now (symbols_of table) p))
      × Indexed (p + 2) 0 (symbols_of table) (tree_part table.book.now (symbols_of table) p) info info' ends ends'
