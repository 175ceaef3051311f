-- What admission promises: what holds of each kind of tree, where it holds of the parts, holds of the trees of an admitted book; so
-- they fit the sorts of its symbols. And an admitted question is an expression of some sort with no variables.
use mathlib.Core.Bool.{Bool, true, false}
use mathlib.Core.Path.{◌≡◌}
use mathlib.Core.List.{List, [], ◌∷◌, ◌++◌}
use Prim.Native.Nat.{ℕ, zero, suc, ◌<◌}
use native.Mathlib.Omega.{arith}
use borrow.Author.Tests.{leb-false}
use lib.ListN.{length, get_or}
use Rattle.limits.specs.Sizes.{most_variables}
use Rattle.reading.specs.Reading.{Reading, got}
use Rattle.reading.specs.Bytes.{byte_at, length_at}
use Rattle.reading.proofs.Good.{Good, good, refused, good-got, then-good, both, unless}
use Rattle.symbols.specs.Symbols.{Symbol, Symbols, no_symbol, symbol_of, constructors_of}
use Rattle.symbols.specs.SymbolPart.{symbol_part}
use Rattle.expressions.specs.Expressions.{Expr}
use Rattle.book.specs.Trees.{Tree, Trees, tree_at}
use Rattle.book.specs.TreeAt.{binds_past, trees_with, branched_at, branch_at, tree_code_at, tree_in, item_at, trees_of, tree_part}
use Rattle.book.specs.Rules.{Rules}
use Rattle.book.specs.Admission.{read_book, read_question}
use Rattle.machine.specs.Made.{Bound, BoundRow}
use Rattle.rewriting.proofs.Lists.{length-behind}
use Rattle.sorts.specs.Sorts.{sort_of, arguments_of, ExprFits, RowFits, TreeFits, TreesFit, RulesFit}
use Rattle.sorts.proofs.EachRead.{any, OfEachKind, whole_reads, question_reads}

-- an expression that was read fits the sort asked for
expressions-fit : (S : Symbols) → OfEachKind S (λ vars s left x. ExprFits S vars x.what s) (λ vars ss left x. RowFits S vars x.what ss)
expressions-fit S = record {
  var = λ vars s left x known sorted. (known, sorted);
  apply = λ vars s left f r known sorted fit. (known, sorted, fit);
  choice = λ vars s left a b l r. (l, r);
  fail = λ vars s left. tt;
  shared = λ vars s left t a b few first body. (first, body);
  none = λ vars left. tt;
  more = λ vars s left ss a r fits fit. (fits, fit);
}

-- and binds no more variables than there may be
expressions-bound : (S : Symbols) → OfEachKind S (λ vars s left x. Bound (length vars) x.what) (λ vars ss left x. BoundRow (length vars) x.what)
unfolding Bound
expressions-bound S = record {
  var = λ vars s left x known sorted. tt;
  apply = λ vars s left f r known sorted row. row;
  choice = λ vars s left a b l r. (l, r);
  fail = λ vars s left. tt;
  shared = λ vars s left t a b few first body. (few, first, rw length-behind at body);
  none = λ vars left. tt;
  more = λ vars s left ss a r first others. (first, others);
}

-- P is said of a tree read for an operation of sort s, with the sorts of the variables bound on the path, R of a row of them, one for
-- each row of sorts: both hold of each kind of tree if they hold of the parts.
pub record OfEachTree (S : Symbols) (s : ℕ) (P : Tree → List ℕ → Type 0) (R : Trees → List ℕ → List (List ℕ) → Type 0) : Type 0 where
  pub exempt : (vars : List ℕ) → P Tree.exempt vars
  pub rule : (vars : List ℕ) (x : Expr) → ExprFits S vars x s → Bound (length vars) x → P (Tree.rule x) vars
  pub branch : (vars : List ℕ) (x : ℕ) (ts : Trees) → x < length vars → binds_past (length vars) (constructors_of (get_or vars x 0) S) ≡ false
      → R ts vars (constructors_of (get_or vars x 0) S) → P (Tree.branch x ts) vars
  pub none : (vars : List ℕ) → R Trees.no_trees vars []
  pub more : (vars sorts : List ℕ) (rest : List (List ℕ)) (t : Tree) (ts : Trees) → P t (vars ++ sorts) → R ts vars rest
      → R (Trees.more_trees t ts) vars (sorts ∷ rest)

module _ (bs : List ℕ) {S : Symbols} {s : ℕ} (e : ℕ) {P : Tree → List ℕ → Type 0} {R : Trees → List ℕ → List (List ℕ) → Type 0}
    (each : OfEachTree S s P R) where
  -- P holds of whatever `tree` reads
  abbrev Reads : (List ℕ → List ℕ → ℕ → Reading Tree) → Type 0
  Reads tree = (vars done : List ℕ) (p : ℕ) → Good (λ t q. P t vars) (tree vars done p)

  -- the trees of a branch, one for each constructor
  row_reads : (tree : List ℕ → ℕ → Reading Tree) (vars : List ℕ) → ((sorts : List ℕ) (p : ℕ) → Good (λ t q. P t (vars ++ sorts)) (tree sorts p))
      → (rest : List (List ℕ)) (p : ℕ) → Good (λ ts q. R ts vars rest) (trees_with bs S s e tree rest p)
  unfolding trees_with
  row_reads tree vars reads [] p = good (each.none vars)
  row_reads tree vars reads (sorts ∷ rest) p =
      then-good (reads sorts p) λ t q first.
      then-good (row_reads tree vars reads rest q) λ ts r others.
      good (each.more vars sorts rest t ts first others)

  -- the variable of a branch is there, and its constructors bind no more than can be bound
  branched_reads : (vars done : List ℕ) (p : ℕ)
      → Good (λ x q. (x < length vars) × (binds_past (length vars) (constructors_of (get_or vars x 0) S) ≡ false)) (branched_at bs S s e vars done p)
  unfolding branched_at
  branched_reads vars done p =
      then-good (any (byte_at bs 0 e p)) λ x q _. unless _ _ _ λ _ known. unless _ _ _ λ _ _. unless _ _ _ λ _ few.
      good (leb-false _ _ known, few)

  -- a branch
  branch_reads : (tree : List ℕ → List ℕ → ℕ → Reading Tree) → Reads tree → Reads (branch_at bs S s e tree)
  unfolding branch_at
  branch_reads tree reads vars done p =
      then-good (branched_reads vars done _) λ x q is.
      then-good (row_reads _ vars (λ sorts r. reads (vars ++ sorts) (x ∷ done) r) (constructors_of (get_or vars x 0) S) q) λ ts t row.
      good (each.branch vars x ts is.0 is.1 row)

  -- a tree, by its code
  tree_code_reads : (tree : List ℕ → List ℕ → ℕ → Reading Tree) → Reads tree → (c : ℕ) → Reads (tree_code_at bs S s e tree c)
  unfolding tree_code_at
  tree_code_reads tree reads zero vars done p = unless _ _ _ λ _ _. good (each.exempt vars)
  tree_code_reads tree reads (suc zero) vars done p =
      then-good (both (whole_reads bs 0 e (expressions-fit S) vars s _) (whole_reads bs 0 e (expressions-bound S) vars s _)) λ x q is.
      good (each.rule vars x is.0.1 is.1.1)
  tree_code_reads tree reads (suc (suc zero)) vars done p = branch_reads tree reads vars done p
  tree_code_reads tree reads (suc (suc (suc c))) vars done p = refused

  -- a tree
  tree_reads : (depth : ℕ) → Reads (tree_in bs S s e depth)
  unfolding tree_in
  tree_reads zero vars done p = refused
  tree_reads (suc depth) vars done p =
      then-good (any (byte_at bs 0 e p)) λ c q _. tree_code_reads (tree_in bs S s e depth) (tree_reads depth) c vars done p

-- The trees of a book, where P and R hold of each kind of tree whatever the symbols are and the operation's sort is.
module _ (bs : List ℕ) {P : Symbols → ℕ → Tree → List ℕ → Type 0} {R : Symbols → ℕ → Trees → List ℕ → List (List ℕ) → Type 0}
    (each : (S : Symbols) (s : ℕ) → OfEachTree S s (P S s) (R S s)) where
  -- the tree of operation x, with its arguments as the first variables
  item_reads : (S : Symbols) (e : ℕ) (x : Symbol) (p : ℕ) → Good (λ t q. P S x.sort t x.arguments) (item_at bs S e x p)
  unfolding item_at
  item_reads S e x p =
      then-good (any (length_at bs 0 e p)) λ item q _.
      then-good (tree_reads bs item (each S x.sort) (suc most_variables) x.arguments [] q) λ t r is. unless _ _ _ λ _ _.
      good is

  -- P holds of the tree of each operation among `rest`, where S are the symbols of the book
  abbrev OfOperations : Symbols → Symbols → Trees → Type 0
  OfOperations S rest ts = (f : ℕ) → (symbol_of rest f).is_operation ≡ true → P S (sort_of rest f) (tree_at ts f) (arguments_of rest f)

  -- one symbol more in front, with its tree
  operations_more : (S : Symbols) (x : Symbol) (rest : Symbols) (t : Tree) (ts : Trees) → P S x.sort t x.arguments
      → OfOperations S rest ts → OfOperations S (x ∷ rest) (Trees.more_trees t ts)
  unfolding tree_at
  operations_more S x rest t ts first others zero operation = first
  operations_more S x rest t ts first others (suc f) operation = others f operation

  -- the trees of the operations among `rest`
  operations_read : (S : Symbols) (e : ℕ) (rest : Symbols) (p : ℕ) → Good (λ ts q. OfOperations S rest ts) (trees_of bs S e rest p)
  unfolding trees_of no_symbol
  operations_read S e [] p = good λ f operation. absurd (let z : ◌≡◌ {A = ℕ} 0 1 = cc in omega arith)
  operations_read S e (x ∷ rest) p = by_kind x.is_operation
      (then-good (operations_read S e rest p) λ ts r others. good (operations_more S x rest Tree.exempt ts ((each S x.sort).exempt x.arguments) others))
      (then-good (item_reads S e x p) λ t q first. then-good (operations_read S e rest q) λ ts r others. good (operations_more S x rest t ts first others))
    where
      by_kind : (t : Bool) {a b : Reading Trees} → Good (λ ts q. OfOperations S (x ∷ rest) ts) a → Good (λ ts q. OfOperations S (x ∷ rest) ts) b
          → Good (λ ts q. OfOperations S (x ∷ rest) ts) (elim t [ false ↦ a | true ↦ b ])
      by_kind false constructor operation = constructor
      by_kind true constructor operation = operation

  -- the tree part
  tree_part_reads : (S : Symbols) (p : ℕ) → Good (λ ts q. OfOperations S S ts) (tree_part bs S p)
  unfolding tree_part
  tree_part_reads S p =
      then-good (any (length_at bs 0 _ p)) λ e q _.
      then-good (operations_read S e S q) λ ts r is. unless _ _ _ λ _ _. unless _ _ _ λ _ _.
      good is

  -- so P holds of the tree of each operation of an admitted book
  pub book_reads : {r : Rules} {p : ℕ} → read_book bs ≡ got r p → OfOperations r.symbols r.symbols r.trees
  unfolding read_book
  book_reads admitted = good-got reads admitted
    where
      reads : Good (λ r p. OfOperations r.symbols r.symbols r.trees) (read_book bs)
      reads = then-good (any (symbol_part bs)) λ S p _. then-good (tree_part_reads S p) λ ts q is. good is

-- a tree that was read fits its operation's sort
trees-fit : (S : Symbols) (s : ℕ) → OfEachTree S s (TreeFits S s) (TreesFit S s)
trees-fit S s = record {
  exempt = λ vars. tt;
  rule = λ vars x fits bound. fits;
  branch = λ vars x ts known few fit. (known, fit);
  none = λ vars. tt;
  more = λ vars sorts rest t ts fits fit. (fits, fit);
}

-- the rules of an admitted book fit
pub book-fits : (bs : List ℕ) {r : Rules} {p : ℕ} → read_book bs ≡ got r p → RulesFit r
book-fits bs admitted = book_reads bs trees-fit admitted

-- an admitted question fits some sort, with no variables
pub question-fits : (S : Symbols) (bs : List ℕ) {q : Expr} {p : ℕ} → read_question S bs ≡ got q p → (s : ℕ) × ExprFits S [] q s
question-fits S bs asked = let (s, l, fits) = question_reads S bs (expressions-fit S) asked in (s, fits)

-- and binds no more variables than there may be
pub question-bound : (S : Symbols) (bs : List ℕ) {q : Expr} {p : ℕ} → read_question S bs ≡ got q p → Bound 0 q
question-bound S bs asked = let (s, l, bound) = question_reads S bs (expressions-bound S) asked in bound
