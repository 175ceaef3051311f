-- No refusal of a book or a question has the number 0.
use mathlib.Core.Bool.{Bool, true, false}
use mathlib.Core.Path.{◌≡◌}
use mathlib.Core.List.{List, [], ◌∷◌, ◌++◌}
use Prim.Native.Nat.{ℕ, zero, suc, ◌-◌, ◌<◌}
use native.Mathlib.Omega.{arith}
use lib.Dec.{ltb}
use Rattle.limits.specs.Sizes.{most_expression_nodes, most_variables}
use Rattle.reading.specs.Reading.{Reading, got, refusal, ◌then◌, refuse◌at◌if◌else◌}
use Rattle.reading.specs.Bytes.{byte_at, number_at, length_at}
use Rattle.symbols.specs.Symbols.{Symbols, Symbol}
use Rattle.symbols.specs.SymbolPart.{sorts_at, symbol_at, symbols_at, opened, symbol_part}
use Rattle.expressions.specs.Expressions.{Expr}
use Rattle.expressions.specs.ExpressionAt.{Left, ExprReader, node_at, variable_at, row_with, choice_at, applied_at, apply_at, shared_at, code_at}
use Rattle.expressions.specs.ExpressionAt.{expr_at, whole_at, whole_expr_at}
use Rattle.book.specs.Trees.{Tree}
use Rattle.book.specs.TreeAt.{trees_with, branched_at, branch_at, tree_code_at, tree_in, item_at, trees_of, tree_part}
use Rattle.book.specs.Admission.{read_book, question_opened, asked_at, read_question}

-- what is refused has a number above 0
data Numbered {A : Type 0} : Reading A → Type 0 where
  read : {a : A} {p : ℕ} → Numbered (got a p)
  refused : {c p : ℕ} → 0 < c → Numbered (refusal c p)

-- the same with the number and place given
refused-with : {A : Type 0} (c p : ℕ) → 0 < c → Numbered {A = A} (refusal c p)
refused-with c p lt = refused lt

-- so the number of a refusal is above 0
numbered-refusal : {A : Type 0} {r : Reading A} {c p : ℕ} → Numbered r → r ≡ refusal c p → 0 < c
numbered-refusal read e = absurd (let z : ◌≡◌ {A = ℕ} 0 1 = cc in omega arith)
numbered-refusal {c} (refused {c = d} lt) e = let same : d ≡ c = cc in rw same at lt

-- reading goes on
next : {A B : Type 0} {r : Reading A} {more : A → ℕ → Reading B} → Numbered r → ((a : A) (q : ℕ) → Numbered (more a q))
    → Numbered (◌then◌ r more)
unfolding ◌then◌
next (read {a} {p}) f = f a p
next (refused lt) f = refused lt

-- a clause of the table of refusals
unless : {A : Type 0} (c p : ℕ) (t : Bool) {more : Unit {0} → Reading A} → 0 < c → ((u : Unit {0}) → Numbered (more u))
    → Numbered (refuse◌at◌if◌else◌ c p t more)
unfolding refuse◌at◌if◌else◌
unless c p true lt n = refused lt
unless c p false lt n = n tt

-- one of two readings
either : {A : Type 0} (t : Bool) {a b : Reading A} → Numbered a → Numbered b → Numbered {A = A} (elim t [ false ↦ a | true ↦ b ])
either false n m = n
either true n m = m

-- ---- bytes, numbers and lengths; expressions

module _ (bs : List ℕ) (base e : ℕ) where
  -- a byte, a number, a length
  byte_numbered : (p : ℕ) → Numbered (byte_at bs base e p)
  unfolding byte_at
  byte_numbered p = unless _ _ _ (omega arith) λ _. read

  number-numbered : (p : ℕ) → Numbered (number_at bs base e p)
  unfolding number_at
  number-numbered p = unless _ _ _ (omega arith) λ _. read

  length-numbered : (p : ℕ) → Numbered (length_at bs base e p)
  unfolding length_at
  length-numbered p = next (number-numbered p) λ n q. unless _ _ _ (omega arith) λ _. read

  -- a reader of expressions all of whose refusals are numbered
  abbrev NumberedReader : ExprReader → Type 0
  NumberedReader expr = (s left p : ℕ) → Numbered (expr s left p)

  -- a row of arguments
  row-numbered : (expr : ExprReader) → NumberedReader expr → (ss : List ℕ) (left p : ℕ) → Numbered (row_with expr ss left p)
  unfolding row_with
  row-numbered expr reads [] left p = read
  row-numbered expr reads (s ∷ ss) left p = next (reads s left p) λ a q. next (row-numbered expr reads ss a.left q) λ r t. read

  -- a node is counted
  node-numbered : (left p : ℕ) {more : ℕ → Reading (Left Expr)} → ((l : ℕ) → Numbered (more l)) → Numbered (node_at base left p more)
  unfolding node_at
  node-numbered zero p f = refused-with _ _ (omega arith)
  node-numbered (suc left) p f = f left

  module _ (S : Symbols) where
    -- an expression by its code
    code-numbered : (expr : List ℕ → ExprReader) → ((vars : List ℕ) → NumberedReader (expr vars)) → (vars : List ℕ) (c : ℕ)
        → NumberedReader (code_at bs base S e expr vars c)
    unfolding code_at variable_at applied_at apply_at choice_at shared_at
    code-numbered expr reads vars zero s left p =
        next (byte_numbered _) λ x q. unless _ _ _ (omega arith) λ _. unless _ _ _ (omega arith) λ _. read
    code-numbered expr reads vars (suc zero) s left p =
        node-numbered left p λ l.
        next (next (number-numbered _) λ f q. unless _ _ _ (omega arith) λ _. unless _ _ _ (omega arith) λ _. read) λ f q.
        next (row-numbered (expr vars) (reads vars) _ l q) λ r t. read
    code-numbered expr reads vars (suc (suc zero)) s left p =
        node-numbered left p λ l. next (reads vars s l _) λ a q. next (reads vars s a.left q) λ b t. read
    code-numbered expr reads vars (suc (suc (suc zero))) s left p = node-numbered left p λ l. read
    code-numbered expr reads vars (suc (suc (suc (suc zero)))) s left p =
        unless _ _ _ (omega arith) λ _. unless _ _ _ (omega arith) λ _. next (byte_numbered _) λ t q. unless _ _ _ (omega arith) λ _.
        next (reads vars t left q) λ a r. next (reads (vars ++ (t ∷ [])) s a.left r) λ b u. read
    code-numbered expr reads vars (suc (suc (suc (suc (suc c))))) s left p = refused-with _ _ (omega arith)

    -- however deep
    expr-numbered : (depth : ℕ) (vars : List ℕ) → NumberedReader (expr_at bs base S e depth vars)
    unfolding expr_at
    expr-numbered zero vars s left p = refused-with _ _ (omega arith)
    expr-numbered (suc depth) vars s left p =
        next (byte_numbered p) λ c _. code-numbered (expr_at bs base S e depth) (expr-numbered depth) vars c s left p

    -- a whole expression
    whole-numbered : (vars : List ℕ) (s p : ℕ) → Numbered (whole_expr_at bs base S e vars s p)
    unfolding whole_expr_at whole_at
    whole-numbered vars s p = next (expr-numbered (e - p) vars s most_expression_nodes p) λ x q. read

-- ---- symbols

module _ (bs : List ℕ) where
  -- the sorts of arguments
  sorts_numbered : (n p : ℕ) → Numbered (sorts_at bs n p)
  unfolding sorts_at
  sorts_numbered zero p = read
  sorts_numbered (suc n) p = unless _ _ _ (omega arith) λ _. next (sorts_numbered n _) λ ss q. read

  -- a symbol
  symbol-numbered : (e before p : ℕ) → Numbered (symbol_at bs e before p)
  unfolding symbol_at
  symbol-numbered e before p =
      unless _ _ _ (omega arith) λ _. unless _ _ _ (omega arith) λ _. unless _ _ _ (omega arith) λ _.
      unless _ _ _ (omega arith) λ _. unless _ _ _ (omega arith) λ _. unless _ _ _ (omega arith) λ _.
      next (sorts_numbered _ _) λ ss q. read

  -- all symbols
  symbols-numbered : (bound e before p : ℕ) → Numbered (symbols_at bs bound e before p)
  unfolding symbols_at
  symbols-numbered zero e before p = read
  symbols-numbered (suc bound) e before p =
      either (ltb p e) read (next (symbol-numbered e before p) λ s q. next (symbols-numbered bound e (suc before) q) λ ss t. read)

  -- the symbol part
  symbol_part-numbered : Numbered (symbol_part bs)
  unfolding symbol_part opened
  symbol_part-numbered =
      next (unless _ _ _ (omega arith) λ _. next (byte_numbered bs 0 _ 0) λ version p.
      unless _ _ _ (omega arith) λ _. unless _ _ _ (omega arith) λ _. next (length-numbered bs 0 _ p) λ e q.
      unless _ _ _ (omega arith) λ _. read) λ e p.
      symbols-numbered _ e 0 p

-- ---- trees

module _ (bs : List ℕ) (S : Symbols) (s e : ℕ) where
  -- a reader of trees all of whose refusals are numbered
  abbrev NumberedTrees : (List ℕ → List ℕ → ℕ → Reading Tree) → Type 0
  NumberedTrees tree = (vars done : List ℕ) (p : ℕ) → Numbered (tree vars done p)

  -- the trees of a branch
  trees-numbered : (tree : List ℕ → ℕ → Reading Tree) → ((sorts : List ℕ) (p : ℕ) → Numbered (tree sorts p)) → (rest : List (List ℕ)) (p : ℕ)
      → Numbered (trees_with bs S s e tree rest p)
  unfolding trees_with
  trees-numbered tree reads [] p = read
  trees-numbered tree reads (sorts ∷ rest) p = next (reads sorts p) λ t q. next (trees-numbered tree reads rest q) λ ts u. read

  -- a branch
  branch-numbered : (tree : List ℕ → List ℕ → ℕ → Reading Tree) → NumberedTrees tree → NumberedTrees (branch_at bs S s e tree)
  unfolding branch_at branched_at
  branch-numbered tree reads vars done p =
      next (next (byte_numbered bs 0 e _) λ x q.
      unless _ _ _ (omega arith) λ _. unless _ _ _ (omega arith) λ _. unless _ _ _ (omega arith) λ _. read) λ x q.
      next (trees-numbered _ (λ sorts r. reads (vars ++ sorts) (x ∷ done) r) _ q) λ ts t. read

  -- a tree by its code
  tree_code_numbered : (tree : List ℕ → List ℕ → ℕ → Reading Tree) → NumberedTrees tree → (c : ℕ) → NumberedTrees (tree_code_at bs S s e tree c)
  unfolding tree_code_at
  tree_code_numbered tree reads zero vars done p = unless _ _ _ (omega arith) λ _. read
  tree_code_numbered tree reads (suc zero) vars done p = next (whole-numbered bs 0 e S vars s _) λ x q. read
  tree_code_numbered tree reads (suc (suc zero)) vars done p = branch-numbered tree reads vars done p
  tree_code_numbered tree reads (suc (suc (suc c))) vars done p = refused-with _ _ (omega arith)

  -- however deep
  tree-numbered : (depth : ℕ) → NumberedTrees (tree_in bs S s e depth)
  unfolding tree_in
  tree-numbered zero vars done p = refused-with _ _ (omega arith)
  tree-numbered (suc depth) vars done p =
      next (byte_numbered bs 0 e p) λ c _. tree_code_numbered (tree_in bs S s e depth) (tree-numbered depth) c vars done p

-- an operation's item
item-numbered : (bs : List ℕ) (S : Symbols) (e : ℕ) (x : Symbol) (p : ℕ) → Numbered (item_at bs S e x p)
unfolding item_at
item-numbered bs S e x p =
    next (length-numbered bs 0 e p) λ item q. next (tree-numbered bs S x.sort item (suc most_variables) x.arguments [] q) λ t r.
    unless _ _ _ (omega arith) λ _. read

-- the items of all operations
operations_numbered : (bs : List ℕ) (S : Symbols) (e : ℕ) (rest : Symbols) (p : ℕ) → Numbered (trees_of bs S e rest p)
unfolding trees_of
operations_numbered bs S e [] p = read
operations_numbered bs S e (x ∷ rest) p =
    either x.is_operation (next (operations_numbered bs S e rest p) λ ts r. read)
    (next (item-numbered bs S e x p) λ t q. next (operations_numbered bs S e rest q) λ ts r. read)

-- the tree part
tree_part-numbered : (bs : List ℕ) (S : Symbols) (p : ℕ) → Numbered (tree_part bs S p)
unfolding tree_part
tree_part-numbered bs S p =
    next (length-numbered bs 0 _ p) λ e q. next (operations_numbered bs S e S q) λ ts r.
    unless _ _ _ (omega arith) λ _. unless _ _ _ (omega arith) λ _. read

-- ---- books and questions

-- a book
book-numbered : (bs : List ℕ) → Numbered (read_book bs)
unfolding read_book
book-numbered bs = next (symbol_part-numbered bs) λ S p. next (tree_part-numbered bs S p) λ ts q. read

-- a question
question-numbered : (S : Symbols) (bs : List ℕ) → Numbered (read_question S bs)
unfolding read_question question_opened asked_at
question-numbered S bs =
    next (unless _ _ _ (omega arith) λ _. next (byte_numbered bs 10 _ 0) λ version p. unless _ _ _ (omega arith) λ _. unless _ _ _ (omega arith) λ _. length-numbered bs 10 _ p) λ e p.
    next (byte_numbered bs 10 e p) λ s q. unless _ _ _ (omega arith) λ _.
    next (whole-numbered bs 10 e S [] s q) λ x r. unless _ _ _ (omega arith) λ _. unless _ _ _ (omega arith) λ _. read

-- A refused book's number is above 0.
pub book-refused : (bs : List ℕ) {c p : ℕ} → read_book bs ≡ refusal c p → 0 < c
book-refused bs e = numbered-refusal (book-numbered bs) e

-- So is a refused question's.
pub question-refused : (S : Symbols) (bs : List ℕ) {c p : ℕ} → read_question S bs ≡ refusal c p → 0 < c
question-refused S bs e = numbered-refusal (question-numbered S bs) e
