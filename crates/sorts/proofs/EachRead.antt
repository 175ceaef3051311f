-- What holds of every expression that is read: it is enough that it holds of each kind of expression where it holds of the parts.
use mathlib.Core.Path.{◌≡◌}
use mathlib.Core.List.{List, [], ◌∷◌, ◌++◌}
use Prim.Native.Nat.{ℕ, zero, suc, ◌-◌, ◌<◌}
use borrow.Author.Tests.{leb-false, eqb-true, not-false}
use lib.ListN.{length, get_or}
use Rattle.limits.specs.Sizes.{most_expression_nodes, most_variables}
use Rattle.reading.specs.Reading.{Reading, got, refusal}
use Rattle.reading.specs.Bytes.{byte_at, number_at}
use Rattle.reading.proofs.Good.{Good, good, refused, good-got, then-good, unless}
use Rattle.symbols.specs.Symbols.{Symbols, symbol_of}
use Rattle.expressions.specs.Expressions.{Expr, Exprs, no_exprs, more_exprs}
use Rattle.expressions.specs.ExpressionAt.{Left, leaving, ExprReader, node_at, variable_at, row_with, choice_at, applied_at, apply_at, shared_at, code_at, expr_at, whole_at, whole_expr_at}
use Rattle.book.specs.Admission.{question_opened, asked_at, read_question}

-- of some readings nothing need be known
pub any : {A : Type 0} (r : Reading A) → Good (λ a p. Unit {0}) r
any (got a p) = good tt
any (refusal c p) = refused

-- P is said of an expression read of a sort with so many nodes left, where its variables have the sorts `vars`, R of a row of them:
-- both hold of each kind of expression, where its symbols are among S, if they hold of the parts.
pub record OfEachKind (S : Symbols) (P : List ℕ → ℕ → ℕ → Left Expr → Type 0) (R : List ℕ → List ℕ → ℕ → Left Exprs → Type 0) : Type 0 where
  pub var : (vars : List ℕ) (s left x : ℕ) → x < length vars → get_or vars x 0 ≡ s → P vars s left (leaving left (Expr.var x))
  pub apply : (vars : List ℕ) (s left f : ℕ) (r : Left Exprs) → f < length S → (symbol_of S f).sort ≡ s → R vars (symbol_of S f).arguments left r
      → P vars s (suc left) (leaving r.left (Expr.apply f r.what))
  pub choice : (vars : List ℕ) (s left : ℕ) (a b : Left Expr) → P vars s left a → P vars s a.left b
      → P vars s (suc left) (leaving b.left (Expr.choice a.what b.what))
  pub fail : (vars : List ℕ) (s left : ℕ) → P vars s (suc left) (leaving left Expr.fail)
  pub shared : (vars : List ℕ) (s left t : ℕ) (a b : Left Expr) → length vars < most_variables → P vars t left a → P (vars ++ (t ∷ [])) s a.left b
      → P vars s left (leaving b.left (Expr.shared t a.what b.what))
  pub none : (vars : List ℕ) (left : ℕ) → R vars [] left (leaving left no_exprs)
  pub more : (vars : List ℕ) (s left : ℕ) (ss : List ℕ) (a : Left Expr) (r : Left Exprs) → P vars s left a → R vars ss a.left r
      → R vars (s ∷ ss) left (leaving r.left (more_exprs a.what r.what))

module _ (bs : List ℕ) (base : ℕ) {S : Symbols} (e : ℕ) {P : List ℕ → ℕ → ℕ → Left Expr → Type 0} {R : List ℕ → List ℕ → ℕ → Left Exprs → Type 0}
    (each : OfEachKind S P R) where
  -- P holds of whatever `expr` reads with these variables
  abbrev Reads : List ℕ → ExprReader → Type 0
  Reads vars expr = (s left p : ℕ) → Good (λ x q. P vars s left x) (expr s left p)

  -- the same, where `left` nodes are left once the expression's own node is counted
  abbrev ReadsBelow : List ℕ → ExprReader → Type 0
  ReadsBelow vars expr = (s left p : ℕ) → Good (λ x q. P vars s (suc left) x) (expr s left p)

  -- a row of arguments
  row_reads : (vars : List ℕ) (expr : ExprReader) → Reads vars expr → (ss : List ℕ) (left p : ℕ) → Good (λ x q. R vars ss left x) (row_with expr ss left p)
  unfolding row_with
  row_reads vars expr reads [] left p = good (each.none vars left)
  row_reads vars expr reads (s ∷ ss) left p =
      then-good (reads s left p) λ a q first.
      then-good (row_reads vars expr reads ss a.left q) λ r t others.
      good (each.more vars s left ss a r first others)

  -- a variable is there and has its sort
  variable_reads : (vars : List ℕ) → Reads vars (variable_at bs base e vars)
  unfolding variable_at
  variable_reads vars s left p =
      then-good (any (byte_at bs base e _)) λ x q _. unless _ _ _ λ _ known. unless _ _ _ λ _ sorted.
      good (each.var vars s left x (leb-false _ _ known) (eqb-true _ _ (not-false _ sorted)))

  -- a symbol is there and has its sort
  applied_reads : (s p : ℕ) → Good (λ f q. (f < length S) × ((symbol_of S f).sort ≡ s)) (applied_at bs base S e s p)
  unfolding applied_at
  applied_reads s p =
      then-good (any (number_at bs base e _)) λ f q _. unless _ _ _ λ _ known. unless _ _ _ λ _ sorted.
      good (leb-false _ _ known, eqb-true _ _ (not-false _ sorted))

  -- an apply
  apply_reads : (vars : List ℕ) (expr : ExprReader) → Reads vars expr → ReadsBelow vars (apply_at bs base S e expr)
  unfolding apply_at
  apply_reads vars expr reads s left p =
      then-good (applied_reads s p) λ f q is.
      then-good (row_reads vars expr reads (symbol_of S f).arguments left q) λ r t row.
      good (each.apply vars s left f r is.0 is.1 row)

  -- a choice
  choice_reads : (vars : List ℕ) (expr : ExprReader) → Reads vars expr → ReadsBelow vars (choice_at expr)
  unfolding choice_at
  choice_reads vars expr reads s left p =
      then-good (reads s left _) λ a q first.
      then-good (reads s a.left q) λ b t second.
      good (each.choice vars s left a b first second)

  -- a shared part, of which one more variable is bound in the body
  shared_reads : (expr : List ℕ → ExprReader) → ((vars : List ℕ) → Reads vars (expr vars)) → (vars : List ℕ) → Reads vars (shared_at bs base S e expr vars)
  unfolding shared_at
  shared_reads expr reads vars s left p =
      unless _ _ _ λ _ _. unless _ _ _ λ _ few. then-good (any (byte_at bs base e _)) λ t q _. unless _ _ _ λ _ _.
      then-good (reads vars t left q) λ a r first.
      then-good (reads (vars ++ (t ∷ [])) s a.left r) λ b u second.
      good (each.shared vars s left t a b (leb-false _ _ few) first second)

  -- one node less is left below a node
  node_reads : (vars : List ℕ) (s left p : ℕ) {more : ℕ → Reading (Left Expr)} → ((l : ℕ) → Good (λ x q. P vars s (suc l) x) (more l))
      → Good (λ x q. P vars s left x) (node_at base left p more)
  unfolding node_at
  node_reads vars s zero p f = refused
  node_reads vars s (suc left) p f = f left

  -- an expression, by its code
  code_reads : (expr : List ℕ → ExprReader) → ((vars : List ℕ) → Reads vars (expr vars)) → (vars : List ℕ) (c : ℕ) → Reads vars (code_at bs base S e expr vars c)
  unfolding code_at
  code_reads expr reads vars zero s left p = variable_reads vars s left p
  code_reads expr reads vars (suc zero) s left p = node_reads vars s left p λ l. apply_reads vars (expr vars) (reads vars) s l p
  code_reads expr reads vars (suc (suc zero)) s left p = node_reads vars s left p λ l. choice_reads vars (expr vars) (reads vars) s l p
  code_reads expr reads vars (suc (suc (suc zero))) s left p = node_reads vars s left p λ l. good (each.fail vars s l)
  code_reads expr reads vars (suc (suc (suc (suc zero)))) s left p = shared_reads expr reads vars s left p
  code_reads expr reads vars (suc (suc (suc (suc (suc c))))) s left p = refused

  -- an expression, however deep
  expr_reads : (depth : ℕ) (vars : List ℕ) → Reads vars (expr_at bs base S e depth vars)
  unfolding expr_at
  expr_reads zero vars s left p = refused
  expr_reads (suc depth) vars s left p =
      then-good (any (byte_at bs base e p)) λ c q _. code_reads (expr_at bs base S e depth) (expr_reads depth) vars c s left p

  -- so it holds of a whole expression
  pub whole_reads : (vars : List ℕ) (s p : ℕ) → Good (λ x q. (l : ℕ) × P vars s most_expression_nodes (leaving l x)) (whole_expr_at bs base S e vars s p)
  unfolding whole_expr_at whole_at
  whole_reads vars s p = then-good (expr_reads (e - p) vars s most_expression_nodes p) λ x q is. good (x.left, is)

-- and of an admitted question, which has some sort and no variables
pub question_reads : (S : Symbols) (bs : List ℕ) {P : List ℕ → ℕ → ℕ → Left Expr → Type 0} {R : List ℕ → List ℕ → ℕ → Left Exprs → Type 0} → OfEachKind S P R
    → {q : Expr} {p : ℕ} → read_question S bs ≡ got q p → (s l : ℕ) × P [] s most_expression_nodes (leaving l q)
unfolding read_question asked_at
question_reads S bs {P} each asked = good-got reads asked
  where
    reads : Good (λ q p. (s l : ℕ) × P [] s most_expression_nodes (leaving l q)) (read_question S bs)
    reads =
        then-good (any (question_opened bs)) λ e p _.
        then-good (any (byte_at bs 10 e p)) λ s q _. unless _ _ _ λ _ _.
        then-good (whole_reads bs 10 e each [] s q) λ x r is. unless _ _ _ λ _ _. unless _ _ _ λ _ _.
        good (s, is.0, is.1)
