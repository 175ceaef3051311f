-- Reading an expression of the sort asked for. "At an expression: code, node count, its symbol or variable byte, sort, then its
-- arguments or sides."
use Rattle.std.specs.Prelude.{not, List, [], ◌∷◌, ◌++◌, ℕ, zero, suc, ◌+◌, ◌-◌, leb, ltb, eqb, length, get_or}
use Rattle.limits.specs.Sizes.{most_expression_nodes, most_variables, last_sort}
use Rattle.reading.specs.Reading.{Reading, got, refusal, ◌then◌, refuse◌at◌if◌else◌}
use Rattle.reading.specs.Bytes.{version_of, byte_at, number_at}
use Rattle.symbols.specs.Symbols.{Symbols, symbol_of}
use Rattle.expressions.specs.Expressions.{Expr, Exprs, no_exprs, more_exprs}

-- what was read, and what is left of the 64 nodes of one expression
pub record Left (A : Type 0) : Type 0 where
  pub what : A
  pub left : ℕ

abbrev pub leaving : {A : Type 0} → ℕ → A → Left A
leaving l a = record { what = a; left = l }

abbrev pub left_of : {A : Type 0} → Left A → ℕ
left_of x = x.left

-- a reader of one expression: of a sort, with so many nodes left, at a place
abbrev pub ExprReader : Type 0
ExprReader = ℕ → ℕ → ℕ → Reading (Left Expr)

-- "65th node (place: its code)": else reading goes on with one node less left. `base` is 0 in a book and 10 in a question.
unfoldable pub node_at : ℕ → ℕ → ℕ → (ℕ → Reading (Left Expr)) → Reading (Left Expr)
node_at base zero p more = refusal (base + 4) p
node_at base (suc left) p more = more left

-- "0 variable, one byte", with the sorts of the variables bound on the path. "variable not there (place: its first byte)"; "an
-- expression's sort is wrong (place: its code)". The part or item ends at e.
unfoldable pub variable_at : List ℕ → ℕ → ℕ → List ℕ → ExprReader
variable_at bs base e vars sort left p =
    byte_at bs base e (p + 1) then λ x q.
    refuse base + 4 at p + 1 if leb (length vars) x else λ _.
    refuse base + 5 at p if not (eqb (get_or vars x 0) sort) else λ _.
    got (leaving left (Expr.var x)) q

-- one expression for each of the sorts, in order
unfoldable pub row_with : ExprReader → List ℕ → ℕ → ℕ → Reading (Left Exprs)
row_with expr [] left p = got (leaving left no_exprs) p
row_with expr (s ∷ sorts) left p =
    expr s left p then λ a q.
    row_with expr sorts a.left q then λ r t.
    got (leaving r.left (more_exprs a.what r.what)) t

-- "a choice has the sort asked for on both sides"
unfoldable pub choice_at : ExprReader → ExprReader
choice_at expr sort left p =
    expr sort left (p + 1) then λ a q.
    expr sort a.left q then λ b t.
    got (leaving b.left (Expr.choice a.what b.what)) t

module _ (bs : List ℕ) (base : ℕ) (symbols : Symbols) (e : ℕ) where
  -- "1 apply, a two-byte symbol": of the sort asked for. "symbol .. not there (place: its first byte)"
  unfoldable pub applied_at : ℕ → ℕ → Reading ℕ
  applied_at sort p =
      number_at bs base e (p + 1) then λ f q.
      refuse base + 4 at p + 1 if leb (length symbols) f else λ _.
      refuse base + 5 at p if not (eqb (symbol_of symbols f).sort sort) else λ _.
      got f q

  -- "then arguments"
  unfoldable pub apply_at : ExprReader → ExprReader
  apply_at expr sort left p =
      applied_at sort p then λ f q.
      row_with expr (symbol_of symbols f).arguments left q then λ r t.
      got (leaving r.left (Expr.apply f r.what)) t

  -- "Version byte 2 allows expression code 4: a sort byte, an expression of that sort, then the body, in which the first takes the
  -- next free variable number, there only". "code 4 in version 1 stays 4 or 14"; "a 33rd variable is 4 or 14 at its code"; "its sort
  -- byte above 63 is 3 or 13". It is no node itself.
  unfoldable pub shared_at : (List ℕ → ExprReader) → List ℕ → ExprReader
  shared_at expr vars sort left p =
      refuse base + 4 at p if not (eqb (version_of bs) 2) else λ _.
      refuse base + 4 at p if leb most_variables (length vars) else λ _.
      byte_at bs base e (p + 1) then λ s q.
      refuse base + 3 at p + 1 if ltb last_sort s else λ _.
      expr vars s left q then λ a r.
      expr (vars ++ (s ∷ [])) sort a.left r then λ b t.
      got (leaving b.left (Expr.shared s a.what b.what)) t

  -- by the code that stands at p; "unknown code (place: its first byte)"
  unfoldable pub code_at : (List ℕ → ExprReader) → List ℕ → ℕ → ExprReader
  code_at expr vars zero sort left p = variable_at bs base e vars sort left p
  code_at expr vars (suc zero) sort left p = node_at base left p (λ l. apply_at (expr vars) sort l p)
  code_at expr vars (suc (suc zero)) sort left p = node_at base left p (λ l. choice_at (expr vars) sort l p)
  code_at expr vars (suc (suc (suc zero))) sort left p = node_at base left p (λ l. got (leaving l Expr.fail) (p + 1))
  code_at expr vars (suc (suc (suc (suc zero)))) sort left p = shared_at expr vars sort left p
  code_at expr vars (suc (suc (suc (suc (suc c))))) sort left p = refusal (base + 4) p

  -- The first number bounds how deep expressions stand in expressions: each stands behind the code of the one around it, so no deeper
  -- than there are bytes up to e. Where no bytes are left the code's own byte is missing.
  unfoldable pub expr_at : ℕ → List ℕ → ExprReader
  expr_at zero vars sort left p = refusal (base + 1) e
  expr_at (suc depth) vars sort left p =
      byte_at bs base e p then λ code _.
      code_at (expr_at depth) vars code sort left p

  -- "64 nodes in one expression (variables don't count)": a whole expression, with what is left of them
  unfoldable pub whole_at : List ℕ → ℕ → ℕ → Reading (Left Expr)
  whole_at vars sort p = expr_at (e - p) vars sort most_expression_nodes p

  unfoldable pub whole_expr_at : List ℕ → ℕ → ℕ → Reading Expr
  whole_expr_at vars sort p =
      whole_at vars sort p then λ x q.
      got x.what q
