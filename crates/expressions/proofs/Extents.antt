-- An expression that was read takes the bytes that it takes, within its part or item, and the allowance does not grow.
use mathlib.Core.List.{List, [], ◌∷◌, ◌++◌}
use mathlib.Core.Path.{◌≡◌, refl}
use Prim.Native.Nat.{ℕ, zero, suc, ◌+◌, ◌-◌, ◌≤◌, ◌<◌}
use native.Mathlib.Omega.{arith}
use Rattle.limits.specs.Sizes.{most_expression_nodes}
use Rattle.reading.specs.Reading.{Reading}
use Rattle.reading.proofs.Good.{Good, good, refused, then-good, unless, byte_good, number-good}
use Rattle.symbols.specs.Symbols.{Symbols, symbol_of}
use Rattle.expressions.specs.Expressions.{Expr, Exprs, expr_bytes, row_bytes}
use Rattle.expressions.specs.ExpressionAt.{Left, leaving, ExprReader, node_at, variable_at, row_with, choice_at, applied_at, apply_at, shared_at, code_at, expr_at, whole_at}

-- what was read from p on, with `left` nodes left: so many bytes, up to e at most, and no more nodes left
pub record Extent {A : Type 0} (bytes : A → ℕ) (e left p : ℕ) (x : Left A) (q : ℕ) : Type 0 where
  pub fewer : x.left ≤ left
  pub size : q ≡ p + bytes x.what
  pub within : q ≤ e

module _ (bs : List ℕ) (base : ℕ) (S : Symbols) (e : ℕ) where
  -- whatever the reader reads has its extent
  abbrev Extents : ExprReader → Type 0
  Extents expr = (s left p : ℕ) → Good (Extent expr_bytes e left p) (expr s left p)

  row_extent : (expr : ExprReader) → Extents expr → (sorts : List ℕ) (left p : ℕ) → p ≤ e → Good (Extent row_bytes e left p) (row_with expr sorts left p)
  unfolding row_with row_bytes
  row_extent expr reads [] left p h = good {a = leaving left Exprs.no_exprs} {p = p} (record { fewer = omega arith; size = omega arith; within = h })
  row_extent expr reads (s ∷ sorts) left p h =
      then-good (reads s left p) λ a q first.
      then-good (row_extent expr reads sorts a.left q first.within) λ r t more.
      good (record { fewer = omega (arith, first.fewer, more.fewer); size = omega (arith, first.size, more.size); within = more.within })

  variable_extent : (vars : List ℕ) → Extents (variable_at bs base e vars)
  unfolding variable_at expr_bytes
  variable_extent vars s left p =
      then-good (byte_good bs base e (p + 1)) λ x q is. unless _ _ _ λ _ _. unless _ _ _ λ _ _.
      good (record { fewer = omega arith; size = omega (arith, is.1); within = is.2 })

  apply_extent : (expr : ExprReader) → Extents expr → (s left p : ℕ) → Good (Extent expr_bytes e left p) (apply_at bs base S e expr s left p)
  unfolding apply_at applied_at expr_bytes
  apply_extent expr reads s left p =
      then-good {P = λ f q. (q ≡ p + 3) × (q ≤ e)} (then-good (number-good bs base e (p + 1)) λ f q is. unless _ _ _ λ _ _. unless _ _ _ λ _ _. good (omega (arith, is.1), is.2)) λ f q is.
      then-good (row_extent expr reads (symbol_of S f).arguments left q is.1) λ r t row.
      good (record { fewer = row.fewer; size = omega (arith, is.0, row.size); within = row.within })

  choice_extent : (expr : ExprReader) → Extents expr → (s left p : ℕ) → Good (Extent expr_bytes e left p) (choice_at expr s left p)
  unfolding choice_at expr_bytes
  choice_extent expr reads s left p =
      then-good (reads s left (p + 1)) λ a q first.
      then-good (reads s a.left q) λ b t second.
      good (record { fewer = omega (arith, first.fewer, second.fewer); size = omega (arith, first.size, second.size); within = second.within })

  -- a shared part, and the body behind it
  shared_extent : (expr : List ℕ → ExprReader) → ((vars : List ℕ) → Extents (expr vars)) → (vars : List ℕ) → Extents (shared_at bs base S e expr vars)
  unfolding shared_at expr_bytes
  shared_extent expr reads vars s left p =
      unless _ _ _ λ _ _. unless _ _ _ λ _ _. then-good (byte_good bs base e (p + 1)) λ x q is. unless _ _ _ λ _ _.
      then-good (reads vars x left q) λ a r first.
      then-good (reads (vars ++ (x ∷ [])) s a.left r) λ b t second.
      good (record { fewer = omega (arith, first.fewer, second.fewer); size = omega (arith, is.1, first.size, second.size); within = second.within })

  -- one node less left
  node_extent : (left p : ℕ) {more : ℕ → Reading (Left Expr)} → ((l : ℕ) → Good (Extent expr_bytes e l p) (more l)) → Good (Extent expr_bytes e left p) (node_at base left p more)
  unfolding node_at
  node_extent zero p f = refused
  node_extent (suc left) p {more} f = weaker (f left)
    where
      weaker : {r : Reading (Left Expr)} → Good (Extent expr_bytes e left p) r → Good (Extent expr_bytes e (suc left) p) r
      weaker (good {a = x} {p = q} is) = good {a = x} (record { fewer = omega (arith, is.fewer); size = is.size; within = is.within })
      weaker refused = refused

  code_extent : (expr : List ℕ → ExprReader) → ((vars : List ℕ) → Extents (expr vars)) → (vars : List ℕ) (c s left p : ℕ) → p < e → Good (Extent expr_bytes e left p) (code_at bs base S e expr vars c s left p)
  unfolding code_at expr_bytes
  code_extent expr reads vars zero s left p h = variable_extent vars s left p
  code_extent expr reads vars (suc zero) s left p h = node_extent left p λ l. apply_extent (expr vars) (reads vars) s l p
  code_extent expr reads vars (suc (suc zero)) s left p h = node_extent left p λ l. choice_extent (expr vars) (reads vars) s l p
  code_extent expr reads vars (suc (suc (suc zero))) s left p h = node_extent left p λ l. good (record { fewer = omega arith; size = refl; within = omega arith })
  code_extent expr reads vars (suc (suc (suc (suc zero)))) s left p h = shared_extent expr reads vars s left p
  code_extent expr reads vars (suc (suc (suc (suc (suc c))))) s left p h = refused

  pub expr_extent : (depth : ℕ) (vars : List ℕ) → Extents (expr_at bs base S e depth vars)
  unfolding expr_at
  expr_extent zero vars s left p = refused
  expr_extent (suc depth) vars s left p =
      then-good (byte_good bs base e p) λ c q is. code_extent (expr_at bs base S e depth) (expr_extent depth) vars c s left p (omega (arith, is.1, is.2))

  pub whole_extent : (vars : List ℕ) (s p : ℕ) → Good (Extent expr_bytes e most_expression_nodes p) (whole_at bs base S e vars s p)
  unfolding whole_at
  whole_extent vars s p = expr_extent (e - p) vars s most_expression_nodes p
