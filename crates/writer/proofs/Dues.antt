-- What is due behind each number of a tree's row, for each way through the code.
use mathlib.Core.List.{List}
use mathlib.Core.Path.{◌≡◌, refl}
use Prim.Native.Nat.{ℕ, zero, suc, ◌+◌, ◌-◌, ◌≤◌}
use native.Mathlib.Numerals.{sub-one}
use native.Mathlib.Omega.{arith}
use lib.ListN.{get_or}
use Rattle.writer.specs.Layout.{Due, due, code, variable, symbol, behind_tree, behind_expr, behind_code, behind}

-- behind a tree's code that is neither 1 nor 2
pub tree-other : (n : ℕ) → (n ≡ 1 → ⊥) → (n ≡ 2 → ⊥) → due code 0 ≡ behind_tree n
unfolding behind_tree
tree-other zero a b = refl
tree-other (suc zero) a b = absurd (a refl)
tree-other (suc (suc zero)) a b = absurd (b refl)
tree-other (suc (suc (suc n))) a b = refl

-- behind an expression's code above 2
pub expr-other : (others n : ℕ) → (n ≡ 0 → ⊥) → (n ≡ 1 → ⊥) → (n ≡ 2 → ⊥) → due code others ≡ behind_expr others n
unfolding behind_expr
expr-other others zero z a b = absurd (z refl)
expr-other others (suc zero) z a b = absurd (a refl)
expr-other others (suc (suc zero)) z a b = absurd (b refl)
expr-other others (suc (suc (suc n))) z a b = refl

-- at most one expression is due behind a tree's code
pub tree-few : (n : ℕ) → (behind_tree n).expressions ≤ 1
unfolding behind_tree
tree-few zero = omega arith
tree-few (suc zero) = omega arith
tree-few (suc (suc zero)) = omega arith
tree-few (suc (suc (suc n))) = omega arith

-- and at most two more behind an expression's
pub expr-few : (others n : ℕ) → (behind_expr others n).expressions ≤ others + 2
unfolding behind_expr
expr-few others zero = omega arith
expr-few others (suc zero) = omega arith
expr-few others (suc (suc zero)) = omega arith
expr-few others (suc (suc (suc n))) = omega arith

-- where expressions are due, the code is an expression's
code-expr : (k n : ℕ) → (k ≡ 0 → ⊥) → behind_expr (k - 1) n ≡ behind_code k n
unfolding behind_code
code-expr zero n some = absurd (some refl)
code-expr (suc k) n some = rw sub-one

module _ (arities : List ℕ) (d : Due) (n : ℕ) where
  pub behind-tree : d.next ≡ code → d.expressions ≡ 0 → behind_tree n ≡ behind arities d n
  unfolding behind behind_code
  behind-tree is none = rw (is, none)

  pub behind-expr : d.next ≡ code → (d.expressions ≡ 0 → ⊥) → behind_expr (d.expressions - 1) n ≡ behind arities d n
  unfolding behind
  behind-expr is some = rw is (code-expr d.expressions n some)

  pub behind-variable : d.next ≡ variable → due code d.expressions ≡ behind arities d n
  unfolding behind
  behind-variable is = rw is

  pub behind-symbol : d.next ≡ symbol → due code (get_or arities n 0 + d.expressions) ≡ behind arities d n
  unfolding behind
  behind-symbol is = rw is
