-- What the two rules of a heading weigh.
use mathlib.Core.Path.{◌≡◌, refl, ap}
use mathlib.Core.List.{List, [], ◌∷◌}
use Prim.Native.Nat.{ℕ, suc, ◌+◌, ◌*◌}
use native.Mathlib.Omega.{arith}
use lib.ListN.{length}
use Rattle.expressions.specs.Expressions.{Expr, Exprs}
use Rattle.machine.specs.Made.{expr_choices}
use Rattle.tagged.specs.Terms.{nested, first_of, second_of}
use Rattle.tagged.specs.Hops.{In, first, later}
use Rattle.nights.proofs.Weights.{Plain}

module _ (Q : ℕ → Type 0) (φ : ℕ → ℕ) (κ γ : ℕ) where
  -- items, each with the choice in front of it
  pub data Items : List Expr → ℕ → Type 0 where
    none : Items [] 0
    more : {f : ℕ} {es : List Expr} {t : ℕ} → Q f → Items es t → Items (Expr.apply f Exprs.no_exprs ∷ es) (κ + φ f + t)

  -- a nest of items has one choice less
  pub nest_weighs : {e : Expr} {es : List Expr} {t : ℕ} → Items (e ∷ es) t → (w : ℕ) × (w + κ ≡ t) × Plain Q φ κ γ (nested (e ∷ es)) w
  unfolding nested
  nest_weighs (more {f} q none) = (φ f, omega arith, Plain.leaf q)
  nest_weighs (more {f} q (more r more-items)) =
      let (w, is, plain) = nest_weighs (more r more-items) in
      (κ + φ f + w, omega arith, Plain.both (Plain.leaf q) plain)

  pub nest_choices : {e : Expr} {es : List Expr} {t : ℕ} → Items (e ∷ es) t → expr_choices (nested (e ∷ es)) ≡ length es
  unfolding nested expr_choices
  nest_choices (more q none) = refl
  nest_choices (more q (more r more-items)) = omega (arith, nest_choices (more r more-items))

  -- ---- of the first operation

  -- what its items come to
  unfoldable pub sum_first : List ℕ → ℕ
  sum_first [] = 0
  sum_first (b ∷ bs) = κ + φ b + sum_first bs

  pub first-items : (bs : List ℕ) → ((b : ℕ) → In b bs → Q b) → Items (first_of bs) (sum_first bs)
  unfolding first_of sum_first
  first-items [] q = none
  first-items (b ∷ bs) q = more (q b first) (first-items bs (λ c i. q c (later i)))

  -- where each term weighs c
  pub sum_first_lem : (c : ℕ) (bs : List ℕ) → ((b : ℕ) → In b bs → φ b ≡ c) → sum_first bs ≡ (κ + c) * length bs
  unfolding sum_first
  sum_first_lem c [] each = omega arith
  sum_first_lem c (b ∷ bs) each = omega (arith, each b first, sum_first_lem c bs (λ d i. each d (later i)))

  -- ---- of the second

  unfoldable pub sum_second : ℕ → List ℕ → ℕ
  sum_second n [] = 0
  sum_second n (b ∷ bs) = κ + φ b + (κ + φ (n + n + b) + sum_second n bs)

  pub second-items : (n : ℕ) (bs : List ℕ) → ((b : ℕ) → In b bs → Q b) → ((b : ℕ) → In b bs → Q (n + n + b)) → Items (second_of n bs) (sum_second n bs)
  unfolding second_of sum_second
  second-items n [] q r = none
  second-items n (b ∷ bs) q r = more (q b first) (more (r b first) (second-items n bs (λ c i. q c (later i)) (λ c i. r c (later i))))

-- two items for each broader term
pub second-length : (n : ℕ) (bs : List ℕ) → length (second_of n bs) ≡ 2 * length bs
unfolding second_of
second-length n [] = refl
second-length n (b ∷ bs) = omega (arith, second-length n bs)

pub first-length : (bs : List ℕ) → length (first_of bs) ≡ length bs
unfolding first_of
first-length [] = refl
first-length (b ∷ bs) = ap suc (first-length bs)
