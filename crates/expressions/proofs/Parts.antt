-- An expression is read the same in the part that ends where its item does.
use mathlib.Core.Bool.{Bool, true, false}
use mathlib.Core.List.{List}
use mathlib.Core.Path.{◌≡◌, refl, ap, ap₂, fun_ext}
use Prim.Native.Nat.{ℕ, zero, suc, ◌+◌, ◌-◌, ◌*◌, ◌<◌}
use native.Mathlib.Omega.{arith}
use borrow.Author.Tests.{leb-false, ltb-false}
use lib.Dec.{leb, ltb}
use lib.ListN.{take}
use lib.Seq.{get_or-take}
use Rattle.reading.specs.Reading.{Reading, got, refusal, ◌then◌, refuse◌at◌if◌else◌}
use Rattle.reading.specs.Bytes.{byte_at, number_at}
use Rattle.reading.proofs.Good.{good-got, byte_good}
use Rattle.symbols.specs.Symbols.{Symbols}
use Rattle.expressions.specs.ExpressionAt.{ExprReader, variable_at, applied_at, apply_at, shared_at, code_at, expr_at, whole_at}

-- a test that fails both times, or what is read behind it is the same
same_unless : {A : Type 0} (c p : ℕ) (t : Bool) (a b : Reading A) → (t ≡ false → a ≡ b)
    → refuse◌at◌if◌else◌ c p t (λ _. a) ≡ refuse◌at◌if◌else◌ c p t (λ _. b)
unfolding refuse◌at◌if◌else◌
same_unless c p true a b f = refl
same_unless c p false a b f = f refl

-- what is read behind the same is the same
same_then : {A B : Type 0} (r : Reading A) (f g : A → ℕ → Reading B) → ((a : A) (q : ℕ) → r ≡ got a q → f a q ≡ g a q) → ◌then◌ r f ≡ ◌then◌ r g
unfolding ◌then◌
same_then (got a q) f g same = same a q refl
same_then (refusal c q) f g same = refl

module _ (bs : List ℕ) (base e : ℕ) where
  abbrev part : List ℕ
  part = take e bs

  byte_same : (p : ℕ) → byte_at part base e p ≡ byte_at bs base e p
  unfolding byte_at
  byte_same p = same_unless _ _ (leb e p) _ _ λ t. ap (λ (x : ℕ). got x (p + 1)) (get_or-take e bs p 0 (leb-false e p t))

  number_same : (p : ℕ) → number_at part base e p ≡ number_at bs base e p
  unfolding number_at
  number_same p = same_unless _ _ (ltb e (p + 2)) _ _ λ t.
      let h = ltb-false e (p + 2) t in
      ap₂ (λ (x y : ℕ). got (x * 256 + y) (p + 2)) (get_or-take e bs p 0 (omega arith)) (get_or-take e bs (p + 1) 0 (omega arith))

  module _ (S : Symbols) where
    -- by the code, with the same reader of what stands within
    code_same : (expr : List ℕ → ExprReader) (vars : List ℕ) (c s left p : ℕ) → p < e
        → code_at part base S e expr vars c s left p ≡ code_at bs base S e expr vars c s left p
    unfolding code_at variable_at apply_at applied_at shared_at
    code_same expr vars zero s left p there = rw (byte_same (p + 1))
    code_same expr vars (suc zero) s left p there = simp (apply_at, applied_at, number_same (p + 1))
    code_same expr vars (suc (suc zero)) s left p there = refl
    code_same expr vars (suc (suc (suc zero))) s left p there = refl
    code_same expr vars (suc (suc (suc (suc zero)))) s left p there = rw (get_or-take e bs 0 0 (omega arith), byte_same (p + 1))
    code_same expr vars (suc (suc (suc (suc (suc c))))) s left p there = refl

    pub expr-same : (depth : ℕ) → expr_at part base S e depth ≡ expr_at bs base S e depth
    unfolding expr_at
    expr-same zero = refl
    expr-same (suc depth) = fun_ext λ vars. fun_ext λ s. fun_ext λ left. fun_ext λ p.
        rw (byte_same p, ← (expr-same depth))
        (same_then (byte_at bs base e p) _ _ λ code q read.
        let is = good-got (byte_good bs base e p) read in
        code_same (expr_at part base S e depth) vars code s left p (omega (arith, is.1, is.2)))

    pub whole_same : (vars : List ℕ) (s p : ℕ) → whole_at part base S e vars s p ≡ whole_at bs base S e vars s p
    unfolding whole_at
    whole_same vars s p = rw (expr-same (e - p))
