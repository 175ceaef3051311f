-- What is kept of a reading tells what was read: a number and the place behind it, or the refusal.
use mathlib.Core.Bool.{Bool, true, false}
use mathlib.Core.Path.{◌≡◌}
use Prim.Native.Nat.{ℕ}
use native.Mathlib.Omega.{arith}
use Rattle.reading.specs.Reading.{Reading, got, refusal, ◌then◌, refuse◌at◌if◌else◌}
use Rattle.reading.specs.Answer.{keeping}

module _ {A : Type 0} (f : A → ℕ) where
  -- something was read, and this is kept of it
  pub kept-got : (r : Reading A) {v n : ℕ} → got v n ≡ keeping f r → (a : A) × (r ≡ got a n) × (v ≡ f a)
  unfolding keeping
  kept-got (got a p) {v} {n} e = (a, cc, cc)
  kept-got (refusal c p) e = absurd (let z : ◌≡◌ {A = ℕ} 0 1 = cc in omega arith)

  pub kept-refusal : (r : Reading A) {c p : ℕ} → refusal c p ≡ keeping f r → r ≡ refusal c p
  unfolding keeping
  kept-refusal (got a q) e = absurd (let z : ◌≡◌ {A = ℕ} 0 1 = cc in omega arith)
  kept-refusal (refusal d q) e = cc

-- a refusal ends what comes then; what was read goes on
module _ {A B : Type 0} (more : A → ℕ → Reading B) where
  pub then-refusal : {r : Reading A} {c p : ℕ} → r ≡ refusal c p → ◌then◌ r more ≡ refusal c p
  unfolding ◌then◌
  then-refusal e = rw (e, ◌then◌)

  pub then-got : {r : Reading A} {a : A} {p : ℕ} → r ≡ got a p → ◌then◌ r more ≡ more a p
  unfolding ◌then◌
  then-got e = rw (e, ◌then◌)

-- a test that is passed goes on; one that is not refuses
module _ {A : Type 0} (c p : ℕ) {t : Bool} where
  pub passed : {r : Reading A} → t ≡ false → refuse◌at◌if◌else◌ c p t (λ _. r) ≡ r
  unfolding refuse◌at◌if◌else◌
  passed e = rw (e, refuse◌at◌if◌else◌)

  pub failed-test : (r : Reading A) → t ≡ true → refuse◌at◌if◌else◌ c p t (λ _. r) ≡ refusal c p
  unfolding refuse◌at◌if◌else◌
  failed-test r e = rw (e, refuse◌at◌if◌else◌)
