-- The first number for which a test holds, as a loop finds it, and as the definition refuses.
use mathlib.Core.Bool.{Bool, true, false}
use mathlib.Core.Path.{◌≡◌, refl, sym, ap, ◌∙◌}
use Prim.Native.Nat.{ℕ, zero, suc, ◌+◌, ◌-◌, ◌<◌, ◌≤◌}
use native.Mathlib.Omega.{arith}
use Rattle.reading.specs.Reading.{Reading, refusal, refuse◌at◌if◌else◌}
use Rattle.accepted.specs.GoOn.{refuse_first}
use Rattle.judging.specs.First.{first_of}

-- ---- one number

first-yes : (bad : ℕ → Bool) (i left : ℕ) → bad i ≡ true → first_of bad i (suc left) ≡ i
unfolding first_of
first-yes bad i left e = ap (λ (b : Bool). elim b [ true ↦ i | false ↦ first_of bad (suc i) left ]) e

first_no : (bad : ℕ → Bool) (i left : ℕ) → bad i ≡ false → first_of bad i (suc left) ≡ first_of bad (suc i) left
unfolding first_of
first_no bad i left e = ap (λ (b : Bool). elim b [ true ↦ i | false ↦ first_of bad (suc i) left ]) e

-- ---- a loop that has come to number n of `used`

pub first-all : (bad : ℕ → Bool) (used : ℕ) → first_of bad 0 used ≡ first_of bad 0 (used - 0)
first-all bad used = ap (first_of bad 0) (let z : used ≡ used - 0 = omega arith in z)

module _ (bad : ℕ → Bool) (used n : ℕ) where
  one_less : n < used → used - n ≡ suc (used - (n + 1))
  one_less lt = omega arith

  pub first-here : n < used → bad n ≡ true → first_of bad n (used - n) ≡ n
  first-here lt e = ap (first_of bad n) (one_less lt) ∙ first-yes bad n (used - (n + 1)) e

  pub first_on : n < used → bad n ≡ false → first_of bad n (used - n) ≡ first_of bad (n + 1) (used - (n + 1))
  first_on lt e =
      let next : suc n ≡ n + 1 = omega arith in
      ap (first_of bad n) (one_less lt) ∙ first_no bad n (used - (n + 1)) e ∙ ap (λ (i : ℕ). first_of bad i (used - (n + 1))) next

  pub first-none : used ≤ n → first_of bad n (used - n) ≡ n
  unfolding first_of
  first-none le = let none : used - n ≡ 0 = omega arith in ap (first_of bad n) none

-- ---- what is refused: the first that is bad, if it is one of them

pub first-low : (bad : ℕ → Bool) (i left : ℕ) → i ≤ first_of bad i left
unfolding first_of
first-low bad i zero = omega arith
first-low bad i (suc left) = by (bad i) (first-low bad (suc i) left)
  where
    by : (b : Bool) → suc i ≤ first_of bad (suc i) left → i ≤ elim b [ true ↦ i | false ↦ first_of bad (suc i) left ]
    by true le = omega arith
    by false le = omega arith

module _ {A : Type 0} (place : ℕ) (bad : ℕ → Bool) (more : Unit {0} → Reading A) where
  refused-yes : (i left : ℕ) → bad i ≡ true → refuse_first place bad i (suc left) more ≡ refusal 30 (place + i)
  unfolding refuse_first refuse◌at◌if◌else◌
  refused-yes i left e = rw e refl

  refused_no : (i left : ℕ) → bad i ≡ false → refuse_first place bad i (suc left) more ≡ refuse_first place bad (suc i) left more
  unfolding refuse_first refuse◌at◌if◌else◌
  refused_no i left e = rw e refl

  refused_none : (i : ℕ) → refuse_first place bad i zero more ≡ more tt
  unfolding refuse_first refuse◌at◌if◌else◌
  refused_none i = refl

  -- one is bad
  pub first-refused : (i left : ℕ) → first_of bad i left < i + left → refuse_first place bad i left more ≡ refusal 30 (place + first_of bad i left)
  unfolding first_of
  first-refused i zero lt = absurd (omega arith)
  first-refused i (suc left) lt = by (bad i) refl (λ e. first-refused (suc i) left (omega (arith, first_no bad i left e, lt)))
    where
      by : (b : Bool) → bad i ≡ b → (bad i ≡ false → refuse_first place bad (suc i) left more ≡ refusal 30 (place + first_of bad (suc i) left))
          → refuse_first place bad i (suc left) more ≡ refusal 30 (place + first_of bad i (suc left))
      by true e ih = refused-yes i left e ∙ ap (λ (x : ℕ). refusal 30 (place + x)) (sym (first-yes bad i left e))
      by false e ih = refused_no i left e ∙ ih e ∙ ap (λ (x : ℕ). refusal 30 (place + x)) (sym (first_no bad i left e))

  -- none is
  pub none-refused : (i left : ℕ) → i + left ≤ first_of bad i left → refuse_first place bad i left more ≡ more tt
  none-refused i zero le = refused_none i
  none-refused i (suc left) le = by (bad i) refl (λ e. none-refused (suc i) left (omega (arith, first_no bad i left e, le)))
    where
      by : (b : Bool) → bad i ≡ b → (bad i ≡ false → refuse_first place bad (suc i) left more ≡ more tt) → refuse_first place bad i (suc left) more ≡ more tt
      by true e ih = absurd (omega (arith, first-yes bad i left e, le))
      by false e ih = refused_no i left e ∙ ih e
