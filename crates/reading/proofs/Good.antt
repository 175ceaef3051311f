-- What holds of whatever is read: laws of readings, shown along the way that reading takes.
use mathlib.Core.Bool.{Bool, true, false}
use mathlib.Core.List.{List}
use mathlib.Core.Path.{◌≡◌, refl}
use Prim.Native.Nat.{ℕ, ◌+◌, ◌≤◌}
use native.Mathlib.Omega.{arith}
use borrow.Author.Tests.{leb-false, ltb-false}
use lib.Dec.{leb, ltb}
use lib.ListN.{get_or}
use Rattle.reading.specs.Reading.{Reading, got, refusal, ◌then◌, refuse◌at◌if◌else◌}
use Rattle.reading.specs.Bytes.{big_endian, byte_at, number_at, length_at}

-- whatever is read, and the place behind it, are as P says
pub data Good {A : Type 0} (P : A → ℕ → Type 0) : Reading A → Type 0 where
  good : {a : A} {p : ℕ} → P a p → Good P (got a p)
  refused : {c p : ℕ} → Good P (refusal c p)

-- what was read is as P says
pub good-got : {A : Type 0} {P : A → ℕ → Type 0} {r : Reading A} {a : A} {p : ℕ} → Good P r → r ≡ got a p → P a p
good-got {P} {a} {p} (good {a = b} {p = q} is) e =
    let f : b ≡ a = cc in
    let g : q ≡ p = cc in
    rw (f, g) at is
good-got refused e = absurd (let z : ◌≡◌ {A = ℕ} 0 1 = cc in omega arith)

-- what holds of whatever may have been read
pub whenever : {A : Type 0} {P : A → ℕ → Type 0} (r : Reading A) → ((a : A) (q : ℕ) → r ≡ got a q → P a q) → Good P r
whenever (got a q) f = good (f a q refl)
whenever (refusal c q) f = refused

-- what follows from what holds of it
pub each : {A : Type 0} {P Q : A → ℕ → Type 0} {r : Reading A} → ((a : A) (q : ℕ) → P a q → Q a q) → Good P r → Good Q r
each f (good {a} {p} is) = good (f a p is)
each f refused = refused

-- two things that hold of it
pub both : {A : Type 0} {P Q : A → ℕ → Type 0} {r : Reading A} → Good P r → Good Q r → Good (λ a q. P a q × Q a q) r
both (good is) other = good (is, good-got other refl)
both refused other = refused

-- reading goes on with what was found
pub then-good : {A B : Type 0} {P : A → ℕ → Type 0} {Q : B → ℕ → Type 0} {r : Reading A} {more : A → ℕ → Reading B}
    → Good P r → ((a : A) (q : ℕ) → P a q → Good Q (more a q)) → Good Q (◌then◌ r more)
unfolding ◌then◌
then-good (good {a} {p} is) f = f a p is
then-good refused f = refused

-- a test was passed
pub unless : {A : Type 0} {Q : A → ℕ → Type 0} (c p : ℕ) (t : Bool) {more : Unit {0} → Reading A}
    → ((u : Unit {0}) → t ≡ false → Good Q (more u)) → Good Q (refuse◌at◌if◌else◌ c p t more)
unfolding refuse◌at◌if◌else◌
unless c p true f = refused
unless c p false f = f tt refl

module _ (bs : List ℕ) (base e p : ℕ) where
  -- a byte that is there is one place long
  pub byte_good : Good (λ x q. (x ≡ get_or bs p 0) × (q ≡ p + 1) × (q ≤ e)) (byte_at bs base e p)
  unfolding byte_at
  byte_good = unless _ _ (leb e p) λ _ t. good (refl, refl, omega (arith, leb-false e p t))

  pub number-good : Good (λ x q. (x ≡ big_endian bs p) × (q ≡ p + 2) × (q ≤ e)) (number_at bs base e p)
  unfolding number_at
  number-good = unless _ _ (ltb e (p + 2)) λ _ t. good (refl, refl, ltb-false e (p + 2) t)

  -- a length opens what lies inside
  pub length-good : Good (λ end q. (q ≡ p + 2) × (q ≤ end) × (end ≤ e)) (length_at bs base e p)
  unfolding length_at
  length-good = then-good number-good λ n q at-q. unless _ _ (ltb e (q + n)) λ _ t. good (at-q.1, omega arith, ltb-false e (q + n) t)
