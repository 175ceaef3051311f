-- When something is read, and what holds of it then: laws of readings, shown along the way that reading takes.
use mathlib.Core.Bool.{Bool, true, false, true≢false}
use mathlib.Core.Path.{◌≡◌, refl}
use Prim.Native.Nat.{ℕ, ◌<◌}
use Rattle.reading.specs.Reading.{Reading, got, refusal, ◌then◌, refuse◌at◌if◌else◌}
use Rattle.reading.proofs.Good.{Good, good}
use Rattle.reading.proofs.Good as G

-- something is read exactly if C holds, and with the place behind it is as P says; a refusal has a number above 0
pub data Exactly {A : Type 0} (C : Type 0) (P : A → ℕ → Type 0) : Reading A → Type 0 where
  read : {a : A} {p : ℕ} → C → P a p → Exactly C P (got a p)
  refused : {c p : ℕ} → 0 < c → (C → ⊥) → Exactly C P (refusal c p)

-- reading goes on with what was found
pub next : {A B : Type 0} {C D : Type 0} {P : A → ℕ → Type 0} {Q : B → ℕ → Type 0} {r : Reading A} {more : A → ℕ → Reading B}
    → Exactly C P r → (D → C) → ((a : A) (q : ℕ) → C → P a q → Exactly D Q (more a q)) → Exactly D Q (◌then◌ r more)
unfolding ◌then◌
next (read {a} {p} c is) needs f = f a p c is
next (refused lt not) needs f = refused lt (λ d. not (needs d))

-- a test has to be passed
pub unless : {A : Type 0} {D : Type 0} {Q : A → ℕ → Type 0} (c p : ℕ) (t : Bool) {more : Unit {0} → Reading A} → 0 < c → (D → t ≡ false)
    → ((u : Unit {0}) → t ≡ false → Exactly D Q (more u)) → Exactly D Q (refuse◌at◌if◌else◌ c p t more)
unfolding refuse◌at◌if◌else◌
unless c p true lt needs f = refused lt (λ d. true≢false (needs d))
unless c p false lt needs f = f tt refl

-- one of two ways is gone
pub either : {A : Type 0} {D : Type 0} {P : A → ℕ → Type 0} (t : Bool) {no yes : Reading A} → (t ≡ false → Exactly D P no) → (t ≡ true → Exactly D P yes)
    → Exactly D P (elim t [ false ↦ no | true ↦ yes ])
either false f g = f refl
either true f g = g refl

-- in other words: D for C, and what follows of what was read
pub so : {A : Type 0} {C D : Type 0} {P Q : A → ℕ → Type 0} {r : Reading A} → (C → D) → (D → C) → ((a : A) (q : ℕ) → C → P a q → Q a q)
    → Exactly C P r → Exactly D Q r
so to from f (read {a} {p} c is) = read (to c) (f a p c is)
so to from f (refused lt not) = refused lt (λ d. not (from d))

-- whatever was read is so
pub whatever : {A : Type 0} {C : Type 0} {P : A → ℕ → Type 0} {r : Reading A} → Exactly C P r → Good P r
whatever (read c is) = good is
whatever (refused lt not) = G.refused
