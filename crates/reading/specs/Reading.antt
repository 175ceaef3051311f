-- What reading gives: what was read and the place behind it, or the first fault met, by number and place.
use Rattle.std.specs.Prelude.{Bool, true, false, ℕ}

pub data Reading (A : Type 0) : Type 0 where
  got : A → ℕ → Reading A
  refusal : ℕ → ℕ → Reading A

infixr 4 ◌then◌
infixr 4 refuse◌at◌if◌else◌
-- "Bytes are read front to back and the first fault met is given": what was read, and the place behind it, go on; a fault ends it
unfoldable pub ◌then◌ : {A B : Type 0} → Reading A → (A → ℕ → Reading B) → Reading B
◌then◌ (got a p) more = more a p
◌then◌ (refusal c p) more = refusal c p

-- one clause of the table of refusals: its number, its place, when it is given, and how reading goes on otherwise
unfoldable pub refuse◌at◌if◌else◌ : {A : Type 0} → ℕ → ℕ → Bool → (Unit {0} → Reading A) → Reading A
refuse◌at◌if◌else◌ c p true more = refusal c p
refuse◌at◌if◌else◌ c p false more = more tt
