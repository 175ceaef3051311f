-- One of a row.
use mathlib.Core.Path.{◌≡◌, refl}
use mathlib.Core.Logic.{◌⊎◌, inl, inr}
use mathlib.Core.List.{List, ◌∷◌}
use Rattle.tagged.specs.Hops.{In, first, later}

-- one of a row is the first or one of the rest
pub in_row : {A : Type 0} {a b : A} {bs : List A} → In a (b ∷ bs) → (a ≡ b) ⊎ In a bs
in_row first = inl refl
in_row (later i) = inr i
