-- What is promised of the answer when a listing is saved: "A circle is reported exactly if one exists", it is "the shortest circle of headings, the first
-- in number order", and a level is "the longest chain of BT hops above" a heading.
use Rattle.std.specs.Prelude.{◌≡◌, ◌↔◌, List, [], ◌∷◌, ℕ, ◌≤◌, ◌<◌, length, get_or}
use Rattle.std.proofs.Math.Option.{none, some}
use Rattle.tagged.specs.Listing.{Broader}
use Rattle.tagged.specs.Hops.{IsBroader, Hops, HasCircle}
use Rattle.tagged.specs.Levels.{levels}
use Rattle.tagged.specs.Circle.{circle}

-- from x over the headings ys to z, each followed by one of its BT headings
pub data Way (broader : Broader) : ℕ → List ℕ → ℕ → Type 0 where
  last : {x z : ℕ} → IsBroader broader x z → Way broader x [] z
  next : {x y z : ℕ} {ys : List ℕ} → IsBroader broader x y → Way broader y ys z → Way broader x (y ∷ ys) z

-- a row of headings that goes round: behind the last comes the first
abbrev pub IsCircle : Broader → List ℕ → Type 0
IsCircle broader [] = ⊥
IsCircle broader (x ∷ ys) = Way broader x ys x

infix 40 ◌≼◌
-- "in number order": the row that has the lower number where they first differ comes first
pub data ◌≼◌ : List ℕ → List ℕ → Type 0 where
  same : [] ≼ []
  lower : {a b : ℕ} {as' bs : List ℕ} → a < b → (a ∷ as') ≼ (b ∷ bs)
  equal : {a : ℕ} {as' bs : List ℕ} → as' ≼ bs → (a ∷ as') ≼ (a ∷ bs)

-- "the shortest circle of headings, the first in number order"
pub record FirstCircle (broader : Broader) (c : List ℕ) : Type 0 where
  pub is : IsCircle broader c
  pub shortest : (d : List ℕ) → IsCircle broader d → length c ≤ length d
  pub earliest : (d : List ℕ) → IsCircle broader d → length d ≡ length c → c ≼ d

-- k is "the longest chain of BT hops above" x
pub record IsLevel (broader : Broader) (x k : ℕ) : Type 0 where
  pub chain : (y : ℕ) × Hops broader k x y
  pub longest : (j y : ℕ) → Hops broader j x y → j ≤ k

pub record Told (broader : Broader) : Type 0 where
  -- "A circle is reported exactly if one exists."
  pub reported : HasCircle broader ↔ ((c : List ℕ) × (circle broader ≡ some c))
  pub circle_is : (c : List ℕ) → circle broader ≡ some c → FirstCircle broader c
  pub levels_are : circle broader ≡ none → (x : ℕ) → x < length broader → IsLevel broader x (get_or (levels broader) x 0)
