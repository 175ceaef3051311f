-- BT hops: which headings stand above which, and by how many.
use Rattle.std.specs.Prelude.{List, [], ◌∷◌, ℕ, suc, ◌<◌, length, get_or}
use Rattle.tagged.specs.Listing.{Broader}

-- b is one of these
pub data In {A : Type 0} (b : A) : List A → Type 0 where
  first : {bs : List A} → In b (b ∷ bs)
  later : {c : A} {bs : List A} → In b bs → In b (c ∷ bs)

-- the broader terms of heading x
abbrev pub broader_of : Broader → ℕ → List ℕ
broader_of broader x = get_or broader x []

-- y is a BT heading of x
abbrev pub IsBroader : Broader → ℕ → ℕ → Type 0
IsBroader broader x y = In y (broader_of broader x)

-- every broader term is a heading; the listing says no other
abbrev pub Inside : Broader → Type 0
Inside broader = (x y : ℕ) → IsBroader broader x y → y < length broader

-- y stands so many BT hops above x
pub data Hops (broader : Broader) : ℕ → ℕ → ℕ → Type 0 where
  here : {x : ℕ} → Hops broader 0 x x
  hop : {k x y z : ℕ} → IsBroader broader x y → Hops broader k y z → Hops broader (suc k) x z

-- "one or more BT hops up"
abbrev pub Above : Broader → ℕ → ℕ → Type 0
Above broader x y = (k : ℕ) × Hops broader (suc k) x y

-- "some heading stands above itself by any number of BT hops"
abbrev pub HasCircle : Broader → Type 0
HasCircle broader = (x : ℕ) × Above broader x x
