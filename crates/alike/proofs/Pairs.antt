-- Two lists that are related element by element.
use mathlib.Core.Path.{◌≡◌, refl, ap}
use mathlib.Core.List.{List, [], ◌∷◌, ◌++◌, map}
use Prim.Native.Nat.{ℕ, zero, suc, ◌<◌}
use native.Mathlib.Nat.{not-suc-le-zero, le_of_suc-le-suc}
use lib.ListN.{length, get_or, set}

pub data Both {A B : Type 0} (R : A → B → Type 0) : List A → List B → Type 0 where
  none : Both R [] []
  more : {a : A} {b : B} {us : List A} {vs : List B} → R a b → Both R us vs → Both R (a ∷ us) (b ∷ vs)

module _ {A B : Type 0} {R : A → B → Type 0} where
  -- they are equally long
  pub both-length : {us : List A} {vs : List B} → Both R us vs → length us ≡ length vs
  both-length none = refl
  both-length (more r rs) = ap suc (both-length rs)

  -- those at one place
  pub both_at : {us : List A} {vs : List B} (d : A) (d' : B) (j : ℕ) → Both R us vs → j < length us → R (get_or us j d) (get_or vs j d')
  both_at d d' j none lt = absurd (not-suc-le-zero lt)
  both_at d d' zero (more r rs) lt = r
  both_at d d' (suc j) (more r rs) lt = both_at d d' j rs (le_of_suc-le-suc lt)

  -- joined
  pub both_append : {us : List A} {vs : List B} {cs : List A} {ds : List B} → Both R us vs → Both R cs ds → Both R (us ++ cs) (vs ++ ds)
  both_append none qs = qs
  both_append (more r rs) qs = more r (both_append rs qs)

  -- one on each side replaced
  pub both-set : {us : List A} {vs : List B} (j : ℕ) {a : A} {b : B} → Both R us vs → R a b → Both R (set us j a) (set vs j b)
  both-set j none q = none
  both-set zero (more r rs) q = more q rs
  both-set (suc j) (more r rs) q = more r (both-set j rs q)

  -- what follows from it
  pub both-map : {S : A → B → Type 0} {us : List A} {vs : List B} → ((a : A) (b : B) → R a b → S a b) → Both R us vs → Both S us vs
  both-map f none = none
  both-map f (more r rs) = more (f _ _ r) (both-map f rs)

-- of what each is mapped to
pub both_images : {A B A' B' : Type 0} {R : A → B → Type 0} {S : A' → B' → Type 0} (f : A → A') (g : B → B')
    → ((a : A) (b : B) → R a b → S (f a) (g b)) → {us : List A} {vs : List B} → Both R us vs → Both S (map f us) (map g vs)
both_images f g s none = none
both_images f g s (more r rs) = more (s _ _ r) (both_images f g s rs)
