-- Some element of a list, and every two elements of a list.
use mathlib.Core.Logic.{◌⊎◌, inl, inr}
use mathlib.Core.List.{List, [], ◌∷◌, ◌++◌}
use Prim.Native.Nat.{ℕ, zero, suc, ◌<◌}
use native.Mathlib.Nat.{not-suc-le-zero, le_of_suc-le-suc}
use native.Mathlib.Omega.{arith}
use lib.ListN.{length, get_or}
use Rattle.rewriting.specs.Lists.{All}
use Rattle.rewriting.proofs.Lists.{all-at, all_append}

-- P holds of some element
pub data Any {A : Type 0} (P : A → Type 0) : List A → Type 0 where
  first : {a : A} {l : List A} → P a → Any P (a ∷ l)
  later : {a : A} {l : List A} → Any P l → Any P (a ∷ l)

module _ {A : Type 0} {P : A → Type 0} where
  -- it stands at some place
  pub any_at : {l : List A} (d : A) → Any P l → (i : ℕ) × (i < length l) × P (get_or l i d)
  any_at d (first p) = (zero, omega arith, p)
  any_at d (later p) = let (i, lt, q) = any_at d p in (suc i, omega arith, q)

  -- it holds of some element of a longer list
  pub any_left : {l : List A} (m : List A) → Any P l → Any P (l ++ m)
  any_left m (first p) = first p
  any_left m (later p) = later (any_left m p)

  -- on either end
  pub any-right : (l : List A) {m : List A} → Any P m → Any P (l ++ m)
  any-right [] p = p
  any-right (a ∷ l) p = later (any-right l p)

  -- it is in one part or in the other
  pub any-split : (l : List A) {m : List A} → Any P (l ++ m) → Any P l ⊎ Any P m
  any-split [] p = inr p
  any-split (a ∷ l) (first p) = inl (first p)
  any-split (a ∷ l) (later p) = go (any-split l p)
    where
      go : {m : List A} → Any P l ⊎ Any P m → Any P (a ∷ l) ⊎ Any P m
      go (inl q) = inl (later q)
      go (inr q) = inr q

  -- what holds of each may help
  pub any-map : {Q R : A → Type 0} {l : List A} → All Q l → ((a : A) → Q a → P a → R a) → Any P l → Any R l
  any-map (All.more q qs) f (first p) = first (f _ q p)
  any-map (All.more q qs) f (later p) = later (any-map qs f p)
  any-map {Q = Q} {R = R} Rattle.rewriting.specs.Lists.none f x5 = elim x5 [ ]

  -- what holds of each holds of each in both parts
  pub all_split : (l : List A) {m : List A} → All P (l ++ m) → All P l × All P m
  all_split [] p = (All.none, p)
  all_split (a ∷ l) (All.more p ps) = let (x, y) = all_split l ps in (All.more p x, y)

-- R holds of every two
pub data Pairwise {A : Type 0} (R : A → A → Type 0) : List A → Type 0 where
  none : Pairwise R []
  more : {a : A} {l : List A} → All (R a) l → Pairwise R l → Pairwise R (a ∷ l)

module _ {A : Type 0} {R : A → A → Type 0} where
  -- so it holds of those at two places
  pub pairwise_at : {l : List A} (d : A) (i j : ℕ) → Pairwise R l → i < j → j < length l → R (get_or l i d) (get_or l j d)
  pairwise_at d i j Pairwise.none lt le = absurd (not-suc-le-zero le)
  pairwise_at d i zero (Pairwise.more r rs) lt le = absurd (not-suc-le-zero lt)
  pairwise_at d zero (suc j) (Pairwise.more r rs) lt le = all-at d j r (le_of_suc-le-suc le)
  pairwise_at d (suc i) (suc j) (Pairwise.more r rs) lt le = pairwise_at d i j rs (le_of_suc-le-suc lt) (le_of_suc-le-suc le)

  -- and of every two of the rear part
  pub pairwise_right : (l : List A) {m : List A} → Pairwise R (l ++ m) → Pairwise R m
  pairwise_right [] p = p
  pairwise_right (a ∷ l) (Pairwise.more r rs) = pairwise_right l rs

  module _ (symmetric : (a b : A) → R a b → R b a) where
    -- one more in between
    insert : (l m : List A) {a : A} → Pairwise R (l ++ m) → All (R a) (l ++ m) → Pairwise R (l ++ (a ∷ m))
    insert [] m p r = Pairwise.more r p
    insert (b ∷ l) m {a} (Pairwise.more q p) (All.more s r) =
        let (x, y) = all_split l q in
        Pairwise.more (all_append x (All.more (symmetric a b s) y)) (insert l m p r)

    -- several more in between
    pub inserts : (l m : List A) {es : List A} → Pairwise R (l ++ m) → Pairwise R es → All (λ e. All (R e) (l ++ m)) es
        → Pairwise R (l ++ (es ++ m))
    inserts l m p Pairwise.none All.none = p
    inserts l m p (Pairwise.more {l = es} r rs) (All.more q qs) =
        let (x, y) = all_split l q in
        insert l (es ++ m) (inserts l m p rs qs) (all_append x (all_append r y))

    -- one more at the end
    pub at-end : (l : List A) {a : A} → Pairwise R l → All (R a) l → Pairwise R (l ++ (a ∷ []))
    at-end [] p r = Pairwise.more All.none Pairwise.none
    at-end (b ∷ l) {a} (Pairwise.more q p) (All.more s r) = Pairwise.more (all_append q (All.more (symmetric a b s) All.none)) (at-end l p r)
