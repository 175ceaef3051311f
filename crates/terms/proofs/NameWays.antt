-- Names by places: what stands between two places, byte by byte.
use mathlib.Core.Bool.{Bool, true, false, ◌&&◌}
use mathlib.Core.Path.{◌≡◌, refl, sym, ap}
use mathlib.Core.List.{List, [], ◌∷◌}
use Prim.Native.Nat.{ℕ, zero, suc, ◌+◌, ◌-◌, ◌≤◌, ◌<◌}
use native.Mathlib.Omega.{arith}
use native.Mathlib.Numerals.{add-one}
use borrow.Author.Tests.{le-leb, lt-leb, eq-eqb, ne_eqb}
use lib.Dec.{eqb, leb}
use lib.ListN.{length, get_or}
use lib.Pointwise.{pointwise}
use lib.Seq.{drop-cons}
use Rattle.std.specs.Prelude.{◌↔◌, IsTrue}
use Rattle.std.specs.List.{All}
use Rattle.std.proofs.lemmas.Bool.{false≢true, and_parts, leb-true, false_from_ne_true}
use Rattle.tagged.specs.Lines.{space, printed, is_name, same}
use Rattle.terms.specs.Places.{bytes_of}

-- the first byte between two places, and the others
pub bytes-more : (s : List ℕ) (i to : ℕ) → i < to → i < length s → bytes_of s i to ≡ get_or s i 0 ∷ bytes_of s (i + 1) to
bytes-more s i to less there =
    let wide : to - i ≡ suc (to - (i + 1)) = omega arith in
    rw (drop-cons s i 0 there, wide, add-one i) refl

-- none
pub bytes-none : (s : List ℕ) (i to : ℕ) → to ≤ i → bytes_of s i to ≡ []
bytes-none s i to over =
    let none : to - i ≡ 0 = omega arith in
    rw none refl

module _ (s : List ℕ) (i to : ℕ) (less : i < to) (there : i < length s) where
  pub printed-low : get_or s i 0 < 32 → printed (bytes_of s i to) ≡ false
  unfolding printed
  printed-low low = rw (bytes-more s i to less there, lt-leb 32 (get_or s i 0) low) refl

  pub printed-high : 32 ≤ get_or s i 0 → 126 < get_or s i 0 → printed (bytes_of s i to) ≡ false
  unfolding printed
  printed-high low high = rw (bytes-more s i to less there, le-leb 32 (get_or s i 0) low, lt-leb (get_or s i 0) 126 high) refl

  pub printed-more : 32 ≤ get_or s i 0 → get_or s i 0 ≤ 126 → printed (bytes_of s i to) ≡ printed (bytes_of s (i + 1) to)
  unfolding printed
  printed-more low high = rw (bytes-more s i to less there, le-leb 32 (get_or s i 0) low, le-leb (get_or s i 0) 126 high) refl

pub printed-none : (s : List ℕ) (i to : ℕ) → to ≤ i → printed (bytes_of s i to) ≡ true
unfolding printed
printed-none s i to over = ap printed (bytes-none s i to over)

-- each byte is one of those
abbrev pub Printed : ℕ → Type 0
Printed b = (32 ≤ b) × (b ≤ 126)

printed-all : (bs : List ℕ) → All Printed bs → printed bs ≡ true
unfolding printed
printed-all [] each = refl
printed-all (b ∷ bs) each =
    let first = each 0 0 (omega arith) in
    rw (le-leb 32 b first.0, le-leb b 126 first.1) (printed-all bs (λ k d low. each (suc k) d (omega arith)))

all-printed : (bs : List ℕ) → printed bs ≡ true → All Printed bs
unfolding printed
all-printed [] is k d low = absurd (omega arith)
all-printed (b ∷ bs) is zero d low =
    let both = (and_parts (leb 32 b && leb b 126) (printed bs) is).0 in
    let parts = and_parts (leb 32 b) (leb b 126) both in
    (leb-true 32 b parts.0, leb-true b 126 parts.1)
all-printed (b ∷ bs) is (suc k) d low = all-printed bs (and_parts (leb 32 b && leb b 126) (printed bs) is).1 k d (omega arith)

-- a test of all of them is the definition's
pub printed-told : (t : Bool) (bs : List ℕ) → (IsTrue t ↔ All Printed bs) → t ≡ printed bs
printed-told true bs tells = sym (printed-all bs (tells.0 refl))
printed-told false bs tells = sym (false_from_ne_true (printed bs) (λ is. false≢true (tells.1 (all-printed bs is))))

-- ---- names

pub name-none : (s : List ℕ) (i to : ℕ) → to ≤ i → is_name (bytes_of s i to) ≡ false
unfolding is_name
name-none s i to over = ap is_name (bytes-none s i to over)

module _ (s : List ℕ) (i to : ℕ) (less : i < to) (there : i < length s) where
  pub name-space : get_or s i 0 ≡ space → is_name (bytes_of s i to) ≡ false
  unfolding is_name
  name-space is = rw (bytes-more s i to less there, eq-eqb (get_or s i 0) space is) refl

  pub name-printed : (get_or s i 0 ≡ space → ⊥) → is_name (bytes_of s i to) ≡ printed (bytes_of s i to)
  unfolding is_name
  name-printed differs = rw (bytes-more s i to less there, ne_eqb (get_or s i 0) space differs) refl

-- ---- the same bytes

-- as `==` compares them
pub same-pointwise : (bs cs : List ℕ) → pointwise eqb bs cs ≡ same bs cs
unfolding same
same-pointwise [] [] = refl
same-pointwise [] (c ∷ cs) = refl
same-pointwise (b ∷ bs) [] = refl
same-pointwise (b ∷ bs) (c ∷ cs) = ap (λ t. eqb b c && t) (same-pointwise bs cs)

module _ (s : List ℕ) (i to : ℕ) (less : i < to) (there : i < length s) where
  pub same_longer : (j end : ℕ) → end ≤ j → same (bytes_of s i to) (bytes_of s j end) ≡ false
  unfolding same
  same_longer j end over = rw (bytes-more s i to less there, bytes-none s j end over) refl

  pub same_shorter : (j end : ℕ) → end ≤ j → same (bytes_of s j end) (bytes_of s i to) ≡ false
  unfolding same
  same_shorter j end over = rw (bytes-more s i to less there, bytes-none s j end over) refl

  module _ (j end : ℕ) (less' : j < end) (there' : j < length s) where
    pub same_differs : (get_or s i 0 ≡ get_or s j 0 → ⊥) → same (bytes_of s i to) (bytes_of s j end) ≡ false
    unfolding same
    same_differs differs = rw (bytes-more s i to less there, bytes-more s j end less' there', ne_eqb (get_or s i 0) (get_or s j 0) differs) refl

    pub same_more : get_or s i 0 ≡ get_or s j 0 → same (bytes_of s i to) (bytes_of s j end) ≡ same (bytes_of s (i + 1) to) (bytes_of s (j + 1) end)
    unfolding same
    same_more is = rw (bytes-more s i to less there, bytes-more s j end less' there', eq-eqb (get_or s i 0) (get_or s j 0) is) refl

pub same_none : (s : List ℕ) (i to j end : ℕ) → to ≤ i → end ≤ j → same (bytes_of s i to) (bytes_of s j end) ≡ true
unfolding same
same_none s i to j end over over' = rw (bytes-none s i to over, bytes-none s j end over') refl
