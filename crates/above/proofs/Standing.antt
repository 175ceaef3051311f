-- Bytes, numbers and lengths that stand at a place are read there.
use mathlib.Core.Bool.{Bool, false}
use mathlib.Core.Path.{◌≡◌, refl, sym, ap, ◌∙◌}
use mathlib.Core.List.{List, ◌∷◌, ◌++◌}
use Prim.Native.Nat.{ℕ, ◌+◌, ◌/◌, ◌%◌, ◌≤◌, ◌<◌}
use native.Mathlib.Omega.{arith}
use borrow.Author.Tests.{lt-leb, le-ltb}
use lib.ListN.{length, get_or, drop}
use lib.Seq.{get_or-drop, drop-drop, drop-append_seam}
use Rattle.reading.specs.Reading.{Reading, got, ◌then◌, refuse◌at◌if◌else◌}
use Rattle.reading.specs.Bytes.{big_endian, two_bytes, byte_at, number_at, length_at}

-- reading goes on behind what was got, and past a test that does not hold
pub goes_on : {A B : Type 0} {r : Reading A} {a : A} {p : ℕ} (more : A → ℕ → Reading B) → r ≡ got a p → ◌then◌ r more ≡ more a p
unfolding ◌then◌
goes_on more is = rw is refl

pub passes-test : {A : Type 0} (c p : ℕ) {t : Bool} (more : Unit {0} → Reading A) → t ≡ false → refuse◌at◌if◌else◌ c p t more ≡ more tt
unfolding refuse◌at◌if◌else◌
passes-test c p more is = rw is refl

-- ---- what stands at a place

module _ (bs : List ℕ) (p : ℕ) where
  -- the first byte, and those behind it
  pub one_at : (b : ℕ) (xs : List ℕ) → drop p bs ≡ b ∷ xs → (get_or bs p 0 ≡ b) × (drop (p + 1) bs ≡ xs)
  one_at b xs stands =
      let here : p + 0 ≡ p = omega arith in
      (ap (λ m. get_or bs m 0) (sym here) ∙ sym (get_or-drop p bs 0 0) ∙ ap (λ l. get_or l 0 0) stands, sym (drop-drop 1 p bs) ∙ ap (drop 1) stands)

  -- what stands behind others
  pub behind : (xs ys : List ℕ) → drop p bs ≡ xs ++ ys → drop (p + length xs) bs ≡ ys
  behind xs ys stands = sym (drop-drop (length xs) p bs) ∙ ap (drop (length xs)) stands ∙ drop-append_seam xs ys

-- two bytes make their number
pub two_at : (bs : List ℕ) (p n : ℕ) (xs : List ℕ) → drop p bs ≡ two_bytes n ++ xs → (big_endian bs p ≡ n) × (drop (p + 2) bs ≡ xs)
unfolding two_bytes
two_at bs p n xs stands =
    let high = one_at bs p (n / 256) (n % 256 ∷ xs) stands in
    let low = one_at bs (p + 1) (n % 256) xs high.1 in
    let next : p + 2 ≡ p + 1 + 1 = omega arith in
    (rw (high.0, low.0) (omega arith), rw next low.1)

-- ---- reading it, in a part that ends at e

module _ (bs : List ℕ) (base e p : ℕ) where
  pub byte_reads : (b : ℕ) (xs : List ℕ) → p < e → drop p bs ≡ b ∷ xs → byte_at bs base e p ≡ got b (p + 1)
  unfolding byte_at
  byte_reads b xs inside stands = passes-test _ _ _ (lt-leb e p inside) ∙ ap (λ x. got x (p + 1)) (one_at bs p b xs stands).0

  pub number_reads : (n : ℕ) (xs : List ℕ) → p + 2 ≤ e → drop p bs ≡ two_bytes n ++ xs → number_at bs base e p ≡ got n (p + 2)
  unfolding number_at
  number_reads n xs inside stands = passes-test _ _ _ (le-ltb e (p + 2) inside) ∙ ap (λ x. got x (p + 2)) (two_at bs p n xs stands).0

  pub length_reads : (n : ℕ) (xs : List ℕ) → p + 2 + n ≤ e → drop p bs ≡ two_bytes n ++ xs → length_at bs base e p ≡ got (p + 2 + n) (p + 2)
  unfolding length_at
  length_reads n xs inside stands = goes_on _ (number_reads n xs (omega arith) stands) ∙ passes-test _ _ _ (le-ltb e (p + 2 + n) inside)
