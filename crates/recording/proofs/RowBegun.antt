-- A row of numbers that is written part by part, each behind the one before.
use mathlib.Core.List.{List, [], ◌∷◌, ◌++◌, append_assoc, append-nil}
use mathlib.Core.Path.{◌≡◌, refl, sym, ap, ◌∙◌}
use Prim.Native.Nat.{ℕ, ◌+◌, ◌*◌, ◌/◌, ◌%◌, ◌≤◌}
use native.Mathlib.Numerals.{add-one}
use native.Mathlib.Omega.{arith}
use lib.ListN.{length, set, length-append}
use lib.Seq.{sets-eq}
use Rattle.reading.specs.Bytes.{two_bytes}
use Rattle.standing.specs.Held.{written_at}
use Rattle.standing.proofs.Behind.{Numbers, numbers-none, numbers-one, numbers-length, numbers-behind}

-- the two stores of a number
pub number_stored : (m : List ℕ) (p n : ℕ) → p + 2 ≤ length m → set (set m p (n / 256)) (p + 1) (n % 256) ≡ written_at m p (two_bytes n)
unfolding two_bytes
number_stored m p n fits = rw add-one (sets-eq (n / 256 ∷ n % 256 ∷ []) m p fits)

-- from `from` on there is room for `all`; its numbers but for those that are left stand there over what m has, and p is the place behind them
pub record Begun (m : List ℕ) (from : ℕ) (all is : List ℕ) (p : ℕ) (left : List ℕ) : Type 0 where
  pub done : List ℕ
  pub parts : all ≡ done ++ left
  pub fits : from + 2 * length all ≤ length m
  pub there : Numbers m from done is p

-- before the first
pub begun-none : (m : List ℕ) (from : ℕ) (all : List ℕ) → from + 2 * length all ≤ length m → Begun m from all m from all
begun-none m from all fits = record { done = []; parts = refl; fits = fits; there = numbers-none m from }

module _ {m : List ℕ} {from : ℕ} {all is : List ℕ} {p : ℕ} {left : List ℕ} (begun : Begun m from all is p left) where
  -- those that are left have room
  left-inside : p + 2 * length left ≤ length m
  left-inside = omega (arith, begun.there.0, begun.fits, simp length-append at (ap length begun.parts))

  pub begun-length : length is ≡ length m
  begun-length = numbers-length m from begun.done is p begun.there (omega (arith, left-inside))

  pub begun-room : p + 2 * length left ≤ length is
  begun-room = omega (arith, left-inside, begun-length)

  -- the next of them, written where they have room
  pub begun_more : (new rest js : List ℕ) (q : ℕ) → left ≡ new ++ rest → (p + 2 * length new ≤ length is → Numbers is p new js q) → Begun m from all js q rest
  begun_more new rest js q e told =
      let many = simp length-append at (ap length e) in
      let next = told (omega (arith, begun-room, many)) in
      record {
        done = begun.done ++ new;
        parts = begun.parts ∙ ap (λ (l : List ℕ). begun.done ++ l) e ∙ sym (append_assoc begun.done new rest);
        fits = begun.fits;
        there = numbers-behind m from begun.done is p new js q begun.there next (omega (arith, left-inside, next.0, many));
      }

  -- none, where there are none
  pub begun-same : (rest : List ℕ) → left ≡ rest → Begun m from all is p rest
  begun-same rest e =
      record { done = begun.done; parts = begun.parts ∙ ap (λ (l : List ℕ). begun.done ++ l) e; fits = begun.fits; there = begun.there }

  -- one number
  pub begun-one : (n : ℕ) (rest js : List ℕ) (q : ℕ) → left ≡ n ∷ rest → (p + 2 ≤ length is → (q ≡ p + 2) × (js ≡ written_at is p (two_bytes n)))
      → Begun m from all js q rest
  begun-one n rest js q e told =
      begun_more (n ∷ []) rest js q e (λ fits. let next = told (omega arith) in (next.0, (numbers-one is p n js next.1).1))

  -- after the last
  pub begun_all : left ≡ [] → Numbers m from all is p
  begun_all e =
      let same : all ≡ begun.done = begun.parts ∙ ap (λ (l : List ℕ). begun.done ++ l) e ∙ append-nil begun.done in
      rw same begun.there

-- all that are left at once
pub begun-last : {m : List ℕ} {from : ℕ} {all is : List ℕ} {p : ℕ} {left : List ℕ} → Begun m from all is p left → (js : List ℕ) (q : ℕ)
    → (p + 2 * length left ≤ length is → Numbers is p left js q) → Numbers m from all js q
begun-last {left = left} begun js q told = begun_all (begun_more begun left [] js q (sym (append-nil left)) told) refl
