-- Bytes that stand at a place, before an end, and how they are read there.
use mathlib.Core.Path.{◌≡◌, refl, sym, ap, ◌∙◌}
use mathlib.Core.List.{List, [], ◌∷◌, ◌++◌, append_assoc}
use Prim.Native.Nat.{ℕ, ◌+◌, ◌≤◌}
use native.Mathlib.Omega.{arith}
use lib.ListN.{length, get_or, drop, length-append}
use lib.Seq.{get_or-drop, drop-drop, drop-append_seam}
use Rattle.reading.specs.Reading.{Reading, got}
use Rattle.reading.specs.Bytes.{big_endian, two_bytes, byte_at, number_at, length_at}
use Rattle.reading.proofs.AtPlace.{byte_got, number-got, length_got}

-- the place behind, said otherwise
pub land : {A : Type 0} {r : Reading A} {a : A} {p q : ℕ} → r ≡ got a p → p ≡ q → r ≡ got a q
land {a} e same = e ∙ ap (got a) same

-- xs stand in cs from p on, and end no later than e
pub record Stands (cs : List ℕ) (e p : ℕ) (xs : List ℕ) : Type 0 where
  pub rest : List ℕ
  pub is : drop p cs ≡ xs ++ rest
  pub within : p + length xs ≤ e

module _ {cs : List ℕ} {e p : ℕ} where
  -- the end may be another
  pub stands-to : {xs : List ℕ} (e' : ℕ) → p + length xs ≤ e' → Stands cs e p xs → Stands cs e' p xs
  stands-to e' within s = record { rest = s.rest; is = s.is; within = within }

  -- those in front, and those behind them
  pub stands-front : (xs ys : List ℕ) → Stands cs e p (xs ++ ys) → Stands cs e p xs
  stands-front xs ys s = record { rest = ys ++ s.rest; is = s.is ∙ append_assoc xs ys s.rest; within = omega (arith, length-append xs ys, s.within) }

  pub stands-behind : (xs ys : List ℕ) → Stands cs e p (xs ++ ys) → Stands cs e (p + length xs) ys
  stands-behind xs ys s = record {
    rest = s.rest;
    is = sym (drop-drop (length xs) p cs) ∙ ap (drop (length xs)) (s.is ∙ append_assoc xs ys s.rest) ∙ drop-append_seam xs (ys ++ s.rest);
    within = omega (arith, length-append xs ys, s.within);
  }

  -- the first of them
  pub stands-first : {x : ℕ} {xs : List ℕ} → Stands cs e p (x ∷ xs) → get_or cs p 0 ≡ x
  stands-first {x} {xs} s =
      let here : p + 0 ≡ p = omega arith in
      ap (λ (q : ℕ). get_or cs q 0) (sym here) ∙ sym (get_or-drop p cs 0 0) ∙ ap (λ (l : List ℕ). get_or l 0 0) s.is

  -- those behind the first
  pub stands-next : {x : ℕ} {xs : List ℕ} → Stands cs e p (x ∷ xs) → Stands cs e (p + 1) xs
  stands-next {x} {xs} s = stands-behind (x ∷ []) xs s

  -- a byte
  pub byte_again : {x : ℕ} {xs : List ℕ} → Stands cs e p (x ∷ xs) → byte_at cs 0 e p ≡ got x (p + 1)
  byte_again {x} {xs} s = sym (byte_got cs 0 e p (sym (stands-first s)) (omega (arith, s.within)))

-- it takes two
pub two-long : (n : ℕ) → length (two_bytes n) ≡ 2
unfolding two_bytes
two-long n = refl

-- a number of two bytes
pub two-again : {cs : List ℕ} {e p : ℕ} (n : ℕ) (xs : List ℕ) → Stands cs e p (two_bytes n ++ xs) → n ≡ big_endian cs p
unfolding two_bytes
two-again {cs} {e} {p} n xs s = omega (arith, stands-first s, stands-first (stands-next s))

pub number-again : {cs : List ℕ} {e p : ℕ} (n : ℕ) (xs : List ℕ) → Stands cs e p (two_bytes n ++ xs) → number_at cs 0 e p ≡ got n (p + 2)
unfolding two_bytes
number-again {cs} {e} {p} n xs s = sym (number-got cs 0 e p (two-again n xs s) (omega (arith, s.within)))

-- those behind it
pub stands-two : {cs : List ℕ} {e p : ℕ} (n : ℕ) (xs : List ℕ) → Stands cs e p (two_bytes n ++ xs) → Stands cs e (p + 2) xs
unfolding two_bytes
stands-two n xs s = stands-behind (two_bytes n) xs s

-- a length, of which so many bytes follow before the end
pub length-again : {cs : List ℕ} {e p : ℕ} (n : ℕ) (xs : List ℕ) → Stands cs e p (two_bytes n ++ xs) → n ≤ length xs
    → length_at cs 0 e p ≡ got (p + 2 + n) (p + 2)
unfolding two_bytes
length-again {cs} {e} {p} n xs s le = sym (length_got cs 0 e p (two-again n xs s) (omega (arith, s.within)))
