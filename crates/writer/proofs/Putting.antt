-- Bytes put into a book: a byte, two bytes, and bytes behind others or in front of them.
use mathlib.Core.List.{List, [], ◌∷◌, ◌++◌}
use mathlib.Core.Path.{◌≡◌, refl, sym, ap, ◌∙◌}
use Prim.Native.Nat.{ℕ, suc, ◌+◌, ◌/◌, ◌%◌, ◌<◌, ◌≤◌}
use native.Mathlib.Nat.{add-zero}
use native.Mathlib.Numerals.{add-one}
use native.Mathlib.Omega.{arith}
use lib.ListN.{length, set, length-append}
use lib.Seq.{sets, set_comm, set_out}
use Rattle.reading.specs.Bytes.{two_bytes}

-- bytes behind others
pub sets_behind : (l : List ℕ) (p : ℕ) (a b : List ℕ) → sets l p (a ++ b) ≡ sets (sets l p a) (p + length a) b
sets_behind l p [] b = rw add-zero
sets_behind l p (x ∷ a) b =
    let e : suc p + length a ≡ p + suc (length a) = omega arith in
    sets_behind (set l p x) (suc p) a b ∙ rw e

-- a byte in front of others may be put after them
set_after : (l : List ℕ) (p q x : ℕ) (b : List ℕ) → p < q → set (sets l q b) p x ≡ sets (set l p x) q b
set_after l p q x [] h = refl
set_after l p q x (y ∷ b) h =
    set_after (set l q y) p (suc q) x b (omega arith)
    ∙ ap (λ (m : List ℕ). sets m (suc q) b) (set_comm l q p y x (λ e. omega arith))

-- two bytes in front of others, put after them
pub sets_in_front : (l : List ℕ) (p n : ℕ) (b : List ℕ) → sets (sets l (p + 2) b) p (two_bytes n) ≡ sets l p (two_bytes n ++ b)
unfolding two_bytes
sets_in_front l p n b =
    let far : p + 2 ≡ suc (suc p) = omega arith in
    rw (far, set_after l p (suc (suc p)) (n / 256) b (omega arith), set_after (set l p (n / 256)) (suc p) (suc (suc p)) (n % 256) b (omega arith))

-- so a length is put in front of what it counts, after that
pub front-put : (l : List ℕ) (p n : ℕ) (b is js : List ℕ) → is ≡ sets l (p + 2) b → js ≡ sets is p (two_bytes n) → js ≡ sets l p (two_bytes n ++ b)
front-put l p n b is js put then = then ∙ rw put (sets_in_front l p n b)

-- and takes two bytes
pub front_length : (n : ℕ) (b : List ℕ) → length (two_bytes n ++ b) ≡ 2 + length b
unfolding two_bytes
front_length n b = omega arith

-- the two stores of a number that fits in two bytes
pub two-put : (l : List ℕ) (p n : ℕ) → n < 65536 → set (set l p (n / 256 % 256)) (p + 1) (n % 256) ≡ sets l p (two_bytes n)
unfolding two_bytes
two-put l p n small =
    let high : n / 256 % 256 ≡ n / 256 = omega arith in
    rw (add-one, high)

-- the same of any two bytes
pub pair-put : (l : List ℕ) (p a b : ℕ) → set (set l p a) (p + 1) b ≡ sets l p (a ∷ b ∷ [])
pair-put l p a b = rw add-one refl

-- past the end nothing is there to change
pub pair_out : (l : List ℕ) (p a b : ℕ) → length l ≤ p → sets l p (a ∷ b ∷ []) ≡ l
pair_out l p a b out =
    let one = set_out l p a out in
    rw one (set_out l (suc p) b (omega arith))

pub two_out : (l : List ℕ) (p n : ℕ) → length l ≤ p → sets l p (two_bytes n) ≡ l
unfolding two_bytes
two_out l p n out = pair_out l p (n / 256) (n % 256) out

-- bytes that are left to be put, of which some are put now and the others then are left
module _ (left a b : List ℕ) (split : left ≡ a ++ b) where
  pub left-length : length left ≡ length a + length b
  left-length = ap length split ∙ length-append a b

  pub left-put : (l : List ℕ) (p : ℕ) (is : List ℕ) (q : ℕ) → is ≡ sets l p a → q ≡ p + length a → sets is q b ≡ sets l p left
  left-put l p is q put next = rw (put, next, split) (sym (sets_behind l p a b))
