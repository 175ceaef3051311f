-- Rows of bytes written one behind the other, and numbers written in two bytes each.
use mathlib.Core.List.{List, [], ◌∷◌, ◌++◌, append_assoc, append-nil}
use mathlib.Core.Path.{◌≡◌, refl, sym, ap, ◌∙◌}
use Prim.Native.Nat.{ℕ, ◌+◌, ◌*◌, ◌/◌, ◌%◌, ◌<◌, ◌≤◌}
use native.Mathlib.Numerals.{add-one}
use native.Mathlib.Omega.{arith}
use lib.ListN.{length, set, take, drop, length-append}
use lib.Seq.{paste-zero, length-paste, take-paste, drop-paste, take-length, drop-drop, sets-eq}
use Rattle.reading.specs.Bytes.{two_bytes}
use Rattle.machine.specs.Answers.{two_bytes_each}
use Rattle.standing.specs.Held.{written_at}

-- a row written over a list leaves it as long
pub written-length : (m : List ℕ) (p : ℕ) (a : List ℕ) → p + length a ≤ length m → length (written_at m p a) ≡ length m
written-length m p a fits = length-paste m p a (length a) fits (omega arith)

-- a row written behind another is both written
pub written_behind : (m is a b : List ℕ) (p q : ℕ) → is ≡ written_at m p a → q ≡ p + length a → q + length b ≤ length m
    → written_at is q b ≡ written_at m p (a ++ b)
written_behind m is a b p q e f fits =
    let front : take q is ≡ take p m ++ a = rw (e, f) (take-paste m p a (length a) (omega arith) (omega arith) ∙ rw take-length) in
    let rest : drop q is ≡ drop q m = rw (e, f) (drop-paste m p a (length a) (omega arith) (omega arith)) in
    let far : q + length b ≡ p + length (a ++ b) = simp length-append (omega arith) in
    let back : drop (q + length b) is ≡ drop (p + length (a ++ b)) m =
    sym (drop-drop (length b) q is) ∙ ap (drop (length b)) rest ∙ drop-drop (length b) q m ∙ rw far in
    cc (append_assoc (take p m) a b, take-length b, take-length (a ++ b))

-- the two stores of a number that fits in two bytes
pub two_stored : (m : List ℕ) (p n : ℕ) → p + 2 ≤ length m → n < 65536 → set (set m p (n / 256 % 256)) (p + 1) (n % 256) ≡ written_at m p (two_bytes n)
unfolding two_bytes
two_stored m p n fits small =
    let high : n / 256 % 256 ≡ n / 256 = omega arith in
    rw (add-one, high) (sets-eq (n / 256 ∷ n % 256 ∷ []) m p fits)

-- a number in two bytes is a row of one number
two-each : (n : ℕ) → two_bytes n ≡ two_bytes_each (n ∷ [])
unfolding two_bytes_each
two-each n = sym (append-nil (two_bytes n))

-- so many numbers are twice as many bytes
pub each-length : (ns : List ℕ) → length (two_bytes_each ns) ≡ 2 * length ns
unfolding two_bytes_each two_bytes
each-length [] = refl
each-length (n ∷ ns) = omega (arith, each-length ns)

-- the bytes of two rows of numbers
each_append : (a b : List ℕ) → two_bytes_each (a ++ b) ≡ two_bytes_each a ++ two_bytes_each b
unfolding two_bytes_each
each_append [] b = refl
each_append (n ∷ a) b = rw (each_append a b, append_assoc)

-- from p on stand these numbers over what m has there, and q is the place behind them
abbrev pub Numbers : List ℕ → ℕ → List ℕ → List ℕ → ℕ → Type 0
Numbers m p ns is q = (q ≡ p + 2 * length ns) × (is ≡ written_at m p (two_bytes_each ns))

-- no numbers
pub numbers-none : (m : List ℕ) (p : ℕ) → Numbers m p [] m p
unfolding two_bytes_each
numbers-none m p = (omega arith, paste-zero m p [])

-- one number
pub numbers-one : (m : List ℕ) (p n : ℕ) (is : List ℕ) → is ≡ written_at m p (two_bytes n) → Numbers m p (n ∷ []) is (p + 2)
numbers-one m p n is e = (refl, e ∙ ap (written_at m p) (two-each n))

-- numbers leave the list as long
pub numbers-length : (m : List ℕ) (p : ℕ) (ns is : List ℕ) (q : ℕ) → Numbers m p ns is q → q ≤ length m → length is ≡ length m
numbers-length m p ns is q there fits = ap length there.1 ∙ written-length m p (two_bytes_each ns) (omega (arith, each-length ns))

-- numbers behind numbers
pub numbers-behind : (m : List ℕ) (p : ℕ) (a is : List ℕ) (q : ℕ) (b js : List ℕ) (r : ℕ) → Numbers m p a is q → Numbers is q b js r → r ≤ length m
    → Numbers m p (a ++ b) js r
numbers-behind m p a is q b js r first then fits = (
  simp length-append (omega arith),
  then.1 ∙ written_behind m is (two_bytes_each a) (two_bytes_each b) p q first.1 (omega (arith, each-length a)) (omega (arith, each-length b))
      ∙ rw each_append,
)
