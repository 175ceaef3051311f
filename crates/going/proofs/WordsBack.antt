-- An entry of a lent row that says one side at most of each choice is the one that is lent for the entry read from it.
use mathlib.Core.Bool.{Bool, true, false}
use mathlib.Core.List.{List, [], ◌∷◌}
use mathlib.Core.Path.{◌≡◌, refl, sym, ap, ap₂, ◌∙◌}
use Prim.Native.Nat.{ℕ, zero, suc, ◌+◌, ◌*◌, ◌/◌, ◌%◌, ◌^◌, ◌<◌}
use native.Mathlib.Omega.{arith}
use borrow.Author.Tests.{eqb-true, eqb-false}
use lib.Dec.{eqb}
use lib.ListN.{length, get_or, take, drop}
use lib.Pow.{shr-shr, pow-add}
use Rattle.limits.specs.Sizes.{most_choices, words_of_set}
use Rattle.limits.specs.Decisions.{bits_of, word_of, words_in, words_of, side_by, side_at}
use Rattle.limits.specs.declared.Side.{Side}
use Rattle.limits.specs.declared.Entry.{Entry as LentEntry}
use Rattle.limits.specs.Lent.{lent}
use Rattle.rewriting.specs.Lists.{All, firsts}
use Rattle.accepted.specs.Read.{entry_in}
use Rattle.accepted.specs.Accepts.{OneSided}

abbrev has_bit : ℕ → ℕ → Bool
has_bit w b = eqb (w / 2 ^ b % 2) 1

abbrev side_in : ℕ → ℕ → Side
side_in w k = side_by (has_bit w (2 * k)) (has_bit w (2 * k + 1))

-- no choice of a word is decided both ways
abbrev Once : ℕ → ℕ → Type 0
Once n w = (k : ℕ) → k < n → has_bit w (2 * k) ≡ true → has_bit w (2 * k + 1) ≡ true → ⊥

-- the same first values
firsts_same : {A : Type 0} (n : ℕ) (f g : ℕ → A) → ((i : ℕ) → i < n → f i ≡ g i) → firsts n f ≡ firsts n g
unfolding firsts
firsts_same zero f g same = refl
firsts_same (suc n) f g same =
    let here = same 0 (omega arith) in
    let rest = firsts_same n (λ i. f (suc i)) (λ i. g (suc i)) (λ i lt. same (suc i) (omega arith)) in
    cc

-- bits two higher are those of a quarter
bit_up : (w b : ℕ) → has_bit w (2 + b) ≡ has_bit (w / 4) b
bit_up w b = ap (λ (x : ℕ). eqb (x % 2) 1) (sym (shr-shr w 2 b))

-- a bit that is not one is zero
parity : (x : ℕ) → (x % 2 ≡ 1 → ⊥) → x % 2 ≡ 0
parity x other = by (x % 2) (let z : x % 2 < 2 = omega arith in z) other
  where
    by : (y : ℕ) → y < 2 → (y ≡ 1 → ⊥) → y ≡ 0
    by zero lt f = refl
    by (suc zero) lt f = absurd (f refl)
    by (suc (suc y)) lt f = absurd (omega arith)

-- a number's rest by four, from its two lowest bits
quad : (w : ℕ) → w % 4 ≡ w / 1 % 2 + 2 * (w / 2 % 2)
quad w =
    let whole : w / 1 ≡ w = omega arith in
    let a : w ≡ 2 * (w / 2) + w % 2 = omega arith in
    let b : w / 2 ≡ 2 * (w / 2 / 2) + w / 2 % 2 = omega arith in
    let c : w / 4 ≡ w / 2 / 2 = omega arith in
    let d : w ≡ 4 * (w / 4) + w % 4 = omega arith in
    rw whole (omega arith)

-- the two lowest bits
low_bits_lem : (w : ℕ) → (has_bit w 0 ≡ true → has_bit w 1 ≡ true → ⊥) → bits_of (side_by (has_bit w 0) (has_bit w 1)) ≡ w % 4
low_bits_lem w once = by (has_bit w 0) refl (has_bit w 1) refl
  where
    by : (a : Bool) → has_bit w 0 ≡ a → (b : Bool) → has_bit w 1 ≡ b → bits_of (side_by a b) ≡ w % 4
    by true p true q = absurd (once p q)
    by true p false q =
        let low : w / 1 % 2 ≡ 1 = eqb-true _ 1 p in
        let high : w / 2 % 2 ≡ 1 → ⊥ = eqb-false _ 1 q in
        let other : w / 2 % 2 ≡ 0 = parity (w / 2) high in
        omega (arith, quad w)
    by false p true q =
        let high : w / 2 % 2 ≡ 1 = eqb-true _ 1 q in
        let other : w / 1 % 2 ≡ 0 = parity (w / 1) (eqb-false _ 1 p) in
        omega (arith, quad w)
    by false p false q =
        let low : w / 1 % 2 ≡ 0 = parity (w / 1) (eqb-false _ 1 p) in
        let high : w / 2 % 2 ≡ 0 = parity (w / 2) (eqb-false _ 1 q) in
        omega (arith, quad w)

-- a word of n choices is that of the sides read from it
word_back : (n w : ℕ) → w < 4 ^ n → Once n w → word_of (firsts n (side_in w)) ≡ w
unfolding word_of firsts
word_back zero w lt once = omega (arith, lt)
word_back (suc n) w lt once =
    let up : (k : ℕ) → side_in w (suc k) ≡ side_in (w / 4) k = λ k. sides k in
    let rest : word_of (firsts n (λ i. side_in w (suc i))) ≡ w / 4 =
    ap word_of (firsts_same n (λ i. side_in w (suc i)) (side_in (w / 4)) (λ i b. up i))
    ∙ word_back n (w / 4) (quarter lt) (λ k b l r. once (suc k) (omega arith) (left k ∙ l) (right k ∙ r)) in
    let low : bits_of (side_in w 0) ≡ w % 4 = low_bits_lem w (once 0 (omega arith)) in
    rw (rest, low) (omega arith)
  where
    left : (k : ℕ) → has_bit w (2 * suc k) ≡ has_bit (w / 4) (2 * k)
    left k = ap (has_bit w) (let z : 2 * suc k ≡ 2 + 2 * k = omega arith in z) ∙ bit_up w (2 * k)

    right : (k : ℕ) → has_bit w (2 * suc k + 1) ≡ has_bit (w / 4) (2 * k + 1)
    right k = ap (has_bit w) (let z : 2 * suc k + 1 ≡ 2 + (2 * k + 1) = omega arith in z) ∙ bit_up w (2 * k + 1)

    sides : (k : ℕ) → side_in w (suc k) ≡ side_in (w / 4) k
    sides k = ap₂ side_by (left k) (right k)

    quarter : w < 4 ^ suc n → w / 4 < 4 ^ n
    quarter lt = let z : 4 ^ suc n ≡ 4 ^ n * 4 = pow_step in omega arith
      where
        pow_step : 4 ^ suc n ≡ 4 ^ n * 4
        pow_step = omega (arith, pow-add 4 n 1)

-- ---- n words

take-firsts : {A : Type 0} (a b : ℕ) (g : ℕ → A) → take a (firsts (a + b) g) ≡ firsts a g
unfolding firsts
take-firsts zero b g = refl
take-firsts (suc a) b g =
    let more : suc a + b ≡ suc (a + b) = omega arith in
    rw (more, firsts) (ap (λ (l : List _). g 0 ∷ l) (take-firsts a b (λ i. g (suc i))))

drop-firsts : {A : Type 0} (a b : ℕ) (g : ℕ → A) → drop a (firsts (a + b) g) ≡ firsts b (λ i. g (a + i))
unfolding firsts
drop-firsts zero b g =
    let none : zero + b ≡ b = omega arith in
    rw none (firsts_same b g (λ i. g (zero + i)) (λ i lt. ap g (omega arith)))
drop-firsts (suc a) b g =
    let more : suc a + b ≡ suc (a + b) = omega arith in
    rw (more, firsts) (drop-firsts a b (λ i. g (suc i)) ∙ firsts_same b (λ i. g (suc (a + i))) (λ i. g (suc a + i)) (λ i lt. ap g (omega arith)))

words_in_back : (n : ℕ) (ws : List ℕ) (g : ℕ → Side) → length ws ≡ n → All (λ w. w < 4 ^ 32) ws
    → ((q r : ℕ) → q < n → r < 32 → g (32 * q + r) ≡ side_in (get_or ws q 0) r) → ((q : ℕ) → q < n → Once 32 (get_or ws q 0)) → words_in n (firsts (32 * n) g) ≡ ws
unfolding words_in
words_in_back zero [] g sized small same once = refl
words_in_back zero (w ∷ ws) g sized small same once = absurd (omega arith)
words_in_back (suc n) [] g sized small same once = absurd (omega arith)
words_in_back (suc n) (w ∷ ws) g sized (All.more lt small) same once =
    let more : 32 * suc n ≡ 32 + 32 * n = omega arith in
    let first : word_of (take 32 (firsts (32 * suc n) g)) ≡ w =
    rw (more, take-firsts 32 (32 * n) g) (ap word_of (firsts_same 32 g (side_in w) (λ r b. ap g (omega arith) ∙ same 0 r (omega arith) b)) ∙ word_back 32 w lt (once 0 (omega arith))) in
    let rest : words_in n (drop 32 (firsts (32 * suc n) g)) ≡ ws =
    rw (more, drop-firsts 32 (32 * n) g)
    (words_in_back n ws (λ i. g (32 + i)) (omega arith) small (λ q r a b. ap g (omega arith) ∙ same (suc q) r (omega arith) b) (λ q a. once (suc q) (omega arith))) in
    ap₂ ◌∷◌ first rest

-- the bits of choice 32q + r are those of choice r of word q
place-left : (q r : ℕ) → r < 32 → (2 * (32 * q + r) / 64 ≡ q) × (2 * (32 * q + r) % 64 ≡ 2 * r)
place-left q r lt = omega arith

place-right : (q r : ℕ) → r < 32 → ((2 * (32 * q + r) + 1) / 64 ≡ q) × ((2 * (32 * q + r) + 1) % 64 ≡ 2 * r + 1)
place-right q r lt = omega arith

-- AN ENTRY THAT IS READ is lent as it stood.
pub entry-lent : (x : LentEntry) → length x.words ≡ words_of_set → All (λ w. w < 4 ^ 32) x.words → OneSided x → lent (entry_in x) ≡ x
unfolding lent entry_in words_of side_at
entry-lent x sized small once =
    let words : words_in words_of_set (firsts most_choices (side_at x.words)) ≡ x.words =
    words_in_back words_of_set x.words (side_at x.words) sized small
    (λ q r a b. rw ((place-left q r b).0, (place-left q r b).1, (place-right q r b).0, (place-right q r b).1) refl)
    (λ q a k b l r. once (32 * q + k) (omega arith)
    (rw ((place-left q k b).0, (place-left q k b).1) l) (rw ((place-right q k b).0, (place-right q k b).1) r)) in
    rw words refl
