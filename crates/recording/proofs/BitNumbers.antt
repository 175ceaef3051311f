-- The numbers of the bits that are set: of a word, and of the words of a decision set, whose decided choices they say.
use mathlib.Core.List.{List, [], ◌∷◌, ◌++◌}
use mathlib.Core.Path.{◌≡◌, refl, sym, ap, ◌∙◌}
use Prim.Native.Nat.{ℕ, zero, suc, ◌+◌, ◌-◌, ◌*◌, ◌/◌, ◌%◌, ◌<◌, ◌≤◌}
use native.Mathlib.Nat.{not-suc-le-zero}
use native.Mathlib.Numerals.{add-one}
use native.Mathlib.Omega.{arith}
use lib.ListN.{length, get_or, take, drop, length-take, length-drop, take-append-drop, drop_of_length-le}
use lib.Seq.{drop-drop}
use borrow.Author.Tests.{eq-eqb, ne_eqb}
use Rattle.limits.specs.Sizes.{words_of_set}
use Rattle.limits.specs.Decisions.{Decisions, word_of, words_in, words_of}
use Rattle.limits.specs.declared.Side.{Side}
use Rattle.limits.specs.declared.Side.TheVariants.{Open, Left, Right}
use Rattle.machine.specs.Answers.{decision_numbers}
use Rattle.standing.specs.Held.{Decided}
use Rattle.recording.specs.RecordContracts.{bits_from}

-- no bit of 0 is set
pub bits_none : (i k : ℕ) → bits_from i 0 k ≡ []
unfolding bits_from
bits_none i zero = refl
bits_none i (suc k) = bits_none (suc i) k

-- the lowest bit, if it is set, and the others
module _ (i w k : ℕ) where
  bit_set : w % 2 ≡ 1 → bits_from i w (suc k) ≡ i ∷ bits_from (suc i) (w / 2) k
  unfolding bits_from
  bit_set e = rw (eq-eqb (w % 2) 1 e, bits_from)

  bit_unset : (w % 2 ≡ 1 → ⊥) → bits_from i w (suc k) ≡ bits_from (suc i) (w / 2) k
  unfolding bits_from
  bit_unset e = rw (ne_eqb (w % 2) 1 e, bits_from)

-- the same in the code's words, where the bits are numbered from i up to `end`
module _ (i end w : ℕ) (some_left : i < end) where
  one_more : end - i ≡ suc (end - suc i)
  one_more = omega arith

  pub next-set : w % 2 ≡ 1 → bits_from i w (end - i) ≡ i ∷ bits_from (i + 1) (w / 2) (end - (i + 1))
  next-set e = rw add-one (ap (bits_from i w) one_more ∙ bit_set i w (end - suc i) e)

  pub next_unset : (w % 2 ≡ 1 → ⊥) → bits_from i w (end - i) ≡ bits_from (i + 1) (w / 2) (end - (i + 1))
  next_unset e = rw add-one (ap (bits_from i w) one_more ∙ bit_unset i w (end - suc i) e)

-- the two lowest bits, by the side that they say, and the others
module _ (first w k : ℕ) where
  bits_open : bits_from first (w * 4 + 0) (suc (suc k)) ≡ bits_from (suc (suc first)) w k
  bits_open =
      let others : (w * 4 + 0) / 2 / 2 ≡ w = omega arith in
      bit_unset first (w * 4 + 0) (suc k) (λ h. omega arith) ∙ bit_unset (suc first) ((w * 4 + 0) / 2) k (λ h. omega arith) ∙ rw others

  bits_left : bits_from first (w * 4 + 1) (suc (suc k)) ≡ first ∷ bits_from (suc (suc first)) w k
  bits_left =
      let others : (w * 4 + 1) / 2 / 2 ≡ w = omega arith in
      rw (bit_set first (w * 4 + 1) (suc k) (omega arith), bit_unset (suc first) ((w * 4 + 1) / 2) k (λ h. omega arith), others)

  bits_right : bits_from first (w * 4 + 2) (suc (suc k)) ≡ suc first ∷ bits_from (suc (suc first)) w k
  bits_right =
      let others : (w * 4 + 2) / 2 / 2 ≡ w = omega arith in
      rw (bit_unset first (w * 4 + 2) (suc k) (λ h. omega arith), bit_set (suc first) ((w * 4 + 2) / 2) k (omega arith), others)

-- the bits of a word, two to a choice, and the choices behind them
word-numbers : (i first n k : ℕ) (ds es : Decisions) → first ≡ 2 * i → n ≡ 2 * length ds → k ≡ i + length ds
    → bits_from first (word_of ds) n ++ decision_numbers k es ≡ decision_numbers i (ds ++ es)
unfolding bits_from word_of decision_numbers
word-numbers i first n k [] es e f g = let same : k ≡ i = omega arith in rw (f, same)
word-numbers i first n k (s ∷ ds) es e f g =
    let two : n ≡ suc (suc (2 * length ds)) = omega arith in
    let others = word-numbers (suc i) (suc (suc first)) (2 * length ds) k ds es (omega arith) refl (omega arith) in
    let right : suc first ≡ 2 * i + 1 = omega arith in
    rw two elim s as (λ (x : Side). bits_from first (word_of (x ∷ ds)) (suc (suc (2 * length ds))) ++ decision_numbers k es ≡ decision_numbers i (x ∷ (ds ++ es))) [
      | Open ↦ rw (bits_open first (word_of ds) (2 * length ds)) others
      | Left ↦ rw (bits_left first (word_of ds) (2 * length ds), others, e)
      | Right ↦ rw (bits_right first (word_of ds) (2 * length ds), others, right)
    ]

-- word q of the set is that of the 32 choices from 32q on
word_of_set : (n q : ℕ) (ds : Decisions) → q < n → get_or (words_in n ds) q 0 ≡ word_of (take 32 (drop (32 * q) ds))
unfolding words_in
word_of_set zero q ds b = absurd (not-suc-le-zero b)
word_of_set (suc n) zero ds b = refl
word_of_set (suc n) (suc q) ds b =
    let further : 32 + 32 * q ≡ 32 * suc q = omega arith in
    word_of_set n q (drop 32 ds) (omega arith) ∙ ap (λ (l : Decisions). word_of (take 32 l)) (drop-drop (32 * q) 32 ds ∙ ap (λ (k : ℕ). drop k ds) further)

module _ {words : List ℕ} {ds : Decisions} (means : Decided words ds) (q : ℕ) where
  -- the numbers of the choices from 32q on are those of the bits of word q, and then those of the choices behind them
  pub word_next : q < words_of_set
      → decision_numbers (32 * q) (drop (32 * q) ds) ≡ bits_from (64 * q) (get_or words q 0) 64 ++ decision_numbers (32 * (q + 1)) (drop (32 * (q + 1)) ds)
  unfolding words_of
  word_next b =
      let here : Decisions = take 32 (drop (32 * q) ds) in
      let many : length here ≡ 32 = simp (length-take, length-drop) (omega (arith, means.all)) in
      let further : 32 * q + 32 ≡ 32 * (q + 1) = omega arith in
      let split : drop (32 * q) ds ≡ here ++ drop (32 * (q + 1)) ds =
      sym (take-append-drop 32 (drop (32 * q) ds)) ∙ ap (λ (l : Decisions). here ++ l) (drop-drop 32 (32 * q) ds ∙ ap (λ (k : ℕ). drop k ds) further) in
      rw (split, means.words, word_of_set words_of_set q ds b)
      (sym (word-numbers (32 * q) (64 * q) 64 (32 * (q + 1)) here (drop (32 * (q + 1)) ds) (omega arith) (omega arith) (omega arith)))

  -- behind the last word there are none
  pub words-end : words_of_set ≤ q → decision_numbers (32 * q) (drop (32 * q) ds) ≡ []
  unfolding decision_numbers
  words-end b = rw (drop_of_length-le ds {i = 32 * q} (omega (arith, means.all)))
