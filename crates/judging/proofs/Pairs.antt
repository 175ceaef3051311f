-- The decisions of an entry, word by word and all pairs of a word at once.
use mathlib.Core.Bool.{Bool, true, false, ◌&&◌, ◌||◌, not}
use mathlib.Core.List.{List}
use mathlib.Core.Path.{◌≡◌, refl, sym, ap, ap₂, ◌∙◌}
use Prim.Native.Nat.{ℕ, zero, suc, ◌+◌, ◌-◌, ◌*◌, ◌/◌, ◌%◌, ◌^◌, ◌<◌, ◌≤◌, min}
use native.Mathlib.Decide.{ℕ_discrete, dec_le}
use native.Mathlib.Nat.{pow-suc}
use native.Mathlib.Omega.{arith}
use borrow.Author.Tests.{eq-eqb, ne_eqb, le-leb, lt-leb}
use lib.Bits.{bit_and, and_step, and_zero_r, and_shr}
use lib.Dec.{leb, eqb}
use lib.ListN.{get_or}
use lib.Pow.{shr-shr}
use Rattle.limits.specs.Sizes.{most_choices}
use Rattle.limits.specs.Decisions.{is_set}
use Rattle.limits.specs.declared.Entry.{Entry as LentEntry}
use Rattle.accepted.specs.Faults.{some_from, bad_side, bad_entry}
use Rattle.accepted.proofs.Reaches.{or_left, or_right}
use Rattle.judging.specs.Words.{bit_of, bad_pair}

-- ---- from one choice of a word to the next

-- bits two higher are those of a quarter
bit_up : (w b : ℕ) → bit_of w (2 + b) ≡ bit_of (w / 4) b
bit_up w b = ap (λ (x : ℕ). eqb (x % 2) 1) (sym (shr-shr w 2 b))

leb-up : (made i : ℕ) → leb made (suc i) ≡ leb (made - 1) i
leb-up zero i = le-leb 0 (suc i) (omega arith) ∙ sym (le-leb 0 i (omega arith))
leb-up (suc made) i = by (dec_le made i)
  where
    by : Dec (made ≤ i) → leb (suc made) (suc i) ≡ leb (suc made - 1) i
    by (yes le) = le-leb (suc made) (suc i) (omega arith) ∙ sym (le-leb (suc made - 1) i (omega arith))
    by (no gt) = lt-leb (suc made) (suc i) (omega arith) ∙ sym (lt-leb (suc made - 1) i (omega arith))

pair-up : (made w i : ℕ) → bad_pair made w (suc i) ≡ bad_pair (made - 1) (w / 4) i
unfolding bad_pair
pair-up made w i =
    let l : bit_of w (2 * suc i) ≡ bit_of (w / 4) (2 * i) = ap (bit_of w) (let z : 2 * suc i ≡ 2 + 2 * i = omega arith in z) ∙ bit_up w (2 * i) in
    let r : bit_of w (2 * suc i + 1) ≡ bit_of (w / 4) (2 * i + 1) = ap (bit_of w) (let z : 2 * suc i + 1 ≡ 2 + (2 * i + 1) = omega arith in z) ∙ bit_up w
    (2 * i + 1) in
    ap₂ (λ (x y : Bool). (x && y) || leb made (suc i) && (x || y)) l r
    ∙ ap (λ (z : Bool). (bit_of (w / 4) (2 * i) && bit_of (w / 4) (2 * i + 1)) || z && (bit_of (w / 4) (2 * i) || bit_of (w / 4) (2 * i + 1))) (leb-up made i)

some_up : (made w i d : ℕ) → some_from (bad_pair made w) (suc i) d ≡ some_from (bad_pair (made - 1) (w / 4)) i d
unfolding some_from
some_up made w i zero = refl
some_up made w i (suc d) = ap₂ ◌||◌ (pair-up made w i) (some_up made w (suc i) d)

next : (made w d : ℕ) → some_from (bad_pair made w) 0 (suc d) ≡ (bad_pair made w 0 || some_from (bad_pair (made - 1) (w / 4)) 0 d)
unfolding some_from
next made w d = ap (λ (b : Bool). bad_pair made w 0 || b) (some_up made w 0 d)

next-made : (made w d : ℕ) → some_from (bad_pair (suc made) w) 0 (suc d) ≡ (bad_pair (suc made) w 0 || some_from (bad_pair made (w / 4)) 0 d)
next-made made w d =
    next (suc made) w d ∙ ap (λ (m : ℕ). bad_pair (suc made) w 0 || some_from (bad_pair m (w / 4)) 0 d) (let z : suc made - 1 ≡ made = omega arith in z)

-- ---- the first choice of a word, by its two bits

low-set : (w : ℕ) → w % 2 ≡ 1 → bit_of w 0 ≡ true
low-set w e = eq-eqb (w / 1 % 2) 1 (omega arith)

low_clear : (w : ℕ) → w % 2 ≡ 0 → bit_of w 0 ≡ false
low_clear w e = ne_eqb (w / 1 % 2) 1 (λ q. omega arith)

high-set : (w : ℕ) → w / 2 % 2 ≡ 1 → bit_of w 1 ≡ true
high-set w e = eq-eqb (w / 2 % 2) 1 e

high-clear : (w : ℕ) → w / 2 % 2 ≡ 0 → bit_of w 1 ≡ false
high-clear w e = ne_eqb (w / 2 % 2) 1 (λ q. omega arith)

module _ (made w : ℕ) where
  pair-both : w % 2 ≡ 1 → w / 2 % 2 ≡ 1 → bad_pair made w 0 ≡ true
  unfolding bad_pair
  pair-both l r = rw (low-set w l, high-set w r) refl

  pair-clear : w % 2 ≡ 0 → w / 2 % 2 ≡ 0 → bad_pair made w 0 ≡ false
  unfolding bad_pair
  pair-clear l r = rw (low_clear w l, high-clear w r) (by (leb made 0))
    where
      by : (b : Bool) → (b && false) ≡ false
      by true = refl
      by false = refl

  -- one bit alone is bad if the choice is not made
  pair_left : w % 2 ≡ 1 → w / 2 % 2 ≡ 0 → bad_pair made w 0 ≡ leb made 0
  unfolding bad_pair
  pair_left l r = rw (low-set w l, high-clear w r) (by (leb made 0))
    where
      by : (b : Bool) → (b && true) ≡ b
      by true = refl
      by false = refl

  pair-right : w % 2 ≡ 0 → w / 2 % 2 ≡ 1 → bad_pair made w 0 ≡ leb made 0
  unfolding bad_pair
  pair-right l r = rw (low_clear w l, high-set w r) (by (leb made 0))
    where
      by : (b : Bool) → (b && true) ≡ b
      by true = refl
      by false = refl

-- a bit is zero or one
bit : (x : ℕ) → Dec (x % 2 ≡ 0)
bit x = ℕ_discrete (x % 2) 0

one_bit : (x : ℕ) → (x % 2 ≡ 0 → ⊥) → x % 2 ≡ 1
one_bit x other = by (x % 2) (let z : x % 2 < 2 = omega arith in z) other
  where
    by : (y : ℕ) → y < 2 → (y ≡ 0 → ⊥) → y ≡ 1
    by zero lt f = absurd (f refl)
    by (suc zero) lt f = refl
    by (suc (suc y)) lt f = absurd (omega arith)

-- ---- all pairs at once

-- a one at the lower bit of each of d pairs
unfoldable pub low_bits : ℕ → ℕ
low_bits zero = 0
low_bits (suc d) = low_bits d * 4 + 1

-- the lower bits of the pairs that have both
abbrev pub both : ℕ → ℕ → ℕ
both d w = bit_and (bit_and w (w / 2)) (low_bits d)

both-next : (d w : ℕ) → both (suc d) w ≡ both d (w / 4) * 4 + min (w % 2) (w / 2 % 2)
unfolding low_bits
both-next d w =
    let a = bit_and w (w / 2) in
    let e = low_bits d in
    let low : a % 2 ≡ min (w % 2) (w / 2 % 2) = omega (arith, and_step w (w / 2)) in
    let half : (e * 4 + 1) / 2 ≡ e * 2 = omega arith in
    let odd : (e * 4 + 1) % 2 ≡ 1 = omega arith in
    let half' : e * 2 / 2 ≡ e = omega arith in
    let even : e * 2 % 2 ≡ 0 = omega arith in
    let quarter : a / 2 / 2 ≡ a / 4 = omega arith in
    let eighth : w / 2 / 4 ≡ w / 4 / 2 = omega arith in
    let inner : a / 4 ≡ bit_and (w / 4) (w / 4 / 2) = and_shr w (w / 2) 2 ∙ ap (bit_and (w / 4)) eighth in
    let one : bit_and a (e * 4 + 1) ≡ bit_and (a / 2) (e * 2) * 2 + min (a % 2) 1 =
    and_step a (e * 4 + 1) ∙ ap₂ (λ (x y : ℕ). bit_and (a / 2) x * 2 + min (a % 2) y) half odd in
    let two : bit_and (a / 2) (e * 2) ≡ bit_and (a / 2 / 2) e * 2 + min (a / 2 % 2) 0 =
    and_step (a / 2) (e * 2) ∙ ap₂ (λ (x y : ℕ). bit_and (a / 2 / 2) x * 2 + min (a / 2 % 2) y) half' even in
    let last : bit_and (a / 2 / 2) e ≡ both d (w / 4) = ap (λ (x : ℕ). bit_and x e) (quarter ∙ inner) in
    omega (arith, one, two, last, low)

-- a pair that has both
pub some-both : (d made w : ℕ) → (both d w ≡ 0 → ⊥) → some_from (bad_pair made w) 0 d ≡ true
unfolding low_bits
some-both zero made w some = absurd (some (and_zero_r (bit_and w (w / 2))))
some-both (suc d) made w some = next made w d ∙ by (ℕ_discrete (both d (w / 4)) 0) (some-both d (made - 1) (w / 4))
  where
    by : Dec (both d (w / 4) ≡ 0) → ((both d (w / 4) ≡ 0 → ⊥) → some_from (bad_pair (made - 1) (w / 4)) 0 d ≡ true)
        → (bad_pair made w 0 || some_from (bad_pair (made - 1) (w / 4)) 0 d) ≡ true
    by (yes none) ih = or_left (bad_pair made w 0) (some_from (bad_pair (made - 1) (w / 4)) 0 d)
        (pair-both made w (one_bit w (λ q. some (omega (arith, both-next d w)))) (one_bit (w / 2) (λ q. some (omega (arith, both-next d w)))))
    by (no more) ih = or_right (bad_pair made w 0) (some_from (bad_pair (made - 1) (w / 4)) 0 d) (ih more)

-- none has both: what is left are choices not made
module _ (d w : ℕ) (none : both (suc d) w ≡ 0) where
  none-next : both d (w / 4) ≡ 0
  none-next = omega (arith, both-next d w)

  none_here : min (w % 2) (w / 2 % 2) ≡ 0
  none_here = omega (arith, both-next d w)

  -- a choice that is made
  made_pair : (made : ℕ) → bad_pair (suc made) w 0 ≡ false
  made_pair made = by (bit w) (bit (w / 2))
    where
      no_such : leb (suc made) 0 ≡ false
      no_such = lt-leb (suc made) 0 (omega arith)

      by : Dec (w % 2 ≡ 0) → Dec (w / 2 % 2 ≡ 0) → bad_pair (suc made) w 0 ≡ false
      by (yes l) (yes r) = pair-clear (suc made) w l r
      by (yes l) (no r) = pair-right (suc made) w l (one_bit (w / 2) r) ∙ no_such
      by (no l) (yes r) = pair_left (suc made) w (one_bit w l) r ∙ no_such
      by (no l) (no r) = absurd (omega (arith, one_bit w l, one_bit (w / 2) r, none_here))

  -- one that is not
  free-clear : w % 4 ≡ 0 → bad_pair 0 w 0 ≡ false
  free-clear e = pair-clear 0 w (omega arith) (omega arith)

  free-set : (w % 4 ≡ 0 → ⊥) → bad_pair 0 w 0 ≡ true
  free-set other = by (bit w) (bit (w / 2))
    where
      each : leb 0 0 ≡ true
      each = le-leb 0 0 (omega arith)

      by : Dec (w % 2 ≡ 0) → Dec (w / 2 % 2 ≡ 0) → bad_pair 0 w 0 ≡ true
      by (yes l) (yes r) = absurd (other (omega arith))
      by (yes l) (no r) = pair-right 0 w l (one_bit (w / 2) r) ∙ each
      by (no l) (yes r) = pair_left 0 w (one_bit w l) r ∙ each
      by (no l) (no r) = absurd (omega (arith, one_bit w l, one_bit (w / 2) r, none_here))

quarter_less : (d w : ℕ) → w < 4 ^ suc d → w / 4 < 4 ^ d
quarter_less d w lt = omega (arith, pow-suc 4 d)

some-free : (d w : ℕ) → w < 4 ^ d → both d w ≡ 0 → some_from (bad_pair 0 w) 0 d ≡ not (eqb w 0)
unfolding some_from
some-free zero w lt none = sym (ap not (eq-eqb w 0 (omega arith)))
some-free (suc d) w lt none =
    next 0 w d ∙ ap (λ (b : Bool). bad_pair 0 w 0 || b) (some-free d (w / 4) (quarter_less d w lt) (none-next d w none)) ∙ by (ℕ_discrete (w % 4) 0)
    (ℕ_discrete (w / 4) 0)
  where
    by : Dec (w % 4 ≡ 0) → Dec (w / 4 ≡ 0) → (bad_pair 0 w 0 || not (eqb (w / 4) 0)) ≡ not (eqb w 0)
    by (yes e) (yes q) = rw (free-clear d w none e, eq-eqb (w / 4) 0 q, eq-eqb w 0 (let z : w ≡ 0 = omega arith in z)) refl
    by (yes e) (no q) = rw (free-clear d w none e, ne_eqb (w / 4) 0 q, ne_eqb w 0 (λ z. q (omega arith))) refl
    by (no e) q = rw (free-set d w none e, ne_eqb w 0 (λ z. e (omega arith))) refl

-- some choice of the word is not made
pub some-past : (d made w : ℕ) → w < 4 ^ d → both d w ≡ 0 → made < d → some_from (bad_pair made w) 0 d ≡ not (eqb (w / 2 ^ (2 * made)) 0)
some-past d zero w lt none l = some-free d w lt none ∙ ap (λ (x : ℕ). not (eqb x 0)) (let z : w ≡ w / 1 = omega arith in z)
some-past zero (suc made) w lt none l = absurd (omega arith)
some-past (suc d) (suc made) w lt none l =
    let twice : 2 + 2 * made ≡ 2 * suc made = omega arith in
    next-made made w d ∙ ap (λ (b : Bool). b || some_from (bad_pair made (w / 4)) 0 d) (made_pair d w none made)
    ∙ some-past d made (w / 4) (quarter_less d w lt) (none-next d w none) (omega arith)
    ∙ ap (λ (x : ℕ). not (eqb x 0)) (shr-shr w 2 (2 * made) ∙ ap (λ (k : ℕ). w / 2 ^ k) twice)

-- all are
pub none_past : (d made w : ℕ) → both d w ≡ 0 → d ≤ made → some_from (bad_pair made w) 0 d ≡ false
unfolding some_from
none_past zero made w none le = refl
none_past (suc d) zero w none le = absurd (omega arith)
none_past (suc d) (suc made) w none le =
    next-made made w d ∙ ap (λ (b : Bool). b || some_from (bad_pair made (w / 4)) 0 d) (made_pair d w none made) ∙ none_past d made (w / 4)
    (none-next d w none) (omega arith)

-- the number that the code has
pub low_bits_lem : low_bits 32 ≡ 6148914691236517205
unfolding low_bits
low_bits_lem = refl

-- ---- the words of an entry

module _ (k : ℕ) (words : List ℕ) (q : ℕ) where
  -- choice 32 q + r is the r-th of word q
  side_pair : (r : ℕ) → r < 32 → bad_side k words (32 * q + r) ≡ bad_pair (k - 32 * q) (get_or words q 0) r
  unfolding bad_side bad_pair
  side_pair r lt =
      let i = 32 * q + r in
      let l : is_set words (2 * i) ≡ bit_of (get_or words q 0) (2 * r) =
      ap₂ (λ (a b : ℕ). eqb (get_or words a 0 / 2 ^ b % 2) 1) (let z : 2 * i / 64 ≡ q = omega arith in z) (let z : 2 * i % 64 ≡ 2 * r = omega arith in z) in
      let h : is_set words (2 * i + 1) ≡ bit_of (get_or words q 0) (2 * r + 1) =
      ap₂ (λ (a b : ℕ). eqb (get_or words a 0 / 2 ^ b % 2) 1) (let z : (2 * i + 1) / 64 ≡ q = omega arith in z)
      (let z : (2 * i + 1) % 64 ≡ 2 * r + 1 = omega arith in z) in
      ap₂ (λ (x y : Bool). (x && y) || leb k i && (x || y)) l h
      ∙ ap (λ (z : Bool). (bit_of (get_or words q 0) (2 * r) && bit_of (get_or words q 0) (2 * r + 1)) || z &&
      (bit_of (get_or words q 0) (2 * r) || bit_of (get_or words q 0) (2 * r + 1)))
      (order (dec_le k i))
    where
      order : Dec (k ≤ 32 * q + r) → leb k (32 * q + r) ≡ leb (k - 32 * q) r
      order (yes le) = le-leb k (32 * q + r) le ∙ sym (le-leb (k - 32 * q) r (omega arith))
      order (no gt) = lt-leb k (32 * q + r) (omega arith) ∙ sym (lt-leb (k - 32 * q) r (omega arith))

  word-is : (n r : ℕ) → r + n ≤ 32 → some_from (bad_side k words) (32 * q + r) n ≡ some_from (bad_pair (k - 32 * q) (get_or words q 0)) r n
  unfolding some_from
  word-is zero r le = refl
  word-is (suc n) r le =
      ap₂ ◌||◌ (side_pair r (omega arith))
      (ap (λ (i : ℕ). some_from (bad_side k words) i n) (let z : suc (32 * q + r) ≡ 32 * q + suc r = omega arith in z) ∙ word-is n (suc r) (omega arith))

-- so many, and then the rest
some-join : (bad : ℕ → Bool) (i a b : ℕ) → some_from bad i (a + b) ≡ (some_from bad i a || some_from bad (i + a) b)
unfolding some_from
some-join bad i zero b = ap₂ (some_from bad) (let z : i ≡ i + 0 = omega arith in z) (let z : 0 + b ≡ b = omega arith in z)
some-join bad i (suc a) b =
    ap (some_from bad i) (let z : suc a + b ≡ suc (a + b) = omega arith in z)
    ∙ ap (λ (x : Bool). bad i || x) (some-join bad (suc i) a b ∙ ap (λ (j : ℕ). some_from bad (suc i) a || some_from bad j b)
    (let z : suc i + a ≡ i + suc a = omega arith in z))
    ∙ sym (or_assoc (bad i) (some_from bad (suc i) a) (some_from bad (i + suc a) b))
  where
    or_assoc : (x y z : Bool) → ((x || y) || z) ≡ (x || (y || z))
    or_assoc true y z = refl
    or_assoc false y z = refl

-- one word of `left`, and the rest of them
module _ (k : ℕ) (words : List ℕ) (i : ℕ) (lt : i < 8) where
  split : some_from (bad_side k words) (32 * i) (32 * (8 - i))
      ≡ (some_from (bad_pair (k - 32 * i) (get_or words i 0)) 0 32 || some_from (bad_side k words) (32 * (i + 1)) (32 * (8 - (i + 1))))
  split =
      ap (some_from (bad_side k words) (32 * i)) (let z : 32 * (8 - i) ≡ 32 + 32 * (8 - (i + 1)) = omega arith in z)
      ∙ some-join (bad_side k words) (32 * i) 32 (32 * (8 - (i + 1)))
      ∙ ap₂ ◌||◌ (ap (λ (j : ℕ). some_from (bad_side k words) j 32) (let z : 32 * i ≡ 32 * i + 0 = omega arith in z) ∙ word-is k words i 32 0 (omega arith))
      (ap (λ (j : ℕ). some_from (bad_side k words) j (32 * (8 - (i + 1)))) (let z : 32 * i + 32 ≡ 32 * (i + 1) = omega arith in z))

  pub word-bad : some_from (bad_pair (k - 32 * i) (get_or words i 0)) 0 32 ≡ true → some_from (bad_side k words) (32 * i) (32 * (8 - i)) ≡ true
  word-bad e = split ∙ ap (λ (b : Bool). b || some_from (bad_side k words) (32 * (i + 1)) (32 * (8 - (i + 1)))) e

  pub word_fine : some_from (bad_pair (k - 32 * i) (get_or words i 0)) 0 32 ≡ false
      → some_from (bad_side k words) (32 * i) (32 * (8 - i)) ≡ some_from (bad_side k words) (32 * (i + 1)) (32 * (8 - (i + 1)))
  word_fine e = split ∙ ap (λ (b : Bool). b || some_from (bad_side k words) (32 * (i + 1)) (32 * (8 - (i + 1)))) e

pub no_word : (k : ℕ) (words : List ℕ) (i : ℕ) → 8 ≤ i → some_from (bad_side k words) (32 * i) (32 * (8 - i)) ≡ false
unfolding some_from
no_word k words i le = ap (some_from (bad_side k words) (32 * i)) (let z : 32 * (8 - i) ≡ 0 = omega arith in z)

-- ---- an entry

module _ (k used : ℕ) (x : LentEntry) where
  pub entry-root : used ≤ x.root → bad_entry k used x ≡ true
  unfolding bad_entry
  entry-root le = ap (λ (b : Bool). b || some_from (bad_side k x.words) 0 most_choices) (le-leb used x.root le)

  pub entry-words : x.root < used → bad_entry k used x ≡ some_from (bad_side k x.words) 0 most_choices
  unfolding bad_entry
  entry-words lt = ap (λ (b : Bool). b || some_from (bad_side k x.words) 0 most_choices) (lt-leb used x.root lt)
