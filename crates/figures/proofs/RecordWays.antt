-- A record, one lemma for each way through the code; and where a record that was read ends.
use mathlib.Core.Bool.{false}
use mathlib.Core.List.{List}
use mathlib.Core.Path.{◌≡◌, refl, sym, ap, ap₂, ◌∙◌}
use Prim.Native.Nat.{ℕ, zero, suc, ◌+◌, ◌-◌, ◌*◌, ◌/◌, ◌%◌, ◌≤◌, ◌<◌}
use native.Mathlib.Numerals.{add-one}
use native.Mathlib.Omega.{arith}
use borrow.Author.Tests.{le-leb, lt-leb, lt-ltb, le-ltb, ltb-false, eq-eqb, ne_eqb}
use lib.Dec.{ltb, eqb}
use Rattle.limits.specs.Sizes.{most_choices}
use Rattle.reading.specs.Reading.{Reading, got, refusal, refuse◌at◌if◌else◌}
use Rattle.reading.specs.Bytes.{big_endian}
use Rattle.reading.specs.Answer.{keeping, nothing}
use Rattle.tallies.specs.InCode.{reading_of}
use Rattle.std.proofs.Common.{Err}
use Rattle.tallies.specs.declared.Refusal.{Refusal}
use Rattle.tallies.specs.declared.Fault.TheVariants.{Layout}
use Rattle.reading.proofs.Good.{Good, good, unless}
use Rattle.reading.proofs.Keeping.{passed, failed-test}
use Rattle.figures.specs.AnswerBook.{Symbols, rising, record_at}

-- k decision numbers from p on, the first of them for a choice
module _ (bs : List ℕ) (least p choice : ℕ) (is : choice ≡ big_endian bs p / 2) where
  pub too_low : (k : ℕ) → 0 < k → choice < least → rising bs k least p ≡ false
  unfolding rising
  too_low zero more h = absurd (omega arith)
  too_low (suc k) more h = simp (rising, ← is, lt-leb least choice h)

  module _ (low : least ≤ choice) where
    pub too_high : (k : ℕ) → 0 < k → most_choices ≤ choice → rising bs k least p ≡ false
    unfolding rising
    too_high zero more h = absurd (omega arith)
    too_high (suc k) more h = simp (rising, ← is, le-leb least choice low, le-ltb choice most_choices h)

    pub rises : (k left : ℕ) → k ≡ suc left → choice < most_choices → rising bs k least p ≡ rising bs left (choice + 1) (p + 2)
    unfolding rising
    rises k left more h =
        ap (λ (j : ℕ). rising bs j least p) more
        ∙ simp (rising, ← is, le-leb least choice low, lt-ltb choice most_choices h) (ap (λ (next : ℕ). rising bs left next (p + 2)) (sym (add-one choice)))

-- A record at p, of length n: what its tests come to, by stages.
module _ (version p n count : ℕ) where
  abbrev decisions_from : ℕ
  decisions_from = p + 2 * version + 2 + 2 * count

  abbrev bytes_left : ℕ
  bytes_left = p + 2 + n - decisions_from

  -- behind its symbol count
  abbrev pub counted : Reading Symbols
  counted =
      refuse◌at◌if◌else◌ 60 p (eqb count 0) λ _.
      refuse◌at◌if◌else◌ 60 p (ltb (p + 2 + n) decisions_from) λ _.
      refuse◌at◌if◌else◌ 60 p (eqb (bytes_left % 2) 1) λ _.
      got (record { count = count; from = p + 2 * version + 2 }) (p + 2 + n)

  -- it has no symbol; they are cut off; its last decision is cut off; it is read
  pub no_symbol_lem : count ≡ 0 → counted ≡ refusal 60 p
  no_symbol_lem h = failed-test 60 p _ (eq-eqb count 0 h)

  module _ (some : count ≡ 0 → ⊥) where
    pub symbols-cut : p + 2 + n < decisions_from → counted ≡ refusal 60 p
    symbols-cut h = passed 60 p (ne_eqb count 0 some) ∙ failed-test 60 p _ (lt-ltb _ _ h)

    module _ (holds : decisions_from ≤ p + 2 + n) where
      pub decision_cut : bytes_left % 2 ≡ 1 → counted ≡ refusal 60 p
      decision_cut h = passed 60 p (ne_eqb count 0 some) ∙ passed 60 p (le-ltb (p + 2 + n) decisions_from holds) ∙ failed-test 60 p _ (eq-eqb _ 1 h)

      pub record_read : (bytes_left % 2 ≡ 1 → ⊥) → counted ≡ got (record { count = count; from = p + 2 * version + 2 }) (p + 2 + n)
      record_read even =
          passed 60 p (ne_eqb count 0 some) ∙ passed 60 p (le-ltb (p + 2 + n) decisions_from holds) ∙ passed 60 p (ne_eqb (bytes_left % 2) 1 even)

-- a record at p of a book that ends at e
module _ (bs : List ℕ) (version e p : ℕ) where
  abbrev tested : ℕ → ℕ → Reading Symbols
  tested n count =
      refuse◌at◌if◌else◌ 60 p (ltb e (p + 2)) λ _.
      refuse◌at◌if◌else◌ 60 p (ltb e (p + 2 + n)) λ _.
      refuse◌at◌if◌else◌ 60 p (ltb (p + 2 + n) (p + 2 * version + 2)) λ _.
      counted version p n count

  by_tests : (n count : ℕ) → n ≡ big_endian bs p → count ≡ big_endian bs (p + 2 * version) → record_at bs version e p ≡ tested n count
  unfolding record_at
  by_tests n count n-is count-is = sym (ap₂ tested n-is count-is)

  -- its length is cut off; it is cut off; it has no symbol count; it has one
  pub length_cut : e < p + 2 → record_at bs version e p ≡ refusal 60 p
  length_cut h = by_tests _ _ refl refl ∙ failed-test 60 p _ (lt-ltb e (p + 2) h)

  module _ (n : ℕ) (n-is : n ≡ big_endian bs p) (opened : p + 2 ≤ e) where
    pub record_cut : e < p + 2 + n → record_at bs version e p ≡ refusal 60 p
    record_cut h = by_tests n _ n-is refl ∙ passed 60 p (le-ltb e (p + 2) opened) ∙ failed-test 60 p _ (lt-ltb e (p + 2 + n) h)

    module _ (whole : p + 2 + n ≤ e) where
      pub no_count : p + 2 + n < p + 2 * version + 2 → record_at bs version e p ≡ refusal 60 p
      no_count h = by_tests n _ n-is refl ∙ passed 60 p (le-ltb e (p + 2) opened) ∙ passed 60 p (le-ltb e (p + 2 + n) whole) ∙ failed-test 60 p _ (lt-ltb _ _ h)

      pub count-there : p + 2 * version + 2 ≤ p + 2 + n → (count : ℕ) → count ≡ big_endian bs (p + 2 * version) → record_at bs version e p ≡ counted version p n count
      count-there h count count-is =
          by_tests n count n-is count-is ∙ passed 60 p (le-ltb e (p + 2) opened) ∙ passed 60 p (le-ltb e (p + 2 + n) whole) ∙ passed 60 p (le-ltb (p + 2 + n) (p + 2 * version + 2) h)

-- the code's answers
pub refused_as_lem : (r : Refusal) {p : ℕ} {t : Reading Symbols} → r ≡ record { fault = Layout; place = p } → t ≡ refusal 60 p → reading_of (Err r) ≡ keeping nothing t
unfolding keeping
refused_as_lem r answer told = ap (λ (r : Refusal). reading_of (Err r)) answer ∙ sym (ap (keeping nothing) told)

pub read_as : {t : Reading Symbols} (answer : Symbols) (end : ℕ) → t ≡ got answer end → got 0 end ≡ keeping nothing t
unfolding keeping
read_as answer end told = sym (ap (keeping nothing) told)

-- where a record's symbols stand, how many there are, and where it ends
pub record Extent (bs : List ℕ) (version e p : ℕ) (answer : Symbols) (end : ℕ) : Type 0 where
  pub onward : p + 2 ≤ end
  pub within : end ≤ e
  pub stand : answer.from ≡ p + 2 * version + 2
  pub count : answer.count ≡ big_endian bs (p + 2 * version)
  pub behind : end ≡ p + 2 + big_endian bs p
  pub room : answer.from + 2 * answer.count ≤ end

pub record_extent : (bs : List ℕ) (version e p : ℕ) → Good (Extent bs version e p) (record_at bs version e p)
unfolding record_at
record_extent bs version e p =
    unless _ _ _ λ _ _. unless _ _ (ltb e (p + 2 + big_endian bs p)) λ _ within. unless _ _ _ λ _ _. unless _ _ _ λ _ _.
    unless _ _ (ltb (p + 2 + big_endian bs p) (p + 2 * version + 2 + 2 * big_endian bs (p + 2 * version))) λ _ room. unless _ _ _ λ _ _.
    good (record { onward = omega arith; within = ltb-false _ _ within; stand = refl; count = refl; behind = refl; room = ltb-false _ _ room })
