-- An answer's symbols added to the totals: what the code has done after some of them, one lemma for each way through it.
use mathlib.Core.Bool.{Bool, true, false}
use mathlib.Core.List.{List, [], ◌∷◌}
use mathlib.Core.Path.{◌≡◌, refl, sym, ap, ◌∙◌}
use Prim.Native.Nat.{ℕ, suc, ◌+◌, ◌*◌, ◌<◌}
use native.Mathlib.Decide.{ℕ_discrete}
use native.Mathlib.Numerals.{add-one}
use native.Mathlib.Omega.{arith}
use borrow.Author.Tests.{le-leb, lt-leb}
use Rattle.std.proofs.Common.{Ok, Err}
use lib.Dec.{leb}
use lib.ListN.{length, get_or, set}
use Rattle.reading.specs.Reading.{Reading, got, refusal, refuse◌at◌if◌else◌}
use Rattle.reading.specs.Bytes.{big_endian}
use Rattle.reading.specs.Answer.{keeping, nothing}
use Rattle.reading.proofs.Keeping.{kept-got, kept-refusal, passed, failed-test}
use Rattle.book.specs.TreeAt.{is_in}
use Rattle.tallies.specs.Tallied.{most_total, tallied}
use Rattle.tallies.specs.Tallied.{symbols_at}
use Rattle.tallies.specs.InCode.{number_of, left_of, AddedAs, Grown, TakenBack, answer_over}
use Rattle.tallies.specs.declared.Refusal.{Refusal}
use Rattle.tallies.specs.declared.Fault.{Fault}
use Rattle.tallies.specs.declared.Fault.TheVariants.{Layout, PastRow, PastBits}
use Rattle.tallies.proofs.Tallying.{is_in-same, is_in-other}
use Rattle.tallies.proofs.Tallying.{WithAnswers}
use Rattle.tallies.proofs.Taking.{none-new, is-new, not_new, again_added, new_added, none_added, there_and_back}

-- the code's answers,
module _ {t : Reading (List ℕ)} (row : List ℕ) {row' : List ℕ} where
  pub adds_refused : (r : Refusal) → t ≡ refusal (number_of r.fault) r.place → row' ≡ row → AddedAs t (Err r) row row'
  unfolding keeping left_of
  adds_refused r e is = rw e (refl, is)

  pub adds_got : {p : ℕ} → t ≡ got row' p → AddedAs t (Ok p) row row'
  unfolding keeping left_of
  adds_got e = rw e (refl, refl)

  -- and what they tell
  pub added_refusal : (r : Refusal) → AddedAs t (Err r) row row' → (t ≡ refusal (number_of r.fault) r.place) × (row' ≡ row)
  unfolding left_of
  added_refusal r is =
      let told = kept-refusal nothing t is.0 in
      (told, rw told at is.1)

  pub added_got : {q : ℕ} → AddedAs t (Ok q) row row' → t ≡ got row' q
  unfolding left_of
  added_got {q} is =
      let read = kept-got nothing t is.0 in
      let same : row' ≡ read.0 = rw read.1 at is.1 in
      read.1 ∙ ap (λ (r : List ℕ). got r q) (sym same)

-- one symbol, f at p, of which k more follow: b says whether it was seen in this answer
module _ (bs row seen : List ℕ) (k p : ℕ) where
  abbrev tested : ℕ → Reading (List ℕ)
  tested f =
      refuse◌at◌if◌else◌ 61 p (leb (length row) f) λ _.
      refuse◌at◌if◌else◌ 62 p (leb most_total (get_or row f 0)) λ _.
      tallied bs (set row f (suc (get_or row f 0))) (f ∷ seen) k (p + 2)

  abbrev counted : ℕ → Bool → Reading (List ℕ)
  counted f b = elim b [ true ↦ tallied bs row seen k (p + 2) | false ↦ tested f ]

  by_flag : (f : ℕ) (b : Bool) → f ≡ big_endian bs p → is_in f seen ≡ b → tallied bs row seen (suc k) p ≡ counted f b
  unfolding tallied
  by_flag f b is told = sym (ap (λ (g : ℕ). counted g (is_in g seen)) is) ∙ ap (counted f) told

-- What is left of t after i symbols of an answer: `left` from p on, to be added to the row that there is now
pub record Left (bs row : List ℕ) (from : ℕ) (t : Reading (List ℕ)) (i left p : ℕ) (now-row : List ℕ) : Type 0 where
  pub seen : List ℕ
  pub told : (x : ℕ) → is_in x seen ≡ is_in x (symbols_at bs i from)
  pub place : p ≡ from + 2 * i
  pub added : WithAnswers row (answer_over bs i from) now-row
  pub same : t ≡ tallied bs now-row seen left p

-- at first all
pub all_left_lem : (bs row : List ℕ) (count from left : ℕ) → left ≡ count → Left bs row from (tallied bs row [] count from) 0 left from row
unfolding symbols_at
all_left_lem bs row count from left all = record {
  seen = [];
  told = λ x. refl;
  place = omega arith;
  added = none_added bs row from;
  same = ap (λ (k : ℕ). tallied bs row [] k from) (sym all);
}

module _ {bs row : List ℕ} {from : ℕ} {t : Reading (List ℕ)} {i left p : ℕ} {row' : List ℕ} (is : Left bs row from t i left p row') where
  -- at last none
  pub none_left : left ≡ 0 → AddedAs t (Ok p) row row'
  unfolding tallied
  none_left none = adds_got row (is.same ∙ ap (λ (k : ℕ). tallied bs row' is.seen k p) none)

  -- one more, f
  module _ (k i' : ℕ) (more : left ≡ suc k) (next : i' ≡ suc i) (f : ℕ) (f-is : f ≡ big_endian bs p) where
    by_tests : (b : Bool) → is_in f (symbols_at bs i from) ≡ b → t ≡ counted bs row' is.seen k p f b
    by_tests b flag = is.same ∙ ap (λ (j : ℕ). tallied bs row' is.seen j p) more ∙ by_flag bs row' is.seen k p f b f-is (is.told f ∙ flag)

    -- it stands before
    pub seen-before : is_in f (symbols_at bs i from) ≡ true → {p' : ℕ} → p' ≡ p + 2 → Left bs row from t i' k p' row'
    seen-before flag behind = rw behind (record {
      seen = is.seen;
      told = λ x. is.told x ∙ sym (none-new bs i i' from p f next is.place f-is flag x);
      place = omega (arith, is.place);
      added = again_added bs i i' from p f next is.place f-is flag is.added;
      same = by_tests true flag;
    })

    module _ (flag : is_in f (symbols_at bs i from) ≡ false) where
      to-total : f < length row' → t ≡ refuse◌at◌if◌else◌ 62 p (leb most_total (get_or row' f 0)) (λ _. tallied bs (set row' f (suc (get_or row' f 0))) (f ∷ is.seen) k (p + 2))
      to-total inside = by_tests false flag ∙ passed 61 p (lt-leb (length row') f inside)

      -- the row ends before it, or its total cannot grow; what was added is taken back
      pub refused_as : (fault : Fault) {same : List ℕ} (row'' : List ℕ) → Grown f row' (Err fault) same → TakenBack same (answer_over bs i from) row''
          → AddedAs t (Err (record { fault = fault; place = p })) row row''
      unfolding most_total
      refused_as PastRow {same} row'' (over, left_so) back =
          let back' : TakenBack row' (answer_over bs i from) row'' = rw left_so at back in
          adds_refused row (record { fault = PastRow; place = p }) (by_tests false flag ∙ failed-test 61 p _ (le-leb (length row') f over)) (there_and_back (answer_over bs i from) row row' row'' is.added back')
      refused_as PastBits {same} row'' (inside, most, left_so) back =
          let back' : TakenBack row' (answer_over bs i from) row'' = rw left_so at back in
          adds_refused row (record { fault = PastBits; place = p }) (to-total inside ∙ failed-test 62 p _ (le-leb 4294967295 (get_or row' f 0) most)) (there_and_back (answer_over bs i from) row row' row'' is.added back')
      refused_as Layout row'' none back = absurd none

      -- it counts
      pub counts : {grown : List ℕ} {p' : ℕ} → Grown f row' (Ok tt) grown → p' ≡ p + 2 → Left bs row from t i' k p' grown
      unfolding most_total is_in
      counts (inside, small, more_by_one) behind = rw (behind, more_by_one, add-one) (record {
        seen = f ∷ is.seen;
        told = λ x. by x (ℕ_discrete x f);
        place = omega (arith, is.place);
        added = new_added bs i i' from p f next is.place f-is flag row' is.added inside;
        same = to-total inside ∙ passed 62 p (lt-leb 4294967295 (get_or row' f 0) small);
      })
        where
          by : (x : ℕ) → Dec (x ≡ f) → is_in x (f ∷ is.seen) ≡ is_in x (symbols_at bs i' from)
          by x (yes e) = is_in-same is.seen e ∙ sym (is-new bs i i' from p f next is.place f-is e)
          by x (no n) = is_in-other is.seen n ∙ is.told x ∙ sym (not_new bs i i' from p f next is.place f-is n)
