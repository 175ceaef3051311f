-- What is read one behind another up to a place, records or books, each added to the totals: what the code's loops have done after some of them, there and back.
use mathlib.Core.Bool.{Bool, true, false}
use mathlib.Core.List.{List, [], ◌++◌, append-nil, append_assoc}
use mathlib.Core.Path.{◌≡◌, refl, sym, ap, ◌∙◌}
use Prim.Native.Nat.{ℕ, zero, suc, pred, ◌+◌, ◌≤◌, ◌<◌}
use native.Mathlib.Omega.{arith}
use borrow.Author.Tests.{lt-ltb, le-ltb, ltb-true, ltb-false}
use lib.Dec.{ltb}
use Rattle.reading.specs.Reading.{Reading, got, refusal, ◌then◌}
use Rattle.std.proofs.Common.{Ok, Err}
use Rattle.tallies.specs.declared.Refusal.{Refusal}
use Rattle.reading.proofs.Good.{Good, good, good-got, each, then-good}
use Rattle.reading.proofs.Keeping.{then-got, then-refusal}
use Rattle.tallies.specs.Tallied.{how_many}
use Rattle.tallies.specs.InCode.{AddedAs, TakenBack}
use Rattle.figures.specs.InCode.{over}
use Rattle.tallies.proofs.Tallying.{Sum, added_none, added_more}
use Rattle.tallies.proofs.Tallying.{WithAnswers}
use Rattle.figures.proofs.Books.{how_many-both}
use Rattle.tallies.proofs.Taking.{there_and_back}
use Rattle.tallies.proofs.TallyWays.{adds_refused, adds_got, added_refusal, added_got}

-- what follows may be said in other words
pub then_cong : {A B : Type 0} {f g : A → ℕ → Reading B} (r : Reading A) → ((a : A) (q : ℕ) → f a q ≡ g a q) → ◌then◌ r f ≡ ◌then◌ r g
unfolding ◌then◌
then_cong (got a q) same = same a q
then_cong (refusal c q) same = refl

-- some answers and more of them
both : (some more : List (List ℕ)) → Sum (λ f. how_many f (some ++ more)) (λ f. how_many f some) (λ f. how_many f more)
both some more = record { at = λ f. how_many-both f some more }

pub no_answers : (row : List ℕ) → WithAnswers row [] row
unfolding how_many
no_answers row = added_none row

none_taken : (row : List ℕ) → TakenBack row [] row
unfolding how_many
none_taken row = record { long = refl; total = λ f h. omega arith }

more_taken : (some more : List (List ℕ)) {row row' row'' : List ℕ} → TakenBack row some row' → TakenBack row' more row'' → TakenBack row (some ++ more) row''
more_taken some more one other = record {
  long = other.long ∙ one.long;
  total = λ f h. omega (arith, other.total f (omega (arith, one.long)), one.total f h, how_many-both f some more);
}

less-bound : (e p q bound : ℕ) → p < e → p < q → e ≤ p + bound → e ≤ q + pred bound
less-bound e p q zero here on h = absurd (omega arith)
less-bound e p q (suc bound) here on h = omega arith

-- what stands at a place: where it ends, and its answers
module _ (behind : ℕ → ℕ) (answers : ℕ → List (List ℕ)) where
  over_none : (bound e p : ℕ) → e ≤ p → over behind answers bound e p ≡ []
  unfolding over
  over_none zero e p h = refl
  over_none (suc bound) e p h = simp (over, le-ltb p e h)

  over-more : (bound e p : ℕ) → p < e → e ≤ p + bound → over behind answers bound e p ≡ answers p ++ over behind answers (pred bound) e (behind p)
  unfolding over
  over-more zero e p h l = absurd (omega arith)
  over-more (suc bound) e p h l = simp (over, lt-ltb p e h)

  -- of the answers from `from` to e these stand before p
  pub record Passed (e from p : ℕ) (before : List (List ℕ)) : Type 0 where
    pub bound : ℕ
    pub room : e ≤ p + bound
    pub same : over behind answers e e from ≡ before ++ over behind answers bound e p

  pub passed_none : (e from : ℕ) → Passed e from from []
  passed_none e from = record { bound = e; room = omega arith; same = refl }

  pub passed-more : {e from p q : ℕ} {before : List (List ℕ)} → Passed e from p before → p < e → q ≡ behind p → p < q → Passed e from q (before ++ answers p)
  passed-more {e} {from} {p} {q} {before} was h end onward = record {
    bound = pred was.bound;
    room = less-bound e p q was.bound h onward was.room;
    same = was.same ∙ ap (λ (l : List (List ℕ)). before ++ l) (over-more was.bound e p h was.room)
        ∙ rw (← end) (sym (append_assoc before (answers p) (over behind answers (pred was.bound) e q)));
  }

  pub passed-all : {e from p : ℕ} {before : List (List ℕ)} → Passed e from p before → e ≤ p → over behind answers e e from ≡ before
  passed-all {e} {from} {p} {before} was h = was.same ∙ rw (over_none was.bound e p h) (append-nil before)

  -- ---- taken back: what the loop has done, from the row that there was to the one that there is

  pub record Going (e from : ℕ) (row : List ℕ) (p : ℕ) (row' : List ℕ) : Type 0 where
    pub before : List (List ℕ)
    pub taken : TakenBack row before row'
    pub passed : Passed e from p before

  pub going : (e from : ℕ) (row : List ℕ) → Going e from row from row
  going e from row = record { before = []; taken = none_taken row; passed = passed_none e from }

  pub going_on_lem : {e from p q : ℕ} {row row' : List ℕ} (row'' : List ℕ) → Going e from row p row' → p < e → q ≡ behind p → p < q → TakenBack row' (answers p) row'' → Going e from row q row''
  going_on_lem {p} row'' is h end onward back =
      record { before = is.before ++ answers p; taken = more_taken is.before (answers p) is.taken back; passed = passed-more is.passed h end onward }

  pub gone : {e from p : ℕ} {row row' : List ℕ} → Going e from row p row' → e ≤ p → TakenBack row (over behind answers e e from) row'
  gone is h = rw (passed-all is.passed h) is.taken

  -- ---- added: one thing that is read at a place adds to a row; e is where the last one ends

  module _ (e : ℕ) (one : List ℕ → ℕ → Reading (List ℕ)) where
    unfoldable pub repeated : ℕ → List ℕ → ℕ → Reading (List ℕ)
    repeated zero row p = got row p
    repeated (suc bound) row p = elim (ltb p e) [ false ↦ got row p | true ↦ ◌then◌ (one row p) λ row' q. repeated bound row' q ]

    repeated_none : (bound : ℕ) (row : List ℕ) (p : ℕ) → e ≤ p → repeated bound row p ≡ got row p
    unfolding repeated
    repeated_none zero row p h = refl
    repeated_none (suc bound) row p h = simp (repeated, le-ltb p e h)

    repeated_more : (bound : ℕ) (row : List ℕ) (p : ℕ) → p < e → e ≤ p + bound → repeated bound row p ≡ ◌then◌ (one row p) (repeated (pred bound))
    unfolding repeated
    repeated_more zero row p h l = absurd (omega arith)
    repeated_more (suc bound) row p h l = simp (repeated, lt-ltb p e h)

    -- what it adds, and where it ends
    pub record Counts (row : List ℕ) (p : ℕ) (row' : List ℕ) (q : ℕ) : Type 0 where
      pub added : WithAnswers row (answers p) row'
      pub end : q ≡ behind p
      pub onward : p < q
      pub within : q ≤ e

    abbrev pub EachCounts : Type 0
    EachCounts = (row : List ℕ) (p : ℕ) → p < e → Good (Counts row p) (one row p)

    -- so all of them do
    pub all-count : EachCounts → (bound bound' : ℕ) (row : List ℕ) (p : ℕ) → p ≤ e → e ≤ p + bound → e ≤ p + bound'
        → Good (λ row' q. WithAnswers row (over behind answers bound' e p) row' × (q ≡ e)) (repeated bound row p)
    unfolding repeated
    all-count law zero bound' row p h l l' = good {a = row} {p = p} (rw (over_none bound' e p (omega arith)) (no_answers row), omega arith)
    all-count law (suc bound) bound' row p h l l' = by (ltb p e) refl (all-count law bound (pred bound'))
      where
        by : (b : Bool) → ltb p e ≡ b
            → ((row : List ℕ) (p : ℕ) → p ≤ e → e ≤ p + bound → e ≤ p + pred bound'
            → Good (λ row' q. WithAnswers row (over behind answers (pred bound') e p) row' × (q ≡ e)) (repeated bound row p))
            → Good (λ row' q. WithAnswers row (over behind answers bound' e p) row' × (q ≡ e))
            (elim b [ false ↦ got row p | true ↦ ◌then◌ (one row p) λ row' q. repeated bound row' q ])
        by false is others =
            let past = ltb-false p e is in
            good {a = row} {p = p} (rw (over_none bound' e p past) (no_answers row), omega arith)
        by true is others =
            let here = ltb-true p e is in
            then-good (law row p here) λ row' q one-is.
            let rest : e ≤ q + bound = omega (arith, one-is.onward) in
            each (λ row'' r (more, end). (
              rw (over-more bound' e p here l', ← one-is.end) (added_more one-is.added (both (answers p) (over behind answers (pred bound') e q)) more),
              end,
            ))
            (others row' q one-is.within rest (less-bound e p q bound' here one-is.onward l'))

    -- What is left of t: all from p on, to be added to the row that there is now; what was added can be taken back
    pub record Ahead (t : Reading (List ℕ)) (row : List ℕ) (from p : ℕ) (row' : List ℕ) : Type 0 where
      pub bound : ℕ
      pub enough : e ≤ p + bound
      pub inside : p ≤ e
      pub same : t ≡ repeated bound row' p
      pub before : List (List ℕ)
      pub added : WithAnswers row before row'
      pub passed : (s : ℕ) → p ≤ s → Passed s from p before

    pub ahead_all : (bound : ℕ) (row : List ℕ) (from : ℕ) {t : Reading (List ℕ)} → from ≤ e → e ≤ from + bound → t ≡ repeated bound row from → Ahead t row from from row
    ahead_all bound row from h l same = record {
      bound = bound;
      enough = l;
      inside = h;
      same = same;
      before = [];
      added = no_answers row;
      passed = λ s _. passed_none s from;
    }

    module _ {t : Reading (List ℕ)} {row : List ℕ} {from p : ℕ} {row' : List ℕ} (is : Ahead t row from p row') where
      -- none is
      pub ahead_none : e ≤ p → AddedAs t (Ok p) row row'
      ahead_none h = adds_got row (is.same ∙ repeated_none is.bound row' p h)

      module _ (here : p < e) (row'' : List ℕ) where
        -- the next is refused, and what was added before is taken back
        pub ahead_refused : (r : Refusal) (row''' : List ℕ) → AddedAs (one row' p) (Err r) row' row'' → TakenBack row'' (over behind answers p p from) row''' → AddedAs t (Err r) row row'''
        ahead_refused r row''' adds back =
            let told = added_refusal row' r adds in
            let back' : TakenBack row' is.before row''' = rw (told.1, passed-all (is.passed p (omega arith)) (omega arith)) at back in
            adds_refused row r (is.same ∙ repeated_more is.bound row' p here is.enough ∙ then-refusal _ told.0) (there_and_back is.before row row' row''' is.added back')

        -- it is read
        module _ (law : EachCounts) {q : ℕ} (adds : AddedAs (one row' p) (Ok q) row' row'') where
          pub ahead_counts : Counts row' p row'' q
          ahead_counts = good-got (law row' p here) (added_got row' adds)

          pub ahead_more : Ahead t row from q row''
          ahead_more =
              let counts = ahead_counts in
              record {
                bound = pred is.bound;
                enough = less-bound e p q is.bound here counts.onward is.enough;
                inside = counts.within;
                same = is.same ∙ repeated_more is.bound row' p here is.enough ∙ then-got _ (added_got row' adds);
                before = is.before ++ answers p;
                added = added_more is.added (both is.before (answers p)) counts.added;
                passed = λ s h. passed-more (is.passed s (omega (arith, counts.onward))) (omega (arith, counts.onward)) counts.end counts.onward;
              }
