-- What an editor is told: the refusal, or what stands in the row.
use mathlib.Core.Bool.{Bool, true, false}
use mathlib.Core.Path.{◌≡◌, refl, sym, ap, subst, ◌∙◌}
use mathlib.Core.Option.{none, some}
use mathlib.Core.List.{List, ◌∷◌}
use Prim.Native.Nat.{ℕ, zero, suc, ◌≤◌, ◌<◌}
use native.Mathlib.Omega.{arith}
use borrow.Author.Tests.{lt-ltb, le-ltb}
use lib.ListN.{length, length-replicate, length-map}
use Rattle.reading.specs.Reading.{Reading, got, refusal}
use Rattle.tagged.specs.Listing.{Broader, broader_in}
use Rattle.tagged.specs.Levels.{longest, chains, levels}
use Rattle.tagged.specs.Circle.{way_to, circle}
use Rattle.tagged.specs.Write.{passes}
use Rattle.terms.specs.TermRows.{HoldTerms, Terms, Fitting, TermsAs}
use Rattle.tagged.specs.Saved.{Outcome, refusing, over, answered, judged, saved_as}
use Rattle.circles.specs.Saving.{held, PutLevels, SameRow, AnsweredAs, way_from}
use Rattle.tagged.proofs.Refused.{Numbered, refused, numbered}
use Rattle.circles.proofs.MarkWays.{way-start, way-length}

-- ---- the levels or the circle

module _ (broader : Broader) (row after : List ℕ) where
  chains-long : (k : ℕ) → length (chains broader k) ≡ length broader
  unfolding chains
  chains-long zero = length-replicate (length broader) 0
  chains-long (suc k) = length-map broader (longest (chains broader k))

  levels-long : length (levels broader) ≡ length broader
  unfolding levels
  levels-long = chains-long (length broader)

  pub answered-levels : (n : ℕ) (own : List ℕ) → length broader ≡ n → circle broader ≡ none → SameRow own (levels broader) → PutLevels n own row after
      → AnsweredAs broader 0 row after
  unfolding answered
  answered-levels n own long clear same put = rw (clear, put (levels broader) same (levels-long ∙ long), answered) refl

  pub answered-circle : (hops first : ℕ) → 1 ≤ hops → circle broader ≡ some (first ∷ way_to broader first hops first)
      → after ≡ over (way_from broader first hops first) row → AnsweredAs broader hops row after
  unfolding answered
  answered-circle hops first any found put =
      let start = way-start broader first hops any in
      let there : circle broader ≡ some (way_from broader first hops first) = found ∙ ap some start in
      rw (there, put, answered) (rw (way-length broader first hops first) refl)

-- ---- by what was told of the terms

abbrev saved_by : Reading Broader → List ℕ → Outcome
saved_by r row = elim r [ refusal c line ↦ refusing c line row | got broader _ ↦ judged broader row ]

saved-by : (listing row : List ℕ) → saved_as listing row ≡ saved_by (broader_in listing) row
unfolding saved_as
saved-by listing row = refl

module _ (broader : Broader) (row : List ℕ) where
  judged-passes : passes broader ≡ true → judged broader row ≡ refusing 43 0 row
  unfolding judged
  judged-passes is = rw (is, judged) refl

  judged-short : passes broader ≡ false → length row < length broader → judged broader row ≡ refusing 44 0 row
  unfolding judged
  judged-short is less = rw (is, lt-ltb (length row) (length broader) less, judged) refl

  judged_answer : passes broader ≡ false → length broader ≤ length row → judged broader row ≡ answered broader (circle broader) row
  unfolding judged
  judged_answer is le = rw (is, le-ltb (length row) (length broader) le, judged) refl

-- no refusal
abbrev outcome : ℕ → ℕ → List ℕ → Outcome
outcome n r after = record { result = record { number = 0; line = 0; headings = n; circle = r }; row = after }

-- 43, or rows that hold the terms
abbrev Sized : Terms → Broader → Bool → Type 0
Sized t broader b = elim b [ true ↦ (t.number ≡ 43) × (t.line ≡ 0) | false ↦ Fitting t broader ]

-- what is told of good rows
pub record Answerable (t : Terms) (r : Reading Broader) : Type 0 where
  pub broader : Broader
  pub fitting : Fitting t broader
  pub short : (row : List ℕ) → length row < length broader → saved_by r row ≡ refusing 44 0 row
  pub answer : (row : List ℕ) → length broader ≤ length row → saved_by r row ≡ answered broader (circle broader) row

module _ (t : Terms) where
  told-by : (r : Reading Broader) → Numbered r → TermsAs t r → t.number ≡ 0 → Answerable t r
  told-by (refusal c line) (refused low high) (is, at-line) zero_is = absurd (omega (arith, low, is, zero_is))
  told-by (got broader n) num told zero_is = by (passes broader) refl told
    where
      by : (b : Bool) → passes broader ≡ b → Sized t broader b → Answerable t (got broader n)
      by true is told = absurd (omega (arith, told.0, zero_is))
      by false is told = record {
        broader = broader;
        fitting = told;
        short = λ row. judged-short broader row is;
        answer = λ row. judged_answer broader row is;
      }

  refused-by : (r : Reading Broader) (row : List ℕ) → TermsAs t r → (t.number ≡ 0 → ⊥) → refusing t.number t.line row ≡ saved_by r row
  refused-by (refusal c line) row (is, at-line) Some-number = rw (is, at-line) refl
  refused-by (got broader n) row told Some-number = by (passes broader) refl told
    where
      by : (b : Bool) → passes broader ≡ b → Sized t broader b
          → refusing t.number t.line row ≡ judged broader row
      by true is (number, line) = rw (number, line) (sym (judged-passes broader row is))
      by false is fitting = absurd (Some-number fitting.none)

  module _ (listing row : List ℕ) (told : TermsAs t (broader_in listing)) where
    pub saved-refused : (t.number ≡ 0 → ⊥) → refusing t.number t.line row ≡ saved_as listing row
    saved-refused Some-number = refused-by (broader_in listing) row told Some-number ∙ sym (saved-by listing row)

    module _ (zero_is : t.number ≡ 0) where
      abbrev good : Answerable t (broader_in listing)
      good = told-by (broader_in listing) (numbered listing) told zero_is

      pub saved-short : length row < t.headings → refusing 44 0 row ≡ saved_as listing row
      saved-short less = sym (saved-by listing row ∙ good.short row (omega (arith, good.fitting.headings)))

      pub saved-hold : HoldTerms t.from t.to t.headings
      saved-hold = rw good.fitting.headings good.fitting.hold

      pub saved_answer : (r : ℕ) (after : List ℕ) → t.headings ≤ length row → AnsweredAs (held t.from t.to t.headings) r row after
          → outcome t.headings r after ≡ saved_as listing row
      saved_answer r after le answer =
          let f = good.fitting in
          let is : held t.from t.to t.headings ≡ good.broader = ap (held t.from t.to) f.headings ∙ f.rows in
          let as-told : AnsweredAs good.broader r row after = subst (λ (b : Broader). AnsweredAs b r row after) is answer in
          ap (λ (n : ℕ). outcome n r after) f.headings ∙ sym (saved-by listing row ∙ good.answer row (omega (arith, f.headings)) ∙ as-told)
