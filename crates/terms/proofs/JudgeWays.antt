-- What a line is by its number, and the steps of a walk over the lines by places.
use mathlib.Core.Bool.{Bool, true, false}
use mathlib.Core.Path.{◌≡◌, refl, sym, ap, ◌∙◌}
use mathlib.Core.List.{List, [], ◌∷◌}
use Prim.Native.Nat.{ℕ, suc, ◌+◌, ◌-◌, ◌≤◌, ◌<◌}
use native.Mathlib.Omega.{arith}
use borrow.Author.Tests.{lt-ltb, le-ltb}
use lib.Dec.{eqb}
use lib.ListN.{length, get_or, drop, take, length-drop}
use Rattle.std.specs.Prelude.{Some, None}
use Rattle.tagged.specs.Lines.{Name, Line, heading, broader, narrower, other, newline, is_name, same, bt, nt, line_of, lines_from, lines_of}
use Rattle.tagged.specs.Listing.{headings_of}
use Rattle.terms.specs.Places.{run_of, end_of}
use Rattle.terms.specs.InCode.{line_by, kind_told}
use Rattle.terms.specs.Judging.{kind_of, worth, good_lines, FormsAs, next_heading, name_at, line_at}
use Rattle.terms.specs.declared.lines.Form.{Form}
use Rattle.terms.specs.declared.lines.Form.TheVariants.{Heading, Broader, Narrower, Other}
use Rattle.terms.proofs.LineWays.{end-past, end_later, end_after, line-at, line-cut-at, lines_past}
use Rattle.terms.proofs.NameWays.{bytes-none, name-space}
use Rattle.terms.proofs.TagWays.{line-broader, line_no_broader, line-narrower, line_no_narrower, line-heading, line_other}

-- ---- a line ends in the listing

run-within : (xs : List ℕ) → run_of xs ≤ length xs
unfolding run_of
run-within [] = omega arith
run-within (b ∷ bs) = by (eqb b newline) (run-within bs)
  where
    by : (t : Bool) → run_of bs ≤ length bs → (elim t [ true ↦ 0 | false ↦ suc (run_of bs) ]) ≤ suc (length bs)
    by true rest = omega arith
    by false rest = omega arith

pub end-within : (s : List ℕ) (p : ℕ) → p ≤ length s → end_of s p ≤ length s
unfolding end_of
end-within s p inside = omega (arith, run-within (drop p s), length-drop p s)

-- ---- what a line is, by its number

module _ (form : Form) (bs : List ℕ) (is : line_by form bs ≡ line_of bs) where
  pub kind_heading : form ≡ Heading → 1 ≡ kind_of (line_of bs)
  kind_heading e = rw (← is, e) refl

  pub kind_broader : form ≡ Broader → 2 ≡ kind_of (line_of bs)
  kind_broader e = rw (← is, e) refl

  pub kind_narrower : form ≡ Narrower → 3 ≡ kind_of (line_of bs)
  kind_narrower e = rw (← is, e) refl

  pub kind_other : form ≡ Other → 0 ≡ kind_of (line_of bs)
  kind_other e = rw (← is, e) refl

pub kind-told : (form : Form) (bs : List ℕ) → line_by form bs ≡ line_of bs → kind_told form ≡ kind_of (line_of bs)
kind-told Heading bs is = kind_heading Heading bs is refl
kind-told Broader bs is = kind_broader Broader bs is refl
kind-told Narrower bs is = kind_narrower Narrower bs is refl
kind-told Other bs is = kind_other Other bs is refl

-- no heading's form, no heading's kind
pub told-not-1 : (form : Form) {kind : ℕ} → kind_told form ≡ kind → (form ≡ Heading → ⊥) → kind ≡ 1 → ⊥
told-not-1 Heading told not is = not refl
told-not-1 Broader told not is = absurd (omega arith)
told-not-1 Narrower told not is = absurd (omega arith)
told-not-1 Other told not is = absurd (omega arith)

pub told-related : (form : Form) {kind : ℕ} → kind_told form ≡ kind → (form ≡ Heading → ⊥) → (form ≡ Other → ⊥) → 2 ≤ kind
told-related Heading told not never = absurd (not refl)
told-related Broader told not never = omega arith
told-related Narrower told not never = omega arith
told-related Other told not never = absurd (never refl)

-- by its bytes
pub data Formed (bs : List ℕ) : Type 0 where
  is-heading : line_of bs ≡ heading bs → Formed bs
  is-broader : same (take 5 bs) bt ≡ true → line_of bs ≡ broader (drop 5 bs) → Formed bs
  is-narrower : same (take 5 bs) nt ≡ true → line_of bs ≡ narrower (drop 5 bs) → Formed bs
  is-other : line_of bs ≡ other → Formed bs

pub formed : (bs : List ℕ) → Formed bs
formed bs = by (same (take 5 bs) bt) refl (same (take 5 bs) nt) refl (is_name bs) refl (is_name (drop 5 bs)) refl
  where
    by : (b : Bool) → same (take 5 bs) bt ≡ b → (n : Bool) → same (take 5 bs) nt ≡ n → (w : Bool) → is_name bs ≡ w → (d : Bool) → is_name (drop 5 bs) ≡ d → Formed bs
    by true b n e w f true d = is-broader b (sym (line-broader bs b d))
    by true b n e w f false d = is-other (sym (line_no_broader bs b d))
    by false b true e w f true d = is-narrower e (sym (line-narrower bs b e d))
    by false b true e w f false d = is-other (sym (line_no_narrower bs b e d))
    by false b false e true f d g = is-heading (sym (line-heading bs b e f))
    by false b false e false f d g = is-other (sym (line_other bs b e f))

-- a line with the number 1 is a heading with all its bytes
pub heading-bytes : (bs : List ℕ) → kind_of (line_of bs) ≡ 1 → line_of bs ≡ heading bs
heading-bytes bs is = by (formed bs)
  where
    by : Formed bs → line_of bs ≡ heading bs
    by (is-heading e) = e
    by (is-broader t e) = absurd (omega (arith, sym is ∙ ap kind_of e))
    by (is-narrower t e) = absurd (omega (arith, sym is ∙ ap kind_of e))
    by (is-other e) = absurd (omega (arith, sym is ∙ ap kind_of e))

pub kind_small : (l : Line) → kind_of l ≤ 3
kind_small (heading x) = omega arith
kind_small (broader x) = omega arith
kind_small (narrower x) = omega arith
kind_small other = omega arith

-- ---- what a line is worth behind k headings

abbrev relation_worth : Bool → ℕ
relation_worth t = elim t [ true ↦ 0 | false ↦ 1 ]

module _ (k : ℕ) where
  worth_bool : (t : Bool) → relation_worth t ≤ 2
  worth_bool true = omega arith
  worth_bool false = omega arith

  pub worth-small : (l : Line) → worth k l ≤ 2
  worth-small (heading x) = omega arith
  worth-small (broader x) = worth_bool (eqb k 0)
  worth-small (narrower x) = worth_bool (eqb k 0)
  worth-small other = omega arith

  module _ (rest : List Line) where
    bad_bool : (t : Bool) → relation_worth t ≡ 0 → ◌≡◌ {A = ℕ} (elim t [ true ↦ 0 | false ↦ suc (good_lines k rest) ]) 0
    bad_bool true is = refl
    bad_bool false is = absurd (omega (arith, is))

    -- a line not of this form
    pub good_none : (l : Line) → worth k l ≡ 0 → good_lines k (l ∷ rest) ≡ 0
    unfolding good_lines
    good_none (heading x) is = absurd (omega (arith, is))
    good_none (broader x) is = bad_bool (eqb k 0) is
    good_none (narrower x) is = bad_bool (eqb k 0) is
    good_none other is = refl

    good_bool : (t : Bool) → (relation_worth t ≡ 0 → ⊥) → ◌≡◌ {A = ℕ} (elim t [ true ↦ 0 | false ↦ suc (good_lines k rest) ]) (suc (good_lines (k + (relation_worth t - 1)) rest))
    good_bool true not-0 = absurd (not-0 refl)
    good_bool false not-0 =
        let e : k + (1 - 1) ≡ k = omega arith in
        ap (λ n. suc (good_lines n rest)) (sym e)

    -- one that is
    pub good-some : (l : Line) → (worth k l ≡ 0 → ⊥) → good_lines k (l ∷ rest) ≡ suc (good_lines (k + (worth k l - 1)) rest)
    unfolding good_lines
    good-some (heading x) not-0 =
        let e : k + (2 - 1) ≡ suc k = omega arith in
        ap (λ n. suc (good_lines n rest)) (sym e)
    good-some (broader x) not-0 = good_bool (eqb k 0) not-0
    good-some (narrower x) not-0 = good_bool (eqb k 0) not-0
    good-some other not-0 = absurd (not-0 refl)

    heads_bool : (t : Bool) → (relation_worth t ≡ 0 → ⊥) → length (headings_of rest) ≡ relation_worth t - 1 + length (headings_of rest)
    heads_bool true not-0 = absurd (not-0 refl)
    heads_bool false not-0 = omega arith

    pub heads_some : (l : Line) → (worth k l ≡ 0 → ⊥) → length (headings_of (l ∷ rest)) ≡ worth k l - 1 + length (headings_of rest)
    unfolding headings_of
    heads_some (heading x) not-0 = omega arith
    heads_some (broader x) not-0 = heads_bool (eqb k 0) not-0
    heads_some (narrower x) not-0 = heads_bool (eqb k 0) not-0
    heads_some other not-0 = absurd (not-0 refl)

-- ---- the heading above the next line

pub heading-next : (g : Name) (bs : List ℕ) → kind_of (line_of bs) ≡ 1 → bs ≡ next_heading g (line_of bs)
heading-next g bs is = sym (ap (next_heading g) (heading-bytes bs is))

pub heading_stays : (g : Name) (l : Line) → (kind_of l ≡ 1 → ⊥) → g ≡ next_heading g l
heading_stays g (heading x) not-1 = absurd (not-1 refl)
heading_stays g (broader x) not-1 = refl
heading_stays g (narrower x) not-1 = refl
heading_stays g other not-1 = refl

-- ---- by places

-- the lines from place p on
abbrev pub lines_at : List ℕ → ℕ → List Line
lines_at s p = lines_from [] (drop p s)

pub lines_all : (s : List ℕ) → lines_of s ≡ lines_at s 0
unfolding lines_of
lines_all s = refl

-- before the first heading
pub name-past : (s : List ℕ) → name_at s (length s) ≡ []
name-past s = bytes-none s (length s) (end_of s (length s)) (omega (arith, end-past s (length s) (omega arith)))

-- ---- the forms of all lines: what is so at place `at`, behind so many good lines and headings

some-one : {n m : ℕ} → Some n ≡ Some m → m ≡ n
some-one e = cc

pub record FormsSoFar (s : List ℕ) (lines headings at : ℕ) : Type 0 where
  pub good : good_lines 0 (lines_of s) ≡ lines + good_lines headings (lines_at s at)
  pub all : length (lines_of s) ≡ lines + length (lines_at s at)
  pub heads : length (headings_of (lines_of s)) ≡ headings + length (headings_of (lines_at s at))

pub forms_start : (s : List ℕ) → FormsSoFar s 0 0 0
unfolding lines_of
forms_start s = record { good = omega arith; all = omega arith; heads = omega arith }

module _ (s : List ℕ) (lines headings at : ℕ) (so : FormsSoFar s lines headings at) where
  pub forms_end : length s ≤ at → FormsAs (record { lines = lines; headings = Some headings }) (lines_of s)
  unfolding good_lines headings_of
  forms_end over =
      let none = lines_past s at over in
      let good : good_lines 0 (lines_of s) ≡ lines = omega (arith, so.good, ap (good_lines headings) none) in
      record {
        good = sym good;
        bad = sym (le-ltb (good_lines 0 (lines_of s)) (length (lines_of s)) (omega (arith, so.all, ap length none)));
        headings = λ n is. some-one is ∙ omega (arith, so.heads, ap (λ l. length (headings_of l)) none);
      }

  told-bad : good_lines headings (lines_at s at) ≡ 0 → 0 < length (lines_at s at) → FormsAs (record { lines = lines; headings = None }) (lines_of s)
  told-bad none some =
      let good : good_lines 0 (lines_of s) ≡ lines = omega (arith, so.good) in
      record {
        good = sym good;
        bad = sym (lt-ltb (good_lines 0 (lines_of s)) (length (lines_of s)) (omega (arith, so.all)));
        headings = λ n e. absurd (let z : ◌≡◌ {A = ℕ} 0 1 = cc in omega arith);
      }

  pub forms_cut : at < length s → length s ≤ end_of s at → FormsAs (record { lines = lines; headings = None }) (lines_of s)
  unfolding good_lines
  forms_cut some over =
      let one = line-cut-at s at some over in
      told-bad (ap (good_lines headings) one) (omega (arith, ap length one))

  module _ (inside : end_of s at < length s) where
    pub forms_bad : worth headings (line_at s at) ≡ 0 → FormsAs (record { lines = lines; headings = None }) (lines_of s)
    forms_bad is =
        let one = line-at s at inside in
        told-bad (ap (good_lines headings) one ∙ good_none headings (lines_at s (end_of s at + 1)) (line_at s at) is) (omega (arith, ap length one))

    pub forms_on : (worth headings (line_at s at) ≡ 0 → ⊥) → FormsSoFar s (lines + 1) (headings + (worth headings (line_at s at) - 1)) (end_of s at + 1)
    forms_on not-0 =
        let one = line-at s at inside in
        let rest = lines_at s (end_of s at + 1) in
        record {
          good = omega (arith, so.good, ap (good_lines headings) one, good-some headings rest (line_at s at) not-0);
          all = omega (arith, so.all, ap length one);
          heads = omega (arith, so.heads, ap (λ l. length (headings_of l)) one, heads_some headings rest (line_at s at) not-0);
        }

-- ---- no heading opens with a space

heading-named : (bs : List ℕ) → kind_of (line_of bs) ≡ 1 → is_name bs ≡ true
heading-named bs is = by (same (take 5 bs) bt) refl (same (take 5 bs) nt) refl (is_name bs) refl (is_name (drop 5 bs)) refl
  where
    by : (b : Bool) → same (take 5 bs) bt ≡ b → (n : Bool) → same (take 5 bs) nt ≡ n → (w : Bool) → is_name bs ≡ w → (d : Bool) → is_name (drop 5 bs) ≡ d → is_name bs ≡ true
    by b e n f true g d h = g
    by true b n e false f true d = absurd (omega (arith, is, ap kind_of (line-broader bs b d)))
    by true b n e false f false d = absurd (omega (arith, is, ap kind_of (line_no_broader bs b d)))
    by false b true e false f true d = absurd (omega (arith, is, ap kind_of (line-narrower bs b e d)))
    by false b true e false f false d = absurd (omega (arith, is, ap kind_of (line_no_narrower bs b e d)))
    by false b false e false f d g = absurd (omega (arith, is, ap kind_of (line_other bs b e f)))

pub spaced : (s : List ℕ) (p : ℕ) → p < length s → get_or s p 0 ≡ 32 → kind_of (line_at s p) ≡ 1 → ⊥
spaced s p there is kind =
    let on = end_later s p there (λ e. omega arith) in
    let later = end_after s (p + 1) in
    let none = name-space s p (end_of s p) (omega arith) there is in
    let z : true ≡ false = sym (heading-named (name_at s p) kind) ∙ none in
    let o : ◌≡◌ {A = ℕ} 0 1 = cc in
    omega arith
