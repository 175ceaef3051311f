-- What the lines of a good listing give, one after the other: its headings, and the relations so far with those still to come.
use mathlib.Core.Bool.{Bool, true, false, ◌&&◌}
use mathlib.Core.Path.{◌≡◌, refl, sym, ap, ◌∙◌}
use mathlib.Core.List.{List, [], ◌∷◌, ◌++◌, append_assoc, append-nil}
use Prim.Native.Nat.{ℕ, suc, ◌<◌}
use native.Mathlib.Omega.{arith}
use borrow.Author.Tests.{eq-eqb, ne_eqb, eqb-false}
use lib.Dec.{eqb}
use lib.ListN.{length}
use Rattle.reading.specs.Reading.{Reading, got, refuse◌at◌if◌else◌}
use Rattle.reading.proofs.Good.{Good, good, refused, good-got, each, whenever, then-good, unless}
use Rattle.tagged.specs.Lines.{Name, Line, heading, broader, narrower, other, lines_of}
use Rattle.tagged.specs.Listing.{Relation, Lists, Broader, number_of, headings_of, relation, lists_from, lists_of}
use Rattle.tagged.specs.Listing.{broader_of, broader_from, broader_in}
use Rattle.tagged.proofs.Accepted.{Known, more, mirrors-known}

-- ---- what all lines give

module _ (headings : List Name) (relations : List Relation) where
  -- the headings so far and those of the lines to come; the relations so far and others
  abbrev Given : List Line → Lists → Type 0
  Given lines l = (l.headings ≡ headings ++ headings_of lines) × ((later : List Relation) × (l.relations ≡ relations ++ later))

given : (headings : List Name) (relations : List Relation) (n : ℕ) (lines : List Line)
    → Good (λ l q. Given headings relations lines l) (lists_from headings relations n lines)
unfolding lists_from headings_of
given headings relations n [] = good (sym (append-nil headings), ([], sym (append-nil relations)))
given headings relations n (heading name ∷ rest) =
    unless _ _ _ λ _ _.
    each (λ l q g. (g.0 ∙ append_assoc headings (name ∷ []) (headings_of rest), g.1)) (given (headings ++ (name ∷ [])) relations (suc n) rest)
given headings relations n (broader name ∷ rest) =
    unless _ _ _ λ _ _.
    let r = relation n headings true name in
    each (λ l q g. (g.0, (r ∷ g.1.0, g.1.1 ∙ append_assoc relations (r ∷ []) g.1.0))) (given headings (relations ++ (r ∷ [])) (suc n) rest)
given headings relations n (narrower name ∷ rest) =
    unless _ _ _ λ _ _.
    let r = relation n headings false name in
    each (λ l q g. (g.0, (r ∷ g.1.0, g.1.1 ∙ append_assoc relations (r ∷ []) g.1.0))) (given headings (relations ++ (r ∷ [])) (suc n) rest)
given headings relations n (other ∷ rest) = refused

module _ (headings : List Name) (relations : List Relation) (n : ℕ) (lines : List Line) {l : Lists} {last : ℕ} where
  pub all-headings : lists_from headings relations n lines ≡ got l last → l.headings ≡ headings ++ headings_of lines
  all-headings is = (good-got (given headings relations n lines) is).0

  pub more-relations : lists_from headings relations n lines ≡ got l last → (later : List Relation) × (l.relations ≡ relations ++ later)
  more-relations is = (good-got (given headings relations n lines) is).1

-- ---- one line that is not refused

-- the test was passed, and the others follow
passed : {A : Type 0} (c p : ℕ) (t : Bool) (next : Unit {0} → Reading A) {a : A} {q : ℕ}
    → refuse◌at◌if◌else◌ c p t next ≡ got a q → (t ≡ false) × (next tt ≡ got a q)
unfolding refuse◌at◌if◌else◌
passed c p true next is = absurd (let z : ◌≡◌ {A = ℕ} 0 1 = cc in omega arith)
passed c p false next is = (refl, is)

module _ (headings : List Name) (relations : List Relation) (n : ℕ) (name : Name) (rest : List Line) {l : Lists} {last : ℕ} where
  pub past-heading : lists_from headings relations n (heading name ∷ rest) ≡ got l last → lists_from (headings ++ (name ∷ [])) relations (suc n) rest ≡ got l last
  unfolding lists_from
  past-heading is = (passed _ _ _ _ is).1

  pub past-broader : lists_from headings relations n (broader name ∷ rest) ≡ got l last
      → (length headings ≡ 0 → ⊥) × (lists_from headings (relations ++ (relation n headings true name ∷ [])) (suc n) rest ≡ got l last)
  unfolding lists_from
  past-broader is = let (t, on) = passed _ _ _ _ is in (eqb-false (length headings) 0 t, on)

  pub past-narrower : lists_from headings relations n (narrower name ∷ rest) ≡ got l last
      → lists_from headings (relations ++ (relation n headings false name ∷ [])) (suc n) rest ≡ got l last
  unfolding lists_from
  past-narrower is = (passed _ _ _ _ is).1

pub past-other : (headings : List Name) (relations : List Relation) (n : ℕ) (rest : List Line) {l : Lists} {last : ℕ}
    → lists_from headings relations n (other ∷ rest) ≡ got l last → ⊥
unfolding lists_from
past-other headings relations n rest is = let z : ◌≡◌ {A = ℕ} 0 1 = cc in omega arith

-- ---- a good listing

-- what all lines of a good listing give
pub record Read (s : List ℕ) (terms : Broader) : Type 0 where
  pub lists : Lists
  pub last : ℕ
  pub read : lists_from [] [] 1 (lines_of s) ≡ got lists last
  pub known : Known lists.headings lists.relations
  pub names : lists.headings ≡ headings_of (lines_of s)
  pub told : terms ≡ broader_from lists (length lists.headings) 0

read-good : (s : List ℕ) → Good (λ terms q. Read s terms) (broader_in s)
unfolding broader_in lists_of
read-good s =
    then-good
    (unless _ _ (eqb (length s) 0) λ _ _. whenever (lists_from [] [] 1 (lines_of s)) λ l q is. is)
    λ l n is.
    then-good (mirrors-known l l.relations n) λ l' m (same, known).
    good (record {
      lists = l;
      last = n;
      read = is;
      known = known;
      names = all-headings [] [] 1 (lines_of s) is;
      told = rw same refl;
    })

pub read_of : (s : List ℕ) {terms : Broader} {line : ℕ} → broader_in s ≡ got terms line → Read s terms
read_of s is = good-got (read-good s) is

-- ---- relations in parts

pub known-later : {headings : List Name} {relations : List Relation} (r : Relation) (front later : List Relation)
    → Known headings relations → relations ≡ (front ++ (r ∷ [])) ++ later → number_of r.name headings < length headings
known-later {headings} r front later known is = go front (rw (is ∙ append_assoc front (r ∷ []) later) at known)
  where
    go : (front : List Relation) → Known headings (front ++ (r ∷ later)) → number_of r.name headings < length headings
    go [] (more low k) = low
    go (q ∷ qs) (more low k) = go qs k

pub broader_append : (headings : List Name) (front later : List Relation) (y : ℕ)
    → broader_of headings (front ++ later) y ≡ broader_of headings front y ++ broader_of headings later y
unfolding broader_of
broader_append headings [] later y = refl
broader_append headings (r ∷ rest) later y = by (r.is_broader && eqb r.under y) (broader_append headings rest later y)
  where
    by : (t : Bool) → broader_of headings (rest ++ later) y ≡ broader_of headings rest y ++ broader_of headings later y
        → elim t [ true ↦ number_of r.name headings ∷ broader_of headings (rest ++ later) y | false ↦ broader_of headings (rest ++ later) y ]
        ≡ elim t [ true ↦ number_of r.name headings ∷ broader_of headings rest y | false ↦ broader_of headings rest y ] ++ broader_of headings later y
    by true e = ap (λ l. number_of r.name headings ∷ l) e
    by false e = e

module _ (headings : List Name) (front : List Relation) (n z : ℕ) (name : Name) where
  abbrev one : Bool → Relation
  one is_broader = record { line = n; under = z; is_broader = is_broader; name = name }

  -- a BT line is the last of its own heading's
  pub broader-own : broader_of headings (front ++ (one true ∷ [])) z ≡ broader_of headings front z ++ (number_of name headings ∷ [])
  unfolding broader_of
  broader-own = broader_append headings front (one true ∷ []) z ∙ ap (◌++◌ (broader_of headings front z)) (rw (eq-eqb z z refl, broader_of) refl)

  -- and says nothing of others
  pub broader-others : (y : ℕ) → (z ≡ y → ⊥) → broader_of headings (front ++ (one true ∷ [])) y ≡ broader_of headings front y
  unfolding broader_of
  broader-others y differs =
      let row = broader_of headings front y in
      broader_append headings front (one true ∷ []) y ∙ ap (◌++◌ row) (rw (ne_eqb z y differs, broader_of) refl) ∙ append-nil row

  -- an NT line says nothing of broader terms
  pub narrower-none : (y : ℕ) → broader_of headings (front ++ (one false ∷ [])) y ≡ broader_of headings front y
  unfolding broader_of
  narrower-none y = broader_append headings front (one false ∷ []) y ∙ append-nil (broader_of headings front y)
