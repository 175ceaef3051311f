-- The definition's one walk over the lines equals the judge's three: forms, headings given twice, mirrors.
use mathlib.Core.Bool.{Bool, true, false}
use mathlib.Core.Path.{◌≡◌, refl, sym, ap, ◌∙◌}
use mathlib.Core.List.{List, [], ◌∷◌, ◌++◌, append_assoc, append-nil}
use Prim.Native.Nat.{ℕ, zero, suc, ◌+◌, ◌-◌}
use native.Mathlib.Omega.{arith}
use borrow.Author.Tests.{lt-ltb}
use lib.Dec.{ltb, eqb, leb-suc-suc}
use lib.ListN.{length, take, length-append}
use Rattle.reading.specs.Reading.{Reading, got, refusal, refuse◌at◌if◌else◌}
use Rattle.tagged.specs.Lines.{Name, Line, heading, broader, narrower, other}
use Rattle.tagged.specs.Listing.{Relation, Lists, headings_of, is_heading, relation, lists_from}
use Rattle.terms.specs.Judging.{good_lines, twice_from}

-- ---- steps of the definitions

module _ (hs : List Name) (rs : List Relation) (n : ℕ) (x : Name) (rest : List Line) where
  lists-twice : is_heading x hs ≡ true → lists_from hs rs n (heading x ∷ rest) ≡ refusal 41 n
  unfolding lists_from refuse◌at◌if◌else◌
  lists-twice e = rw (e, lists_from, refuse◌at◌if◌else◌) refl

  lists-new : is_heading x hs ≡ false → lists_from hs rs n (heading x ∷ rest) ≡ lists_from (hs ++ (x ∷ [])) rs (suc n) rest
  unfolding lists_from refuse◌at◌if◌else◌
  lists-new e = rw (e, lists_from, refuse◌at◌if◌else◌) refl

  lists-early-bt : eqb (length hs) 0 ≡ true → lists_from hs rs n (broader x ∷ rest) ≡ refusal 40 n
  unfolding lists_from refuse◌at◌if◌else◌
  lists-early-bt e = rw (e, lists_from, refuse◌at◌if◌else◌) refl

  lists-bt : eqb (length hs) 0 ≡ false → lists_from hs rs n (broader x ∷ rest) ≡ lists_from hs (rs ++ (relation n hs true x ∷ [])) (suc n) rest
  unfolding lists_from refuse◌at◌if◌else◌
  lists-bt e = rw (e, lists_from, refuse◌at◌if◌else◌) refl

  lists-early-nt : eqb (length hs) 0 ≡ true → lists_from hs rs n (narrower x ∷ rest) ≡ refusal 40 n
  unfolding lists_from refuse◌at◌if◌else◌
  lists-early-nt e = rw (e, lists_from, refuse◌at◌if◌else◌) refl

  lists-nt : eqb (length hs) 0 ≡ false → lists_from hs rs n (narrower x ∷ rest) ≡ lists_from hs (rs ++ (relation n hs false x ∷ [])) (suc n) rest
  unfolding lists_from refuse◌at◌if◌else◌
  lists-nt e = rw (e, lists_from, refuse◌at◌if◌else◌) refl

  pub twice_found : is_heading x hs ≡ true → twice_from hs n (heading x ∷ rest) ≡ n
  unfolding twice_from
  twice_found e = rw (e, twice_from) refl

  pub twice-new : is_heading x hs ≡ false → twice_from hs n (heading x ∷ rest) ≡ twice_from (hs ++ (x ∷ [])) (suc n) rest
  unfolding twice_from
  twice-new e = rw (e, twice_from) refl

module _ (k : ℕ) (x : Name) (rest : List Line) where
  pub early-bt : eqb k 0 ≡ true → good_lines k (broader x ∷ rest) ≡ 0
  unfolding good_lines
  early-bt e = rw (e, good_lines) refl

  pub early-nt : eqb k 0 ≡ true → good_lines k (narrower x ∷ rest) ≡ 0
  unfolding good_lines
  early-nt e = rw (e, good_lines) refl

  pub good-bt : eqb k 0 ≡ false → good_lines k (broader x ∷ rest) ≡ suc (good_lines k rest)
  unfolding good_lines
  good-bt e = rw (e, good_lines) refl

  pub good-nt : eqb k 0 ≡ false → good_lines k (narrower x ∷ rest) ≡ suc (good_lines k rest)
  unfolding good_lines
  good-nt e = rw (e, good_lines) refl

-- ---- the BT and NT lines, from line n on behind k headings

unfoldable pub relations_from : ℕ → ℕ → List Line → List Relation
relations_from k n [] = []
relations_from k n (heading x ∷ rest) = relations_from (suc k) (suc n) rest
relations_from k n (broader x ∷ rest) = record { line = n; under = k - 1; is_broader = true; name = x } ∷ relations_from k (suc n) rest
relations_from k n (narrower x ∷ rest) = record { line = n; under = k - 1; is_broader = false; name = x } ∷ relations_from k (suc n) rest
relations_from k n (other ∷ rest) = relations_from k (suc n) rest

-- ---- 40 and 41

-- what is told: 41 at this line, if it is not 0, else 40 at that, if one is bad, else these lists
abbrev pub told : ℕ → Bool → ℕ → Reading Lists → Reading Lists
told (suc t) bad line lists = refusal 41 (suc t)
told zero true line lists = refusal 40 line
told zero false line lists = lists

told_same : {t u : ℕ} {a b : Bool} {p q : ℕ} {r w : Reading Lists} → t ≡ u → a ≡ b → p ≡ q → r ≡ w → told t a p r ≡ told u b q w
told_same e f g h = cc

abbrev pub ByParts : List Name → List Relation → ℕ → ℕ → List Line → Type 0
ByParts hs rs k n ls =
    lists_from hs rs n ls
    ≡ told (twice_from hs n (take (good_lines k ls) ls)) (ltb (good_lines k ls) (length ls)) (n + good_lines k ls)
    (got (record { headings = hs ++ headings_of ls; relations = rs ++ relations_from k n ls }) (n + length ls))

pub by_parts : (hs : List Name) (rs : List Relation) (k : ℕ) → length hs ≡ k → (n : ℕ) (ls : List Line) → ByParts hs rs k (suc n) ls
unfolding good_lines twice_from lists_from relations_from headings_of
by_parts hs rs k e n [] =
    let z : suc n + 0 ≡ suc n = omega arith in
    rw (append-nil hs, append-nil rs, z) refl
by_parts hs rs k e n (heading x ∷ rest) = by (is_heading x hs) refl (by_parts (hs ++ (x ∷ [])) rs (suc k) (length-append hs (x ∷ []) ∙ omega arith) (suc n) rest)
  where
    by : (t : Bool) → is_heading x hs ≡ t → ByParts (hs ++ (x ∷ [])) rs (suc k) (suc (suc n)) rest → ByParts hs rs k (suc n) (heading x ∷ rest)
    by true f ih = lists-twice hs rs (suc n) x rest f ∙ rw (twice_found hs rs (suc n) x (take (good_lines (suc k) rest) rest) f) refl
    by false f ih =
        let g = good_lines (suc k) rest in
        let next : suc (suc n) + g ≡ suc n + suc g = omega arith in
        let last : suc (suc n) + length rest ≡ suc n + suc (length rest) = omega arith in
        lists-new hs rs (suc n) x rest f
        ∙ ih
        ∙ told_same
        (sym (twice-new hs rs (suc n) x (take g rest) f))
        (sym (leb-suc-suc (suc g) (length rest)))
        next
        (rw (append_assoc hs (x ∷ []) (headings_of rest), last) refl)
by_parts hs rs k e n (broader x ∷ rest) = by (eqb k 0) refl (by_parts hs (rs ++ (relation (suc n) hs true x ∷ [])) k e (suc n) rest)
  where
    by : (t : Bool) → eqb k 0 ≡ t → ByParts hs (rs ++ (relation (suc n) hs true x ∷ [])) k (suc (suc n)) rest → ByParts hs rs k (suc n) (broader x ∷ rest)
    by true f ih =
        let z : suc n + 0 ≡ suc n = omega arith in
        lists-early-bt hs rs (suc n) x rest (rw e f) ∙ rw (early-bt k x rest f, z, lt-ltb 0 (suc (length rest)) (omega arith)) refl
    by false f ih =
        let g = good_lines k rest in
        let next : suc (suc n) + g ≡ suc n + suc g = omega arith in
        let last : suc (suc n) + length rest ≡ suc n + suc (length rest) = omega arith in
        let up = sym (good-bt k x rest f) in
        lists-bt hs rs (suc n) x rest (rw e f)
        ∙ ih
        ∙ told_same
        (ap (λ m. twice_from hs (suc n) (take m (broader x ∷ rest))) up)
        (sym (leb-suc-suc (suc g) (length rest)) ∙ ap (λ m. ltb m (suc (length rest))) up)
        (next ∙ ap (λ m. suc n + m) up)
        (rw (append_assoc rs (relation (suc n) hs true x ∷ []) (relations_from k (suc (suc n)) rest), last, e) refl)
by_parts hs rs k e n (narrower x ∷ rest) = by (eqb k 0) refl (by_parts hs (rs ++ (relation (suc n) hs false x ∷ [])) k e (suc n) rest)
  where
    by : (t : Bool) → eqb k 0 ≡ t → ByParts hs (rs ++ (relation (suc n) hs false x ∷ [])) k (suc (suc n)) rest → ByParts hs rs k (suc n) (narrower x ∷ rest)
    by true f ih =
        let z : suc n + 0 ≡ suc n = omega arith in
        lists-early-nt hs rs (suc n) x rest (rw e f) ∙ rw (early-nt k x rest f, z, lt-ltb 0 (suc (length rest)) (omega arith)) refl
    by false f ih =
        let g = good_lines k rest in
        let next : suc (suc n) + g ≡ suc n + suc g = omega arith in
        let last : suc (suc n) + length rest ≡ suc n + suc (length rest) = omega arith in
        let up = sym (good-nt k x rest f) in
        lists-nt hs rs (suc n) x rest (rw e f)
        ∙ ih
        ∙ told_same
        (ap (λ m. twice_from hs (suc n) (take m (narrower x ∷ rest))) up)
        (sym (leb-suc-suc (suc g) (length rest)) ∙ ap (λ m. ltb m (suc (length rest))) up)
        (next ∙ ap (λ m. suc n + m) up)
        (rw (append_assoc rs (relation (suc n) hs false x ∷ []) (relations_from k (suc (suc n)) rest), last, e) refl)
by_parts hs rs k e n (other ∷ rest) =
    let z : suc n + 0 ≡ suc n = omega arith in
    rw (z, lt-ltb 0 (suc (length rest)) (omega arith)) refl
