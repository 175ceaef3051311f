-- Where no heading is given twice and all lines are good, the definition's mirrors, by headings' numbers, are the judge's, by names.
use mathlib.Core.Bool.{Bool, true, false, not, ◌&&◌, ◌||◌, beq, and-true}
use mathlib.Core.Path.{◌≡◌, refl, sym, ap, ◌∙◌}
use mathlib.Core.List.{List, [], ◌∷◌, ◌++◌, append_assoc}
use Prim.Native.Nat.{ℕ, suc, ◌+◌, ◌-◌, ◌≤◌, ◌<◌}
use native.Mathlib.Omega.{arith}
use native.Mathlib.Decide.{ℕ_discrete}
use borrow.Author.Tests.{ltb-false, eq-eqb, ne_eqb, eqb-true, eqb-false}
use lib.Dec.{eqb}
use lib.ListN.{length, get_or, drop, length-append}
use lib.Seq.{get_or-append_seam}
use Rattle.tagged.specs.Lines.{Name, Line, heading, broader, narrower, other, same}
use Rattle.tagged.specs.Listing.{Relation, number_of, headings_of, is_heading, mirrors, mirrored}
use Rattle.terms.specs.Judging.{good_lines, twice_from, mirror_lines, mirror_in}
use Rattle.terms.proofs.TwiceWays.{the_next, one_more, behind-it}
use Rattle.terms.proofs.JudgeParts.{relations_from, early-bt, early-nt, good-bt, good-nt, twice_found, twice-new}

-- ---- names

pub same_self : (x : Name) → same x x ≡ true
unfolding same
same_self [] = refl
same_self (b ∷ bs) = rw (eq-eqb b b refl) (same_self bs)

pub same-equal : (x y : Name) → same x y ≡ true → x ≡ y
unfolding same
same-equal [] [] is = refl
same-equal [] (c ∷ cs) is = absurd (let z : ◌≡◌ {A = ℕ} 0 1 = cc in omega arith)
same-equal (b ∷ bs) [] is = absurd (let z : ◌≡◌ {A = ℕ} 0 1 = cc in omega arith)
same-equal (b ∷ bs) (c ∷ cs) is = by (eqb b c) refl is (same-equal bs cs)
  where
    by : (t : Bool) → eqb b c ≡ t → (t && same bs cs) ≡ true → (same bs cs ≡ true → bs ≡ cs) → b ∷ bs ≡ c ∷ cs
    by true e is rest = let h = eqb-true b c e in let t = rest is in cc
    by false e is rest = absurd (let z : ◌≡◌ {A = ℕ} 0 1 = cc in omega arith)

-- ---- numbers of headings

number-most : (x : Name) (hs : List Name) → number_of x hs ≤ length hs
unfolding number_of
number-most x [] = omega arith
number-most x (h ∷ hs) = by (same x h) (number-most x hs)
  where
    by : (t : Bool) → number_of x hs ≤ length hs → (elim t [ true ↦ 0 | false ↦ suc (number_of x hs) ]) ≤ suc (length hs)
    by true rest = omega arith
    by false rest = omega arith

-- the heading with this number has the name
number-named : (x : Name) (hs : List Name) → number_of x hs < length hs → same x (get_or hs (number_of x hs) []) ≡ true
unfolding number_of
number-named x [] some = absurd (omega arith)
number-named x (h ∷ hs) some = by (same x h) refl some (number-named x hs)
  where
    by : (t : Bool) → same x h ≡ t → (elim t [ true ↦ 0 | false ↦ suc (number_of x hs) ]) < suc (length hs)
        → (number_of x hs < length hs → same x (get_or hs (number_of x hs) []) ≡ true)
        → same x (get_or (h ∷ hs) (elim t [ true ↦ 0 | false ↦ suc (number_of x hs) ]) []) ≡ true
    by true e some rest = e
    by false e some rest = rest (omega arith)

-- behind headings with other names
number_behind : (x : Name) (hs ts : List Name) → length hs ≤ number_of x hs → number_of x (hs ++ ts) ≡ length hs + number_of x ts
unfolding number_of
number_behind x [] ts none = omega arith
number_behind x (h ∷ hs) ts none = by (same x h) none (number_behind x hs ts)
  where
    by : (t : Bool) → suc (length hs) ≤ (elim t [ true ↦ 0 | false ↦ suc (number_of x hs) ])
        → (length hs ≤ number_of x hs → number_of x (hs ++ ts) ≡ length hs + number_of x ts)
        → ◌≡◌ {A = ℕ} (elim t [ true ↦ 0 | false ↦ suc (number_of x (hs ++ ts)) ]) (suc (length hs) + number_of x ts)
    by true none rest = absurd (omega arith)
    by false none rest = omega (arith, rest (omega arith))

number-first-own : (x : Name) (ts : List Name) → number_of x (x ∷ ts) ≡ 0
unfolding number_of
number-first-own x ts = rw (same_self x, number_of) refl

-- ---- no heading is given twice: each has its own number

abbrev pub Own : List Name → Type 0
Own hs = (k : ℕ) → k < length hs → number_of (get_or hs k []) hs ≡ k

abbrev OwnFrom : List Name → List Name → Type 0
OwnFrom hs ts = (k : ℕ) → length hs ≤ k → k < length (hs ++ ts) → number_of (get_or (hs ++ ts) k []) (hs ++ ts) ≡ k

own-from : (hs : List Name) (n : ℕ) (ls : List Line) → twice_from hs (suc n) ls ≡ 0 → OwnFrom hs (headings_of ls)
unfolding twice_from headings_of
own-from hs n [] none = λ k low high. absurd (omega (arith, length-append hs []))
own-from hs n (heading x ∷ rest) none = by (is_heading x hs) refl (own-from (hs ++ (x ∷ [])) (suc n) rest)
  where
    by : (t : Bool) → is_heading x hs ≡ t → (twice_from (hs ++ (x ∷ [])) (suc (suc n)) rest ≡ 0 → OwnFrom (hs ++ (x ∷ [])) (headings_of rest)) → OwnFrom hs (x ∷ headings_of rest)
    by true f ih = absurd (omega (arith, sym none ∙ twice_found hs [] (suc n) x rest f))
    by false f ih = λ k low high. place k low high (ℕ_discrete k (length hs))
      where
        joined : (hs ++ (x ∷ [])) ++ headings_of rest ≡ hs ++ (x ∷ headings_of rest)
        joined = append_assoc hs (x ∷ []) (headings_of rest)

        place : (k : ℕ) → length hs ≤ k → k < length (hs ++ (x ∷ headings_of rest)) → Dec (k ≡ length hs) → number_of (get_or (hs ++ (x ∷ headings_of rest)) k []) (hs ++ (x ∷ headings_of rest)) ≡ k
        place k low high (yes is) =
            rw (is, get_or-append_seam hs x (headings_of rest) [])
            (number_behind x hs (x ∷ headings_of rest) (ltb-false (number_of x hs) (length hs) f) ∙ omega (arith, number-first-own x (headings_of rest)))
        place k low high (no differs) =
            let all = rw joined at (ih (sym (twice-new hs [] (suc n) x rest f) ∙ none)) in
            all k (omega (arith, length-append hs (x ∷ []), differs)) high
own-from hs n (broader x ∷ rest) none = own-from hs (suc n) rest none
own-from hs n (narrower x ∷ rest) none = own-from hs (suc n) rest none
own-from hs n (other ∷ rest) none = own-from hs (suc n) rest none

pub own : (n : ℕ) (ls : List Line) → twice_from [] (suc n) ls ≡ 0 → Own (headings_of ls)
own n ls none = λ k some. own-from [] n ls none k (omega arith) some

-- ---- a line's mirror

-- the line that gave this relation
abbrev line_for : Bool → Name → Line
line_for true x = broader x
line_for false x = narrower x

module _ (hs : List Name) (own : Own hs) where
  -- a heading has the name exactly if its number is the name's
  under-named : (j : ℕ) → j < length hs → (x : Name) → eqb j (number_of x hs) ≡ same (get_or hs j []) x
  under-named j some x = by (same (get_or hs j []) x) refl
    where
      by : (t : Bool) → same (get_or hs j []) x ≡ t → eqb j (number_of x hs) ≡ t
      by true e = eq-eqb j (number_of x hs) (sym (own j some) ∙ ap (λ y. number_of y hs) (same-equal (get_or hs j []) x e))
      by false e = ne_eqb j (number_of x hs) (λ is. differs is)
        where
          differs : j ≡ number_of x hs → ⊥
          differs is =
              let named = number-named x hs (omega arith) in
              let it : x ≡ get_or hs j [] = same-equal x (get_or hs (number_of x hs) []) named ∙ ap (λ n. get_or hs n []) (sym is) in
              let z : false ≡ true = sym e ∙ ap (same (get_or hs j [])) it ∙ same_self (get_or hs j []) in
              let o : ◌≡◌ {A = ℕ} 0 1 = cc in
              omega arith

  -- one line, under the heading with number j
  mirror_bt : (line u : ℕ) (b : Bool) (x : Name) (n j : ℕ) → j < length hs → (y : Name)
      → mirrors hs (record { line = line; under = u; is_broader = b; name = x }) (record { line = n; under = j; is_broader = true; name = y })
      ≡ mirror_lines (get_or hs u []) (line_for b x) (get_or hs j []) (broader y)
  unfolding mirrors
  mirror_bt line u true x n j some y = by (eqb j (number_of x hs))
    where
      by : (t : Bool) → (t && false && same y (get_or hs u [])) ≡ false
      by true = refl
      by false = refl
  mirror_bt line u false x n j some y = rw (under-named j some x, and-true (same (get_or hs j []) x)) refl

  mirror_nt : (line u : ℕ) (b : Bool) (x : Name) (n j : ℕ) → j < length hs → (y : Name)
      → mirrors hs (record { line = line; under = u; is_broader = b; name = x }) (record { line = n; under = j; is_broader = false; name = y })
      ≡ mirror_lines (get_or hs u []) (line_for b x) (get_or hs j []) (narrower y)
  unfolding mirrors
  mirror_nt line u true x n j some y = rw (under-named j some x, and-true (same (get_or hs j []) x)) refl
  mirror_nt line u false x n j some y = by (eqb j (number_of x hs))
    where
      by : (t : Bool) → (t && false && same y (get_or hs u [])) ≡ false
      by true = refl
      by false = refl

  mirror_heading : (h g : Name) (b : Bool) (x y : Name) → mirror_lines h (line_for b x) g (heading y) ≡ false
  mirror_heading h g true x y = refl
  mirror_heading h g false x y = refl

-- the first k headings stand above these lines, the last of them is g, and the lines are good
pub record Behind (hs : List Name) (k : ℕ) (g : Name) (ls : List Line) : Type 0 where
  pub few : k ≤ length hs
  pub above : headings_of ls ≡ drop k hs
  pub last : 0 < k → g ≡ get_or hs (k - 1) []
  pub good : good_lines k ls ≡ length ls

module _ (hs : List Name) where
  pub behind-heading : (k : ℕ) (g x : Name) (rest : List Line) → Behind hs k g (heading x ∷ rest) → Behind hs (suc k) x rest
  unfolding headings_of good_lines
  behind-heading k g x rest so =
      let e : k + 1 ≡ suc k = omega arith in
      let f : suc k - 1 ≡ k = omega arith in
      record {
        few = omega (arith, one_more hs k x rest so.above);
        above = rw e at (behind-it hs k x rest so.above);
        last = λ _. rw f (sym (the_next hs k x rest so.above));
        good = omega (arith, so.good);
      }

  pub bt-under : (k : ℕ) (g x : Name) (rest : List Line) → Behind hs k g (broader x ∷ rest) → 0 < k
  bt-under k g x rest so = by (eqb k 0) refl
    where
      by : (t : Bool) → eqb k 0 ≡ t → 0 < k
      by true e = absurd (omega (arith, sym so.good ∙ early-bt k x rest e))
      by false e = omega (arith, eqb-false k 0 e)

  pub nt-under : (k : ℕ) (g x : Name) (rest : List Line) → Behind hs k g (narrower x ∷ rest) → 0 < k
  nt-under k g x rest so = by (eqb k 0) refl
    where
      by : (t : Bool) → eqb k 0 ≡ t → 0 < k
      by true e = absurd (omega (arith, sym so.good ∙ early-nt k x rest e))
      by false e = omega (arith, eqb-false k 0 e)

  pub behind-bt : (k : ℕ) (g x : Name) (rest : List Line) → Behind hs k g (broader x ∷ rest) → Behind hs k g rest
  unfolding headings_of
  behind-bt k g x rest so =
      let under = bt-under k g x rest so in
      record { few = so.few; above = so.above; last = so.last; good = omega (arith, so.good, good-bt k x rest (ne_eqb k 0 (λ e. omega arith))) }

  pub behind-nt : (k : ℕ) (g x : Name) (rest : List Line) → Behind hs k g (narrower x ∷ rest) → Behind hs k g rest
  unfolding headings_of
  behind-nt k g x rest so =
      let under = nt-under k g x rest so in
      record { few = so.few; above = so.above; last = so.last; good = omega (arith, so.good, good-nt k x rest (ne_eqb k 0 (λ e. omega arith))) }

  pub other-bad : {A : Type 0} (k : ℕ) (g : Name) (rest : List Line) → Behind hs k g (other ∷ rest) → A
  unfolding good_lines
  other-bad k g rest so = absurd (omega (arith, so.good))

  module _ (own : Own hs) where
    -- MIRRORS BY NAMES
    pub mirrored-by : (line u : ℕ) (b : Bool) (x : Name) (k n : ℕ) (g : Name) (ls : List Line) → Behind hs k g ls
        → mirrored hs (relations_from k n ls) (record { line = line; under = u; is_broader = b; name = x }) ≡ mirror_in (get_or hs u []) (line_for b x) g ls
    unfolding mirrored mirror_in relations_from
    mirrored-by line u b x k n g [] so = refl
    mirrored-by line u b x k n g (heading y ∷ rest) so = rw (mirror_heading hs own (get_or hs u []) g b x y) (mirrored-by line u b x (suc k) (suc n) y rest (behind-heading k g y rest so))
    mirrored-by line u b x k n g (broader y ∷ rest) so =
        let under = bt-under k g y rest so in
        let it = mirror_bt hs own line u b x n (k - 1) (omega (arith, so.few)) y ∙ ap (λ z. mirror_lines (get_or hs u []) (line_for b x) z (broader y)) (sym (so.last under)) in
        rw (it, mirrored-by line u b x k (suc n) g rest (behind-bt k g y rest so)) refl
    mirrored-by line u b x k n g (narrower y ∷ rest) so =
        let under = nt-under k g y rest so in
        let it = mirror_nt hs own line u b x n (k - 1) (omega (arith, so.few)) y ∙ ap (λ z. mirror_lines (get_or hs u []) (line_for b x) z (narrower y)) (sym (so.last under)) in
        rw (it, mirrored-by line u b x k (suc n) g rest (behind-nt k g y rest so)) refl
    mirrored-by line u b x k n g (other ∷ rest) so = other-bad k g rest so

  -- a mirror stands under a heading
  module _ (r : Relation) where
    mirror_known : (m : Relation) → m.under < length hs → mirrors hs r m ≡ true → number_of r.name hs < length hs
    unfolding mirrors
    mirror_known m some is = by (eqb m.under (number_of r.name hs)) refl is
      where
        by : (t : Bool) → eqb m.under (number_of r.name hs) ≡ t → (t && not (beq m.is_broader r.is_broader) && same m.name (get_or hs r.under [])) ≡ true → number_of r.name hs < length hs
        by true e is = omega (arith, eqb-true m.under (number_of r.name hs) e)
        by false e is = absurd (let z : ◌≡◌ {A = ℕ} 0 1 = cc in omega arith)

    or_cases : (m : Relation) (ms : List Relation) → mirrored hs (m ∷ ms) r ≡ true → m.under < length hs → (mirrored hs ms r ≡ true → number_of r.name hs < length hs) → number_of r.name hs < length hs
    unfolding mirrored
    or_cases m ms is some rest = by (mirrors hs r m) refl is
      where
        by : (t : Bool) → mirrors hs r m ≡ t → (t || mirrored hs ms r) ≡ true → number_of r.name hs < length hs
        by true e is = mirror_known m some e
        by false e is = rest is

    mirrored-none : mirrored hs [] r ≡ true → ⊥
    unfolding mirrored
    mirrored-none is = let z : ◌≡◌ {A = ℕ} 0 1 = cc in omega arith

    pub mirrored-known : (k n : ℕ) (g : Name) (ls : List Line) → Behind hs k g ls → mirrored hs (relations_from k n ls) r ≡ true → number_of r.name hs < length hs
    unfolding relations_from
    mirrored-known k n g [] so is = absurd (mirrored-none is)
    mirrored-known k n g (heading y ∷ rest) so is = mirrored-known (suc k) (suc n) y rest (behind-heading k g y rest so) is
    mirrored-known k n g (broader y ∷ rest) so is =
        let under = bt-under k g y rest so in
        or_cases _ (relations_from k (suc n) rest) is (omega (arith, so.few)) (mirrored-known k (suc n) g rest (behind-bt k g y rest so))
    mirrored-known k n g (narrower y ∷ rest) so is =
        let under = nt-under k g y rest so in
        or_cases _ (relations_from k (suc n) rest) is (omega (arith, so.few)) (mirrored-known k (suc n) g rest (behind-nt k g y rest so))
    mirrored-known k n g (other ∷ rest) so is = other-bad k g rest so
