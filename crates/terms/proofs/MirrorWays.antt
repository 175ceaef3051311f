-- Mirrors: what two lines say of each other, and what a line changes in a walk.
use mathlib.Core.Bool.{Bool, true, false, ◌&&◌, ◌||◌, and-true}
use mathlib.Core.Path.{◌≡◌, refl, sym, ap, ◌∙◌}
use mathlib.Core.List.{List, [], ◌∷◌}
use Prim.Native.Nat.{ℕ, ◌+◌, ◌≤◌, ◌<◌}
use native.Mathlib.Omega.{arith}
use native.Mathlib.Decide.{ℕ_discrete}
use native.Mathlib.Numerals.{add-one}
use lib.ListN.{length, drop}
use Rattle.tagged.specs.Lines.{Name, Line, heading, broader, narrower, other, same, line_of, lines_of}
use Rattle.terms.specs.Places.{end_of, bytes_of}
use Rattle.terms.specs.Judging.{kind_of, mirror_lines, next_heading, mirror_in, wants, unmirrored_from, name_at, line_at}
use Rattle.terms.proofs.TagWays.{tag_long, name-behind}
use Rattle.terms.proofs.JudgeWays.{lines_at, Formed, is-heading, is-broader, is-narrower, is-other, formed, kind_small, end-within}

-- ---- two lines

module _ (h g : Name) where
  pub mirror_not : (l m : Line) → (kind_of l + kind_of m ≡ 5 → ⊥) → false ≡ mirror_lines h l g m
  mirror_not (heading x) m not-5 = refl
  mirror_not other m not-5 = refl
  mirror_not (broader x) (heading y) not-5 = refl
  mirror_not (broader x) (broader y) not-5 = refl
  mirror_not (broader x) (narrower y) not-5 = absurd (not-5 refl)
  mirror_not (broader x) other not-5 = refl
  mirror_not (narrower x) (heading y) not-5 = refl
  mirror_not (narrower x) (broader y) not-5 = absurd (not-5 refl)
  mirror_not (narrower x) (narrower y) not-5 = refl
  mirror_not (narrower x) other not-5 = refl

  -- a BT and an NT
  mirror_two : (bs cs : List ℕ) → kind_of (line_of bs) + kind_of (line_of cs) ≡ 5 → mirror_lines h (line_of bs) g (line_of cs) ≡ (same g (drop 5 bs) && same (drop 5 cs) h)
  mirror_two bs cs five = by (formed bs) (formed cs)
    where
      by : Formed bs → Formed cs → mirror_lines h (line_of bs) g (line_of cs) ≡ (same g (drop 5 bs) && same (drop 5 cs) h)
      by (is-broader t e) (is-narrower u f) = rw (e, f) refl
      by (is-narrower t e) (is-broader u f) = rw (e, f) refl
      by (is-heading e) (is-heading f) = absurd (omega (arith, ap kind_of e, ap kind_of f))
      by (is-heading e) (is-broader u f) = absurd (omega (arith, ap kind_of e, ap kind_of f))
      by (is-heading e) (is-narrower u f) = absurd (omega (arith, ap kind_of e, ap kind_of f))
      by (is-heading e) (is-other f) = absurd (omega (arith, ap kind_of e, ap kind_of f))
      by (is-broader t e) (is-heading f) = absurd (omega (arith, ap kind_of e, ap kind_of f))
      by (is-broader t e) (is-broader u f) = absurd (omega (arith, ap kind_of e, ap kind_of f))
      by (is-broader t e) (is-other f) = absurd (omega (arith, ap kind_of e, ap kind_of f))
      by (is-narrower t e) (is-heading f) = absurd (omega (arith, ap kind_of e, ap kind_of f))
      by (is-narrower t e) (is-narrower u f) = absurd (omega (arith, ap kind_of e, ap kind_of f))
      by (is-narrower t e) (is-other f) = absurd (omega (arith, ap kind_of e, ap kind_of f))
      by (is-other e) (is-heading f) = absurd (omega (arith, ap kind_of e, ap kind_of f))
      by (is-other e) (is-broader u f) = absurd (omega (arith, ap kind_of e, ap kind_of f))
      by (is-other e) (is-narrower u f) = absurd (omega (arith, ap kind_of e, ap kind_of f))
      by (is-other e) (is-other f) = absurd (omega (arith, ap kind_of e, ap kind_of f))

-- the name in a BT or NT at a place
pub behind_tag : (s : List ℕ) (p : ℕ) → p ≤ length s → 2 ≤ kind_of (line_at s p) → drop 5 (name_at s p) ≡ bytes_of s (p + 5) (end_of s p)
behind_tag s p inside two = by (formed (name_at s p))
  where
    within : end_of s p ≤ length s
    within = end-within s p inside

    by : Formed (name_at s p) → drop 5 (name_at s p) ≡ bytes_of s (p + 5) (end_of s p)
    by (is-heading e) = absurd (omega (arith, ap kind_of e))
    by (is-broader t e) = name-behind s p (end_of s p) within (tag_long s p (end_of s p) within 66 t)
    by (is-narrower t e) = name-behind s p (end_of s p) within (tag_long s p (end_of s p) within 78 t)
    by (is-other e) = absurd (omega (arith, ap kind_of e))

and_none : (t : Bool) → (t && false) ≡ false
and_none true = refl
and_none false = refl

module _ (s : List ℕ) (h p g q : ℕ) (at_p : p ≤ length s) (at-q : q ≤ length s) (five : kind_of (line_at s p) + kind_of (line_at s q) ≡ 5) where
  abbrev pub Mirror : Bool
  Mirror = mirror_lines (name_at s h) (line_at s p) (name_at s g) (line_at s q)

  mirror_by : Mirror ≡ (same (name_at s g) (bytes_of s (p + 5) (end_of s p)) && same (bytes_of s (q + 5) (end_of s q)) (name_at s h))
  mirror_by =
      let there = behind_tag s p at_p (omega (arith, kind_small (line_at s q))) in
      let back = behind_tag s q at-q (omega (arith, kind_small (line_at s p))) in
      mirror_two (name_at s h) (name_at s g) (name_at s p) (name_at s q) five ∙ rw (there, back) refl

  pub mirror_there : same (bytes_of s (q + 5) (end_of s q)) (name_at s h) ≡ true → same (name_at s g) (bytes_of s (p + 5) (end_of s p)) ≡ Mirror
  mirror_there is = sym (mirror_by ∙ rw is (and-true (same (name_at s g) (bytes_of s (p + 5) (end_of s p)))))

  mirror_elsewhere : same (bytes_of s (q + 5) (end_of s q)) (name_at s h) ≡ false → false ≡ Mirror
  mirror_elsewhere is = sym (mirror_by ∙ rw is (and_none (same (name_at s g) (bytes_of s (p + 5) (end_of s p)))))

-- another name than that of the heading above the other line
pub mirror_other-name : (s : List ℕ) (h p g q : ℕ) → p ≤ length s → q ≤ length s → same (bytes_of s (q + 5) (end_of s q)) (name_at s h) ≡ false
    → false ≡ mirror_lines (name_at s h) (line_at s p) (name_at s g) (line_at s q)
mirror_other-name s h p g q at_p at-q is = by (ℕ_discrete (kind_of (line_at s p) + kind_of (line_at s q)) 5)
  where
    by : Dec (kind_of (line_at s p) + kind_of (line_at s q) ≡ 5) → false ≡ mirror_lines (name_at s h) (line_at s p) (name_at s g) (line_at s q)
    by (yes five) = mirror_elsewhere s h p g q at_p at-q five is
    by (no not-5) = mirror_not (name_at s h) (name_at s g) (line_at s p) (line_at s q) not-5

-- ---- a walk

module _ (h : Name) (l : Line) (g : Name) where
  module _ (m : Line) (rest : List Line) where
    pub found_here : mirror_lines h l g m ≡ true → mirror_in h l g (m ∷ rest) ≡ true
    unfolding mirror_in
    found_here is = rw is refl

    pub found-later : mirror_lines h l g m ≡ false → mirror_in h l g (m ∷ rest) ≡ mirror_in h l (next_heading g m) rest
    unfolding mirror_in
    found-later is = rw is refl

  pub found_none : mirror_in h l g [] ≡ false
  unfolding mirror_in
  found_none = refl

  pub found-cut : mirror_in h l g (other ∷ []) ≡ false
  unfolding mirror_in
  found-cut = by (mirror_lines h l g other) (sym (mirror_other h g l))
    where
      mirror_other : (h g : Name) (l : Line) → mirror_lines h l g other ≡ false
      mirror_other h g (heading x) = refl
      mirror_other h g (broader x) = refl
      mirror_other h g (narrower x) = refl
      mirror_other h g other = refl

      by : (t : Bool) → false ≡ t → (t || false) ≡ false
      by true e = sym e
      by false e = refl

module _ (all : List Line) (h : Name) where
  pub wants_no : (l : Line) → kind_of l < 2 → false ≡ wants all h l
  wants_no (heading x) few = refl
  wants_no (broader x) few = absurd (omega arith)
  wants_no (narrower x) few = absurd (omega arith)
  wants_no other few = refl

  pub wants-has : (l : Line) → mirror_in h l [] all ≡ true → false ≡ wants all h l
  wants-has (heading x) has = refl
  wants-has (broader x) has = rw has refl
  wants-has (narrower x) has = rw has refl
  wants-has other has = refl

  pub wants-lacks : (l : Line) → 2 ≤ kind_of l → mirror_in h l [] all ≡ false → true ≡ wants all h l
  wants-lacks (heading x) few has = absurd (omega arith)
  wants-lacks (broader x) few has = rw has refl
  wants-lacks (narrower x) few has = rw has refl
  wants-lacks other few has = absurd (omega arith)

  module _ (n : ℕ) where
    module _ (l : Line) (rest : List Line) where
      pub unmirrored_here : wants all h l ≡ true → unmirrored_from all h n (l ∷ rest) ≡ n
      unfolding unmirrored_from
      unmirrored_here is = rw (is, unmirrored_from) refl

      pub unmirrored_later : wants all h l ≡ false → unmirrored_from all h n (l ∷ rest) ≡ unmirrored_from all (next_heading h l) (n + 1) rest
      unfolding unmirrored_from
      unmirrored_later is = rw (add-one n, is, unmirrored_from) refl

    pub unmirrored_none : unmirrored_from all h n [] ≡ 0
    unfolding unmirrored_from
    unmirrored_none = refl

    pub unmirrored_cut : unmirrored_from all h n (other ∷ []) ≡ 0
    unfolding unmirrored_from
    unmirrored_cut = refl

pub unmirrored_all : (s : List ℕ) → unmirrored_from (lines_of s) [] 1 (lines_of s) ≡ unmirrored_from (lines_of s) [] 1 (lines_at s 0)
unfolding lines_of
unmirrored_all s = refl
