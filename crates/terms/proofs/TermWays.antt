-- The ways through the code that gathers broader terms.
use mathlib.Core.Bool.{false}
use mathlib.Core.Path.{◌≡◌, refl, sym, ap, ◌∙◌}
use mathlib.Core.List.{List, [], ◌∷◌}
use Prim.Native.Nat.{ℕ, zero, suc, ◌+◌, ◌-◌, ◌≤◌, ◌<◌}
use native.Mathlib.Omega.{arith}
use borrow.Author.Tests.{le-leb, lt-leb}
use lib.Dec.{leb}
use lib.ListN.{take, drop, set}
use lib.Seq.{take-nil, drop-drop}
use Rattle.tagged.specs.Lines.{Name, heading, broader, narrower, other, line_of}
use Rattle.tagged.specs.Listing.{number_of}
use Rattle.terms.specs.Gathering.{grown_by, sum_opened, sum_added, RoomFor, LineTaken, within_by}
use Rattle.terms.specs.Places.{bytes_of}
use Rattle.terms.specs.InCode.{line_by}
use Rattle.terms.specs.declared.terms.Sum.{Sum}
use Rattle.terms.specs.declared.lines.Form.{Form}
use Rattle.terms.specs.declared.lines.Form.TheVariants.{Heading, Broader, Narrower, Other}

pub grown_none : {own : ℕ} → own ≡ 0 → 8 ≡ grown_by own
grown_none is = rw is refl

pub grown_some : (own : ℕ) → (own ≡ 0 → ⊥) → 12 ≡ grown_by own
grown_some zero some = absurd (some refl)
grown_some (suc k) some = refl

pub grown_small : (own : ℕ) → grown_by own ≤ 12
grown_small zero = omega arith
grown_small (suc k) = omega arith

pub added_sum : (sum : Sum) {more : ℕ} → more ≡ grown_by sum.own
    → ◌≡◌ {A = Sum} (record { headings = sum.headings; own = sum.own + 1; terms = sum.terms + 1; size = sum.size + more }) (sum_added sum)
added_sum sum is = rw is refl

pub own-over : (sum : Sum) → 16 < sum.own → false ≡ within_by sum
own-over sum over = rw (lt-leb sum.own 16 over) refl

pub own-within : (sum : Sum) → sum.own ≤ 16 → leb sum.size 32768 ≡ within_by sum
own-within sum few = rw (le-leb sum.own 16 few) refl

-- ---- one line, by the form that was found

drop-take : (n m : ℕ) (l : List ℕ) → drop n (take m l) ≡ take (m - n) (drop n l)
drop-take zero m l = let same : m - 0 ≡ m = omega arith in rw same refl
drop-take (suc n) zero l = let none : zero - suc n ≡ 0 = omega arith in rw none refl
drop-take (suc n) (suc m) [] = sym (take-nil (suc m - suc n))
drop-take (suc n) (suc m) (x ∷ l) = let less : suc m - suc n ≡ m - n = omega arith in rw less (drop-take n m l)

-- the name behind a tag
pub behind_tag : (s : List ℕ) (at to : ℕ) → drop 5 (bytes_of s at to) ≡ bytes_of s (at + 5) to
behind_tag s at to =
    let width : to - at - 5 ≡ to - (at + 5) = omega arith in
    drop-take 5 (to - at) (drop at s) ∙ rw (drop-drop 5 at s, width) refl

module _ (form : Form) (bs : List ℕ) (is : line_by form bs ≡ line_of bs) (headings : List Name) (sum : Sum) where
  pub line-heading : form ≡ Heading → line_of bs ≡ heading bs
  line-heading e = sym is ∙ ap (λ (f : Form). line_by f bs) e

  pub line-broader : form ≡ Broader → line_of bs ≡ broader (drop 5 bs)
  line-broader e = sym is ∙ ap (λ (f : Form). line_by f bs) e

  pub line-narrower : form ≡ Narrower → line_of bs ≡ narrower (drop 5 bs)
  line-narrower e = sym is ∙ ap (λ (f : Form). line_by f bs) e

  pub line_other : form ≡ Other → line_of bs ≡ other
  line_other e = sym is ∙ ap (λ (f : Form). line_by f bs) e

  -- there is room for it
  pub room-heading : form ≡ Heading → RoomFor headings (line_of bs) sum → sum.headings < 341
  room-heading e room = rw (line-heading e) at room

  pub room-broader : form ≡ Broader → RoomFor headings (line_of bs) sum → number_of (drop 5 bs) headings < 341
  room-broader e room = rw (line-broader e) at room

  -- and it was taken
  module _ {after : Sum} {from now to then : List ℕ} where
    pub taken_heading : form ≡ Heading → after ≡ sum_opened sum → now ≡ set from (sum.headings + 1) sum.terms → then ≡ to
        → LineTaken headings (line_of bs) sum after from now to then
    taken_heading e a b c = rw (line-heading e) (record { sums = a; opened = b; filled = c })

    pub taken_broader : form ≡ Broader → after ≡ sum_added sum → now ≡ set from sum.headings (sum.terms + 1)
        → then ≡ set to sum.terms (number_of (drop 5 bs) headings) → LineTaken headings (line_of bs) sum after from now to then
    taken_broader e a b c = rw (line-broader e) (record { sums = a; opened = b; filled = c })

    pub taken_narrower : form ≡ Narrower → after ≡ sum → now ≡ from → then ≡ to → LineTaken headings (line_of bs) sum after from now to then
    taken_narrower e a b c = rw (line-narrower e) (record { sums = a; opened = b; filled = c })

    pub taken_other : form ≡ Other → after ≡ sum → now ≡ from → then ≡ to → LineTaken headings (line_of bs) sum after from now to then
    taken_other e a b c = rw (line_other e) (record { sums = a; opened = b; filled = c })
