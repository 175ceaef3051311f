-- Lines met by their mirrors: what a line changes while all lines are looked up among those noted.
use mathlib.Core.Bool.{Bool, true, false, or-true}
use mathlib.Core.Path.{◌≡◌, sym, ap, ◌∙◌}
use mathlib.Core.List.{List, [], ◌∷◌}
use Prim.Native.Nat.{ℕ, ◌+◌, ◌≤◌, ◌<◌}
use native.Mathlib.Omega.{arith}
use native.Mathlib.Decide.{ℕ_discrete, dec_lt}
use lib.ListN.{length, get_or, set, replicate, length-replicate, get_or-replicate, get_or-eq_default}
use lib.Seq.{get_or-set_other}
use Rattle.tagged.specs.Lines.{Name, Line, lines_of}
use Rattle.terms.specs.Places.{end_of}
use Rattle.terms.specs.Judging.{mirror_lines, next_heading, mirror_in, name_at, line_at}
use Rattle.terms.specs.Meeting.{Under, Met}
use Rattle.terms.proofs.LineWays.{line-at}
use Rattle.terms.proofs.JudgeWays.{lines_at, lines_all, name-past}
use Rattle.terms.proofs.MirrorWays.{found_here}

pub never : {A : Type 0} → false ≡ true → A
never e = absurd (let z : ◌≡◌ {A = ℕ} 0 1 = cc in omega arith)

-- ---- a walk over all lines

-- what has its mirror among the lines from `at` on, the first of which stands under the heading at g, has it in the listing
abbrev pub Behind : List ℕ → ℕ → ℕ → Type 0
Behind s g at = (h : Name) (l : Line) → mirror_in h l (name_at s g) (lines_at s at) ≡ true → mirror_in h l [] (lines_of s) ≡ true

found_after : (h : Name) (l : Line) (g : Name) (m : Line) (rest : List Line) → mirror_in h l (next_heading g m) rest ≡ true → mirror_in h l g (m ∷ rest) ≡ true
unfolding mirror_in
found_after h l g m rest is = rw is (or-true (mirror_lines h l g m))

pub behind-start : (s : List ℕ) → Behind s (length s) 0
behind-start s h l is = rw (lines_all s) (rw (name-past s) at is)

module _ (s : List ℕ) (g at : ℕ) (so : Behind s g at) (inside : end_of s at < length s) where
  pub under-here : g ≤ length s → at ≤ length s → Under s g at
  under-here above there =
      record {
        above = above;
        there = there;
        mirrors = λ h l is. so h l (ap (mirror_in h l (name_at s g)) (line-at s at inside) ∙ found_here h l (name_at s g) (line_at s at) _ is);
      }

  pub behind-on : (next : ℕ) → name_at s next ≡ next_heading (name_at s g) (line_at s at) → Behind s next (end_of s at + 1)
  behind-on next e h l is =
      so h l (ap (mirror_in h l (name_at s g)) (line-at s at inside) ∙ found_after h l (name_at s g) (line_at s at) _ (rw e at is))

-- ---- entries met

false-all : (n k : ℕ) → Dec (k < n) → get_or (replicate n false) k false ≡ false
false-all n k (yes less) = get_or-replicate n k false false less
false-all n k (no over) = get_or-eq_default (replicate n false) false (omega (arith, length-replicate n false))

module _ (s place head : List ℕ) where
  pub met_start : Met s place head (replicate 8192 false)
  met_start k is = never (sym (false-all 8192 k (dec_lt k 8192)) ∙ is)

  pub met-more : (met : List Bool) → Met s place head met → (k : ℕ) → mirror_in (name_at s (get_or head k 0)) (line_at s (get_or place k 0)) [] (lines_of s) ≡ true
      → Met s place head (set met k true)
  met-more met so k has j is = by (ℕ_discrete j k)
    where
      by : Dec (j ≡ k) → mirror_in (name_at s (get_or head j 0)) (line_at s (get_or place j 0)) [] (lines_of s) ≡ true
      by (yes e) = rw e has
      by (no differs) = so j (sym (get_or-set_other met k j true false differs) ∙ is)
