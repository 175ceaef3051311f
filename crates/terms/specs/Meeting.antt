-- Mirrors, many lines at a time: lines are noted, and each line of the listing meets those whose mirror it is. For contracts of inner functions.
use Rattle.std.specs.Prelude.{Bool, true, false, ◌≡◌, List, [], ℕ, ◌≤◌, get_or, length}
use Rattle.tagged.specs.Lines.{Name, Line, lines_of}
use Rattle.terms.specs.Judging.{mirror_lines, mirror_in, name_at, line_at}

-- the line at q stands in the listing, under the heading at g: what it mirrors has its mirror
pub record Under (s : List ℕ) (g q : ℕ) : Type 0 where
  pub above : g ≤ length s
  pub there : q ≤ length s
  pub mirrors : (h : Name) (l : Line) → mirror_lines h l (name_at s g) (line_at s q) ≡ true → mirror_in h l [] (lines_of s) ≡ true

-- of the lines noted, by their places and their headings' places, those that are met have their mirrors; of the others nothing is said
abbrev pub Met : List ℕ → List ℕ → List ℕ → List Bool → Type 0
Met s place head met = (k : ℕ) → get_or met k false ≡ true → mirror_in (name_at s (get_or head k 0)) (line_at s (get_or place k 0)) [] (lines_of s) ≡ true
