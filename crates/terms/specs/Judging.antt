-- The judge's work in three parts, each a walk over the lines: forms, headings given twice, mirrors. For contracts of inner functions.
use Rattle.std.specs.Prelude.{Option, Some, None, is_none, Bool, true, false, not, ◌&&◌, ◌||◌, ◌≡◌, List, [], ◌∷◌, ◌++◌, ℕ, zero, suc, ltb, eqb, length}
use Rattle.tagged.specs.Lines.{Name, Line, heading, broader, narrower, other, same, line_of}
use Rattle.tagged.specs.Listing.{headings_of, is_heading}
use Rattle.terms.specs.Places.{end_of, bytes_of}
use Rattle.terms.specs.declared.judge.Forms.{Forms}

-- what a line is, as a number: 1 a heading's own line, 2 a BT, 3 an NT, 0 none of these
abbrev pub kind_of : Line → ℕ
kind_of (heading name) = 1
kind_of (broader name) = 2
kind_of (narrower name) = 3
kind_of other = 0

-- behind k headings: 0 "line not of this form", or "under some heading" 1 a BT or NT, or 2 a heading
abbrev pub worth : ℕ → Line → ℕ
worth k (heading name) = 2
worth k (broader name) = elim (eqb k 0) [ true ↦ 0 | false ↦ 1 ]
worth k (narrower name) = elim (eqb k 0) [ true ↦ 0 | false ↦ 1 ]
worth k other = 0

-- how many lines, behind k headings, stand before the first "line not of this form"
unfoldable pub good_lines : ℕ → List Line → ℕ
good_lines k [] = 0
good_lines k (heading name ∷ rest) = suc (good_lines (suc k) rest)
good_lines k (broader name ∷ rest) = elim (eqb k 0) [ true ↦ 0 | false ↦ suc (good_lines k rest) ]
good_lines k (narrower name ∷ rest) = elim (eqb k 0) [ true ↦ 0 | false ↦ suc (good_lines k rest) ]
good_lines k (other ∷ rest) = 0

-- what is told of the forms of all lines: how many are good, and how many headings there are if none behind them is not
pub record FormsAs (f : Forms) (lines : List Line) : Type 0 where
  pub good : f.lines ≡ good_lines 0 lines
  pub bad : is_none f.headings ≡ ltb (good_lines 0 lines) (length lines)
  pub headings : (n : ℕ) → f.headings ≡ Some n → n ≡ length (headings_of lines)

-- a line, where 0 is none
abbrev pub line_told : ℕ → Option ℕ
line_told zero = None
line_told (suc n) = Some (suc n)

-- "41 heading given twice": the first line, counted from n, behind these headings; 0 if there is none
unfoldable pub twice_from : List Name → ℕ → List Line → ℕ
twice_from headings n [] = 0
twice_from headings n (heading name ∷ rest) = elim (is_heading name headings) [
  | true ↦ n
  | false ↦ twice_from (headings ++ (name ∷ [])) (suc n) rest
]
twice_from headings n (broader name ∷ rest) = twice_from headings (suc n) rest
twice_from headings n (narrower name ∷ rest) = twice_from headings (suc n) rest
twice_from headings n (other ∷ rest) = twice_from headings (suc n) rest

-- the line m under heading g is the mirror of the line l under heading h
abbrev pub mirror_lines : Name → Line → Name → Line → Bool
mirror_lines h (broader x) g (narrower y) = same g x && same y h
mirror_lines h (broader x) g (heading y) = false
mirror_lines h (broader x) g (broader y) = false
mirror_lines h (broader x) g other = false
mirror_lines h (narrower x) g (broader y) = same g x && same y h
mirror_lines h (narrower x) g (heading y) = false
mirror_lines h (narrower x) g (narrower y) = false
mirror_lines h (narrower x) g other = false
mirror_lines h (heading x) g m = false
mirror_lines h other g m = false

-- the heading under which the next line stands
abbrev pub next_heading : Name → Line → Name
next_heading g (heading name) = name
next_heading g (broader name) = g
next_heading g (narrower name) = g
next_heading g other = g

-- the line l under heading h has its mirror among these lines, the first of which stands under heading g
unfoldable pub mirror_in : Name → Line → Name → List Line → Bool
mirror_in h l g [] = false
mirror_in h l g (m ∷ rest) = mirror_lines h l g m || mirror_in h l (next_heading g m) rest

-- a BT or NT
abbrev pub is_relation : Line → Bool
is_relation (heading name) = false
is_relation (broader name) = true
is_relation (narrower name) = true
is_relation other = false

-- the line l under heading h wants a mirror and has none
abbrev pub wants : List Line → Name → Line → Bool
wants all h l = is_relation l && not (mirror_in h l [] all)

-- "42 a BT or NT whose mirror line is missing": the first line, counted from n, the first of these standing under heading h; 0 if there is none.
-- One "whose heading has no line of its own" has no mirror either.
unfoldable pub unmirrored_from : List Line → Name → ℕ → List Line → ℕ
unmirrored_from all h n [] = 0
unmirrored_from all h n (l ∷ rest) = elim (wants all h l) [
  | true ↦ n
  | false ↦ unmirrored_from all (next_heading h l) (suc n) rest
]

-- by places: the bytes of the line at a place, and what the line is
abbrev pub name_at : List ℕ → ℕ → Name
name_at s at = bytes_of s at (end_of s at)

abbrev pub line_at : List ℕ → ℕ → Line
line_at s at = line_of (name_at s at)
