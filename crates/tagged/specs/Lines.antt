-- Lines: "It reads lines ended by a newline: a heading .., or two spaces, BT or NT, one space and a heading".
use Rattle.std.specs.Prelude.{Bool, true, false, not, ◌&&◌, List, [], ◌∷◌, ◌++◌, ℕ, leb, eqb, take, drop}

-- a name, as its bytes
abbrev pub Name : Type 0
Name = List ℕ

-- what a line is: a heading's own line, a broader or a narrower term of the heading above it, or none of these
pub data Line : Type 0 where
  heading : Name → Line
  broader : Name → Line
  narrower : Name → Line
  other : Line

abbrev pub newline : ℕ
newline = 10

abbrev pub space : ℕ
space = 32

-- "bytes 32 to 126"
unfoldable pub printed : List ℕ → Bool
printed [] = true
printed (b ∷ bs) = leb 32 b && leb b 126 && printed bs

-- "one or more bytes 32 to 126, not opening with a space"
unfoldable pub is_name : List ℕ → Bool
is_name [] = false
is_name (b ∷ bs) = not (eqb b space) && printed (b ∷ bs)

-- the same bytes
unfoldable pub same : List ℕ → List ℕ → Bool
same [] [] = true
same [] (c ∷ cs) = false
same (b ∷ bs) [] = false
same (b ∷ bs) (c ∷ cs) = eqb b c && same bs cs

-- "two spaces, BT or NT, one space"
abbrev pub bt : List ℕ
bt = space ∷ space ∷ 66 ∷ 84 ∷ space ∷ []

abbrev pub nt : List ℕ
nt = space ∷ space ∷ 78 ∷ 84 ∷ space ∷ []

-- a line of this form, if a name stands in it
unfoldable pub named : List ℕ → (Name → Line) → Line
named name form = elim (is_name name) [ true ↦ form name | false ↦ other ]

-- what the bytes of a line say, the newline left out; no heading opens with a space
unfoldable pub line_of : List ℕ → Line
line_of bs = elim (same (take 5 bs) bt) [
  | true ↦ named (drop 5 bs) broader
  | false ↦ elim (same (take 5 bs) nt) [
    | true ↦ named (drop 5 bs) narrower
    | false ↦ named bs heading
  ]
]

-- the bytes of a last line that no newline ends: a line of no form, unless there are none
unfoldable pub cut_short : List ℕ → List Line
cut_short [] = []
cut_short (b ∷ bs) = other ∷ []

-- the lines from here on, with the bytes `begun` of the one that is being read in front of them
unfoldable pub lines_from : List ℕ → List ℕ → List Line
lines_from begun [] = cut_short begun
lines_from begun (b ∷ bs) = elim (eqb b newline) [
  | true ↦ line_of begun ∷ lines_from [] bs
  | false ↦ lines_from (begun ++ (b ∷ [])) bs
]

-- "lines ended by a newline"
unfoldable pub lines_of : List ℕ → List Line
lines_of bs = lines_from [] bs
