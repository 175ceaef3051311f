-- What a listing says: its headings, and for each the numbers of its broader terms; or the first fault, by number and line.
use Rattle.std.specs.Prelude.{Bool, true, false, not, ◌&&◌, ◌||◌, List, [], ◌∷◌, ◌++◌, ℕ, zero, suc, ◌-◌, ltb, eqb, length, get_or}
use Rattle.std.specs.Bool.{beq}
use Rattle.reading.specs.Reading.{Reading, got, refusal, ◌then◌, refuse◌at◌if◌else◌}
use Rattle.tagged.specs.Lines.{Name, Line, heading, broader, narrower, other, same, lines_of}

-- a BT or NT line: its number, counted from 1, the number of the heading under which it stands, whether it is a BT, and the name in it
pub record Relation : Type 0 where
  pub line : ℕ
  pub under : ℕ
  pub is_broader : Bool
  pub name : Name

-- what all lines give: the headings, numbered "by their own lines", and the BT and NT lines, both in listing order
pub record Lists : Type 0 where
  pub headings : List Name
  pub relations : List Relation

-- the number of the heading with this name; as many as there are headings, if none has it
unfoldable pub number_of : Name → List Name → ℕ
number_of name [] = 0
number_of name (h ∷ hs) = elim (same name h) [ true ↦ 0 | false ↦ suc (number_of name hs) ]

-- the names that stand in headings' own lines
unfoldable pub headings_of : List Line → List Name
headings_of [] = []
headings_of (heading name ∷ rest) = name ∷ headings_of rest
headings_of (broader name ∷ rest) = headings_of rest
headings_of (narrower name ∷ rest) = headings_of rest
headings_of (other ∷ rest) = headings_of rest

abbrev pub is_heading : Name → List Name → Bool
is_heading name headings = ltb (number_of name headings) (length headings)

-- a BT or NT line in line n, "under some heading": the last one so far
abbrev pub relation : ℕ → List Name → Bool → Name → Relation
relation n headings is_broader name = record { line = n; under = length headings - 1; is_broader = is_broader; name = name }

-- The lines from line n on, behind those that gave these headings and relations. "Refusals, in this order for each line: 40 line not of
-- this form .., 41 heading given twice"
unfoldable pub lists_from : List Name → List Relation → ℕ → List Line → Reading Lists
lists_from headings relations n [] = got (record { headings = headings; relations = relations }) n
lists_from headings relations n (heading name ∷ rest) =
    refuse 41 at n if is_heading name headings else λ _.
    lists_from (headings ++ (name ∷ [])) relations (suc n) rest
lists_from headings relations n (broader name ∷ rest) =
    refuse 40 at n if eqb (length headings) 0 else λ _.
    lists_from headings (relations ++ (relation n headings true name ∷ [])) (suc n) rest
lists_from headings relations n (narrower name ∷ rest) =
    refuse 40 at n if eqb (length headings) 0 else λ _.
    lists_from headings (relations ++ (relation n headings false name ∷ [])) (suc n) rest
lists_from headings relations n (other ∷ rest) = refusal 40 n

-- "40 .. (an empty listing: line 1)"
unfoldable pub lists_of : List ℕ → Reading Lists
lists_of bs =
    refuse 40 at 1 if eqb (length bs) 0 else λ _.
    lists_from [] [] 1 (lines_of bs)

-- one line is the mirror of another: it stands under the heading that the other names, names the one under which the other stands, and is
-- an NT where the other is a BT
unfoldable pub mirrors : List Name → Relation → Relation → Bool
mirrors headings r m =
    eqb m.under (number_of r.name headings) && not (beq m.is_broader r.is_broader) && same m.name (get_or headings r.under [])

unfoldable pub mirrored : List Name → List Relation → Relation → Bool
mirrored headings [] r = false
mirrored headings (m ∷ ms) r = mirrors headings r m || mirrored headings ms r

-- "after the last line 42 a BT or NT whose mirror line is missing or whose heading has no line of its own": the first of these
unfoldable pub mirrored_from : Lists → List Relation → ℕ → Reading Lists
mirrored_from l [] n = got l n
mirrored_from l (r ∷ rest) n =
    refuse 42 at r.line if not (is_heading r.name l.headings) else λ _.
    refuse 42 at r.line if not (mirrored l.headings l.relations r) else λ _.
    mirrored_from l rest n

-- the numbers of heading x's broader terms, in listing order
unfoldable pub broader_of : List Name → List Relation → ℕ → List ℕ
broader_of headings [] x = []
broader_of headings (r ∷ rest) x = elim (r.is_broader && eqb r.under x) [
  | true ↦ number_of r.name headings ∷ broader_of headings rest x
  | false ↦ broader_of headings rest x
]

-- for each heading the numbers of its broader terms
abbrev pub Broader : Type 0
Broader = List (List ℕ)

-- those of so many headings, from heading x on
unfoldable pub broader_from : Lists → ℕ → ℕ → Broader
broader_from l zero x = []
broader_from l (suc n) x = broader_of l.headings l.relations x ∷ broader_from l n (suc x)

-- what the listing says of broader terms, or the first line at fault
unfoldable pub broader_in : List ℕ → Reading Broader
broader_in bs =
    lists_of bs then λ l n.
    mirrored_from l l.relations n then λ l n.
    got (broader_from l (length l.headings) 0) n
