-- Headings given twice, block by block: a table of headings, found by chains of equal hash. For contracts of inner functions.
use Rattle.std.specs.Prelude.{Option, Some, None, Bool, true, false, ◌≡◌, List, [], ◌∷◌, ℕ, ◌+◌, ◌*◌, ◌-◌, ◌%◌, ◌≤◌, ◌<◌, get_or, length, drop, set}
use Rattle.tagged.specs.Lines.{Name, Line, heading, broader, narrower, other, same, lines_from, lines_of}
use Rattle.terms.specs.Judging.{kind_of, name_at, line_at}
use Rattle.terms.specs.declared.judge.Entry.{Entry}
use Rattle.terms.specs.declared.judge.Entry.TheVariants.{Given, New, NoHeading}
use Rattle.terms.specs.declared.judge.Filled.{Filled}
use Rattle.terms.specs.declared.judge.Filled.TheVariants.{Twice, Full, Over}

-- ---- pairs of lines

-- the line gives the heading with this name
abbrev pub gives : Name → Line → Bool
gives old (heading name) = same name old
gives old (broader name) = false
gives old (narrower name) = false
gives old other = false

-- the second line gives the heading that the first gives
abbrev pub gives_same : Line → Line → Bool
gives_same (heading old) l = gives old l
gives_same (broader name) l = false
gives_same (narrower name) l = false
gives_same other l = false

-- the line with number n, counted from 0
abbrev pub nth : List ℕ → ℕ → Line
nth s n = get_or (lines_of s) n other

-- line n stands at this place
abbrev pub Stands : List ℕ → ℕ → ℕ → Type 0
Stands s at n = lines_from [] (drop at s) ≡ drop n (lines_of s)

-- no line below `until` gives the heading of an earlier one from `low` on
abbrev pub Once : List ℕ → ℕ → ℕ → Type 0
Once s low until = (i j : ℕ) → low ≤ i → i < j → j < until → gives_same (nth s i) (nth s j) ≡ true → ⊥

-- line t, counted from 1, is the first that does
pub record TwiceFirst (s : List ℕ) (low until t : ℕ) : Type 0 where
  pub some : 0 < t
  pub within : t ≤ until
  pub old : ℕ
  pub before : old < t - 1
  pub again : gives_same (nth s old) (nth s (t - 1)) ≡ true
  pub once : Once s low (t - 1)

-- ---- hashes

-- the one thing that counts of a hash: the same bytes have the same
unfoldable pub hash_from : ℕ → List ℕ → ℕ
hash_from h [] = h
hash_from h (b ∷ bs) = hash_from ((h * 257 + b) % 4294967291) bs

abbrev pub table_size : ℕ
table_size = 8192

unfoldable pub hash_of : Name → ℕ
hash_of name = hash_from 0 name % table_size

-- ---- chains

-- Each of the first n entries, whose hashes these are, names the one before it with the same hash, by its number counted from 1; 0 if there is none.
pub record Chained (hash : ℕ → ℕ) (before : List ℕ) (n : ℕ) : Type 0 where
  pub low : (k : ℕ) → k < n → get_or before k 0 ≤ k
  pub own : (k : ℕ) → k < n → 0 < get_or before k 0 → hash (get_or before k 0 - 1) ≡ hash k
  pub all : (k j : ℕ) → k < n → get_or before k 0 ≤ j → j < k → hash j ≡ hash k → ⊥

-- and for each hash the last entry that has it is known
pub record Headed (hash : ℕ → ℕ) (last : List ℕ) (n : ℕ) : Type 0 where
  pub low : (h : ℕ) → get_or last h 0 ≤ n
  pub own : (h : ℕ) → 0 < get_or last h 0 → hash (get_or last h 0 - 1) ≡ h
  pub all : (h k : ℕ) → h < table_size → get_or last h 0 ≤ k → k < n → hash k ≡ h → ⊥

-- the name of the heading that is entry k
abbrev pub name_of : List ℕ → List ℕ → ℕ → Name
name_of s place k = name_at s (get_or place k 0)

abbrev pub Inside : List ℕ → List ℕ → ℕ → Type 0
Inside s place n = (k : ℕ) → k < n → get_or place k 0 ≤ length s

-- a row with a number for each hash, or for each entry
abbrev pub Sized : List ℕ → Type 0
Sized row = length row ≡ table_size

-- three rows for a table
abbrev pub Rows : List ℕ → List ℕ → List ℕ → Type 0
Rows place before last = Sized place × Sized before × Sized last

-- no name has been entered
abbrev pub Cleared : List ℕ → Type 0
Cleared last = Sized last × ((h : ℕ) → get_or last h 0 ≡ 0)

pub record Table (s place before last : List ℕ) (n : ℕ) : Type 0 where
  pub sized : Rows place before last
  pub inside : Inside s place n
  pub chained : Chained (λ (k : ℕ). hash_of (name_of s place k)) before n
  pub headed : Headed (λ (k : ℕ). hash_of (name_of s place k)) last n

-- what a search among the first n entries tells
abbrev pub Sought : Bool → List ℕ → List ℕ → ℕ → Name → Type 0
Sought true s place n name = (k : ℕ) × (k < n) × (same name (name_of s place k) ≡ true)
Sought false s place n name = (k : ℕ) → k < n → same name (name_of s place k) ≡ true → ⊥

-- what is told of the line at a place, with a table of n entries: it gives one of them again, it gives another, which is now entry n, or it gives none
abbrev pub Entered : Entry → List ℕ → ℕ → ℕ → List ℕ → List ℕ → List ℕ → List ℕ → List ℕ → List ℕ → Type 0
Entered Given s at n place before last place' before' last' = (kind_of (line_at s at) ≡ 1) × Sought true s place n (name_at s at)
Entered New s at n place before last place' before' last' =
    (kind_of (line_at s at) ≡ 1) × Sought false s place n (name_at s at) × (place' ≡ set place n at)
    × (before' ≡ set before n (get_or last (hash_of (name_at s at)) 0)) × (last' ≡ set last (hash_of (name_at s at)) (n + 1))
Entered NoHeading s at n place before last place' before' last' = (kind_of (line_at s at) ≡ 1 → ⊥) × (place' ≡ place) × (before' ≡ before) × (last' ≡ last)

-- ---- a block: the headings of the lines from `low` on and below `high`

pub record Block (s : List ℕ) (low high : ℕ) (place before last : List ℕ) (n : ℕ) : Type 0 where
  pub table : Table s place before last n
  pub from : (k : ℕ) → k < n → (i : ℕ) × (i < high) × (nth s i ≡ heading (name_of s place k))
  pub all : (i : ℕ) → low ≤ i → i < high → (name : Name) → nth s i ≡ heading name → (k : ℕ) × (k < n) × (name_of s place k ≡ name)
  pub once : Once s low high

-- line `line`, counted from 1, stands at this place
pub record Begins (s : List ℕ) (at line : ℕ) : Type 0 where
  pub stands : Stands s at (line - 1)
  pub some : 0 < line
  pub few : line ≤ at + 1

-- what filling the table with the lines from line `line` on tells, counted from 1
abbrev pub FilledAs : Filled → List ℕ → ℕ → ℕ → ℕ → List ℕ → List ℕ → List ℕ → Type 0
FilledAs (Twice t) s at line until place before last = TwiceFirst s (line - 1) until t
FilledAs Over s at line until place before last = Once s (line - 1) until
FilledAs (Full p n) s at line until place before last =
    Block s (line - 1) (n - 1) place before last table_size × Begins s p n × (at < p) × (line ≤ n)

-- one of the table's headings is given in line n again, counted from 0
abbrev pub Known : List ℕ → List ℕ → ℕ → Type 0
Known s place n = (k : ℕ) × (k < table_size) × (gives (name_of s place k) (nth s n) ≡ true)

-- what is told of the line at a place
abbrev pub KnownBy : Bool → List ℕ → List ℕ → ℕ → Type 0
KnownBy true s place at = (k : ℕ) × (k < table_size) × (gives (name_of s place k) (line_at s at) ≡ true)
KnownBy false s place at = (k : ℕ) → k < table_size → gives (name_of s place k) (line_at s at) ≡ true → ⊥

-- what looking the lines from line `line` on up in a full table tells, counted from 1: the first that is known
abbrev pub KnownFirst : List ℕ → List ℕ → ℕ → ℕ → Option ℕ → Type 0
KnownFirst s place line until None = (j : ℕ) → line - 1 ≤ j → j < until → Known s place j → ⊥
KnownFirst s place line until (Some t) =
    (t ≤ until) × (line ≤ t) × Known s place (t - 1) × ((j : ℕ) → line - 1 ≤ j → j < t - 1 → Known s place j → ⊥)

-- the first line so far that gives a heading again, counted from 1, among those whose earlier line stands below `low`
abbrev pub BestSoFar : List ℕ → ℕ → Option ℕ → ℕ → Type 0
BestSoFar s lines None low = (i j : ℕ) → i < low → i < j → j < lines → gives_same (nth s i) (nth s j) ≡ true → ⊥
BestSoFar s lines (Some best) low =
    (0 < best) × (best ≤ lines) × ((old : ℕ) × (old < best - 1) × (gives_same (nth s old) (nth s (best - 1)) ≡ true))
    × ((i j : ℕ) → i < low → i < j → j < best - 1 → gives_same (nth s i) (nth s j) ≡ true → ⊥)

-- the lines that are still of interest
abbrev pub until_told : Option ℕ → ℕ → ℕ
until_told None lines = lines
until_told (Some best) lines = best - 1
