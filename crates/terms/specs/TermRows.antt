-- How the code holds what a listing says of broader terms: in two rows of numbers.
use Rattle.std.specs.Prelude.{Result, Ok, Err, true, false, ◌≡◌, List, [], ◌∷◌, ◌++◌, ℕ, zero, suc, ◌+◌, ◌-◌, ◌≤◌, ◌<◌, length, get_or, replicate}
use Rattle.reading.specs.Reading.{Reading, got, refusal}
use Rattle.tagged.specs.Listing.{Broader}
use Rattle.tagged.specs.Terms.{rules_for}
use Rattle.tagged.specs.Laid.{laid}
use Rattle.tagged.specs.Write.{passes}
use Rattle.terms.specs.Places.{bytes_of}
use Rattle.terms.specs.Refusals.{number_of}
use Rattle.terms.specs.declared.terms.Terms.{Terms as Rows}
use Rattle.terms.specs.declared.faults.Refusal.{Refusal}

-- the broader terms of n headings, from heading x on: those of x stand in `to` from place from[x] to place from[x + 1], in listing order
unfoldable pub broader_rows : List ℕ → List ℕ → ℕ → ℕ → Broader
broader_rows from to zero x = []
broader_rows from to (suc n) x = bytes_of to (get_or from x 0) (get_or from (suc x) 0) ∷ broader_rows from to n (suc x)

-- the most headings of a book of 1,024 symbols, and the most broader terms of a book of 32,768 bytes that has so many
abbrev pub most_headings : ℕ
most_headings = 341

abbrev pub most_terms : ℕ
most_terms = 2736

-- two rows that hold the broader terms of n headings
pub record HoldTerms (from to : List ℕ) (n : ℕ) : Type 0 where
  pub few : n ≤ most_headings
  pub opens : get_or from 0 0 ≡ 0
  pub rising : (x : ℕ) → x < n → get_or from x 0 ≤ get_or from (suc x) 0
  pub filled : (x : ℕ) → x ≤ n → get_or from x 0 ≤ most_terms
  pub inside : (i : ℕ) → i < get_or from n 0 → get_or to i 0 < n

-- what the judge of a listing tells: the refusal, or how many headings there are
abbrev pub JudgedAs : Result ℕ Refusal → Reading Broader → Type 0
JudgedAs (Err r) (refusal c line) = (number_of r.fault ≡ c) × (r.line ≡ line)
JudgedAs (Err r) (got broader n) = ⊥
JudgedAs (Ok headings) (refusal c line) = ⊥
JudgedAs (Ok headings) (got broader n) = headings ≡ length broader

-- ---- what is told of a listing's terms

-- 0, how many headings there are, the size of their book and the two rows; or the number of a refusal and its line
pub record Terms : Type 0 where
  pub number : ℕ
  pub line : ℕ
  pub headings : ℕ
  pub size : ℕ
  pub from : List ℕ
  pub to : List ℕ

-- where the terms of each heading open, from place k on, and where the last ones end
unfoldable pub opens_from : ℕ → Broader → List ℕ
opens_from k [] = k ∷ []
opens_from k (row ∷ rows) = k ∷ opens_from (k + length row) rows

-- the terms of all headings, one behind the other
unfoldable pub all_terms : Broader → List ℕ
all_terms [] = []
all_terms (row ∷ rows) = row ++ all_terms rows

-- so many numbers: these, and 0 behind them
abbrev pub filled_to : ℕ → List ℕ → List ℕ
filled_to many l = l ++ replicate (many - length l) 0

-- a refusal: "nothing is written", and the rows stay empty
abbrev pub refused_as : ℕ → ℕ → Terms
refused_as c line = record { number = c; line = line; headings = 0; size = 0; from = replicate 342 0; to = replicate most_terms 0 }

-- the code's answer in these words
abbrev pub told_of : Result Rows Refusal → Terms
told_of (Ok t) = record { number = 0; line = 0; headings = t.headings; size = t.size; from = t.from; to = t.to }
told_of (Err r) = refused_as (number_of r.fault) r.line

-- the size of the book, and the two rows
abbrev pub held_as : Broader → Terms
held_as broader = record {
  number = 0;
  line = 0;
  headings = length broader;
  size = length (laid (rules_for broader));
  from = filled_to 342 (opens_from 0 broader);
  to = filled_to most_terms (all_terms broader);
}

-- a refusal of 40 to 42, 43 "for sizes only", or the terms
abbrev pub terms_told : Reading Broader → Terms
terms_told (refusal c line) = refused_as c line
terms_told (got broader n) = elim (passes broader) [ true ↦ refused_as 43 0 | false ↦ held_as broader ]

-- the same in the words that callers need: what the rows hold
pub record Fitting (t : Terms) (broader : Broader) : Type 0 where
  pub none : t.number ≡ 0
  pub headings : t.headings ≡ length broader
  pub size : t.size ≡ length (laid (rules_for broader))
  pub hold : HoldTerms t.from t.to (length broader)
  pub rows : broader_rows t.from t.to (length broader) 0 ≡ broader

abbrev pub TermsAs : Terms → Reading Broader → Type 0
TermsAs t (refusal c line) = (t.number ≡ c) × (t.line ≡ line)
TermsAs t (got broader n) = elim (passes broader) [
  | true ↦ (t.number ≡ 43) × (t.line ≡ 0)
  | false ↦ Fitting t broader
]
