-- The bytes of a listing's book as the code puts them, part by part. For contracts of inner functions.
use Rattle.std.specs.Prelude.{Result, Ok, Err, Bool, true, false, ◌≡◌, List, [], ◌∷◌, ◌++◌, ℕ, zero, suc, ◌+◌, ◌*◌, ◌≤◌, ◌<◌, length, get_or}
use Rattle.std.proofs.lemmas.List.Edits.{sets}
use Rattle.limits.specs.Sizes.{most_book_bytes}
use Rattle.reading.specs.Bytes.{two_bytes}
use Rattle.expressions.specs.Expressions.{Expr}
use Rattle.book.specs.Trees.{Tree}
use Rattle.tagged.specs.Listing.{Broader}
use Rattle.tagged.specs.Terms.{nested, first_of, second_of, symbols_for, rules_for}
use Rattle.tagged.specs.Laid.{expr_laid, tree_laid, symbols_laid, length_first, laid}
use Rattle.tagged.specs.Write.{Outcome}
use Rattle.terms.specs.TermRows.{most_headings, most_terms, broader_rows, HoldTerms}
use Rattle.terms.specs.Refusals.{number_of}
use Rattle.terms.specs.declared.faults.Refusal.{Refusal}

-- ---- putting

-- bytes at a place that end within a book
abbrev pub Fits : ℕ → List ℕ → Type 0
Fits at bytes = at + length bytes ≤ most_book_bytes

-- bytes put at a place: the place behind them, and the room with them, as it was elsewhere
pub record Put (old : List ℕ) (at : ℕ) (bytes : List ℕ) (next : ℕ) (new : List ℕ) : Type 0 where
  pub behind : next ≡ at + length bytes
  pub room : new ≡ sets old at bytes

-- ---- the symbols

-- a symbol of a kind, of sort 0 and without arguments; and so many of them
abbrev pub kind_laid : ℕ → List ℕ
kind_laid kind = 2 ∷ kind ∷ 0 ∷ []

unfoldable pub kinds_laid : ℕ → ℕ → List ℕ
kinds_laid zero kind = []
kinds_laid (suc n) kind = kind_laid kind ++ kinds_laid n kind

-- the version byte and the symbol part, of n headings
unfoldable pub front_laid : ℕ → List ℕ
front_laid n = 1 ∷ length_first (symbols_laid (symbols_for n))

-- ---- the rules

-- symbol f, which takes no arguments
unfoldable pub term_laid : ℕ → List ℕ
term_laid f = 1 ∷ two_bytes f

-- the rule of a heading's first operation or, where `above` says so, of its second
unfoldable pub rule_of : Bool → ℕ → List ℕ → Expr
rule_of false n bs = nested (first_of bs)
rule_of true n bs = nested (second_of n bs)

unfoldable pub nest_laid : Bool → ℕ → List ℕ → List ℕ
nest_laid above n bs = expr_laid (rule_of above n bs)

-- what a broader term that is not the last gives of it
unfoldable pub next_laid : Bool → ℕ → ℕ → List ℕ
next_laid false n x = 2 ∷ term_laid x
next_laid true n x = (2 ∷ term_laid x) ++ (2 ∷ term_laid (n + n + x))

-- how many bytes a rule of so many broader terms takes
unfoldable pub size_of : Bool → ℕ → ℕ
size_of above zero = 2
size_of false (suc k) = 4 * suc k
size_of true (suc k) = 8 * suc k

-- with its length in front
unfoldable pub rule_laid : Bool → ℕ → List ℕ → List ℕ
rule_laid above n bs = length_first (tree_laid (Tree.rule (rule_of above n bs)))

unfoldable pub rules_laid : Bool → ℕ → Broader → List ℕ
rules_laid above n [] = []
rules_laid above n (bs ∷ rest) = rule_laid above n bs ++ rules_laid above n rest

-- the rules of n headings' first operations and of their second
unfoldable pub part_laid : ℕ → Broader → List ℕ
part_laid n broader = rules_laid false n broader ++ rules_laid true n broader

-- a heading's broader terms, from place a to place b of `to`, of n headings; and the two rows of them all
pub record HoldRow (to : List ℕ) (n a b : ℕ) : Type 0 where
  pub whole : length to ≡ most_terms
  pub few : n ≤ most_headings
  pub rising : a ≤ b
  pub filled : b ≤ most_terms
  pub inside : (i : ℕ) → i < b → get_or to i 0 < n

pub record HoldRows (from to : List ℕ) (n : ℕ) : Type 0 where
  pub whole : length to ≡ most_terms
  pub terms : HoldTerms from to n

-- the tree part and the book of the broader terms that two rows hold
abbrev pub part_of : List ℕ → List ℕ → ℕ → List ℕ
part_of from to n = part_laid n (broader_rows from to n 0)

abbrev pub book_of : List ℕ → List ℕ → ℕ → List ℕ
book_of from to n = laid (rules_for (broader_rows from to n 0))

-- ---- the result

-- what is handed back, and the room lent after it
abbrev pub outcome_of : Result ℕ Refusal → List ℕ → Outcome
outcome_of (Ok bytes) room = record { result = record { number = 0; line = 0; bytes = bytes }; room = room }
outcome_of (Err r) room = record { result = record { number = number_of r.fault; line = r.line; bytes = 0 }; room = room }
