-- The book that is written of a listing, and what is left in the room lent.
use Rattle.std.specs.Prelude.{Bool, true, false, ◌||◌, List, [], ◌∷◌, ◌++◌, ℕ, suc, ◌+◌, ltb, length, drop}
use Rattle.limits.specs.Sizes.{most_book_bytes, most_symbols, most_expression_nodes}
use Rattle.reading.specs.Reading.{got, refusal}
use Rattle.expressions.specs.Expressions.{Expr, Exprs}
use Rattle.tagged.specs.Listing.{Broader, broader_in}
use Rattle.tagged.specs.Terms.{first_rules, second_rules, rules_for}
use Rattle.tagged.specs.Laid.{laid}

-- how many nodes an expression has: "variables don't count"
unfoldable mutual
  pub nodes_of : Expr → ℕ
  nodes_of (Expr.var x) = 0
  nodes_of (Expr.apply f es) = suc (nodes_of_row es)
  nodes_of (Expr.choice a b) = suc (nodes_of a + nodes_of b)
  nodes_of Expr.fail = 1
  nodes_of (Expr.shared s a b) = nodes_of a + nodes_of b

  pub nodes_of_row : Exprs → ℕ
  nodes_of_row Exprs.no_exprs = 0
  nodes_of_row (Exprs.more_exprs e es) = nodes_of e + nodes_of_row es

-- some rule has more nodes than one expression may have
unfoldable pub some_over : List Expr → Bool
some_over [] = false
some_over (e ∷ es) = ltb most_expression_nodes (nodes_of e) || some_over es

-- "the book would pass a size in document 01": "1,024 symbols", "64 nodes in one expression", "Book 32,768 bytes"
unfoldable pub passes : Broader → Bool
passes broader =
    let n = length broader in
    ltb most_symbols (n + (n + n))
    || some_over (first_rules broader ++ second_rules n broader)
    || ltb most_book_bytes (length (laid (rules_for broader)))

-- the numbers handed back: 0 or the refusal, the line concerned, and how many bytes were written
pub record Result : Type 0 where
  pub number : ℕ
  pub line : ℕ
  pub bytes : ℕ

-- with the room lent, after it
pub record Outcome : Type 0 where
  pub result : Result
  pub room : List ℕ

-- "nothing is written"
abbrev pub refusing : ℕ → ℕ → List ℕ → Outcome
refusing c line room = record { result = record { number = c; line = line; bytes = 0 }; room = room }

-- "43 the book would pass a size in document 01 or the room lent"; "43 gives line 0"
unfoldable pub written : Broader → List ℕ → Outcome
written broader room =
    let bytes = laid (rules_for broader) in
    elim (passes broader || ltb (length room) (length bytes)) [
      | true ↦ refusing 43 0 room
      | false ↦ record { result = record { number = 0; line = 0; bytes = length bytes }; room = bytes ++ drop (length bytes) room }
    ]

-- "Books from the tagged listing": 40, 41 for each line, then 42, then 43
unfoldable pub book_from : List ℕ → List ℕ → Outcome
book_from listing room = elim (broader_in listing) [
  | refusal c line ↦ refusing c line room
  | got broader _ ↦ written broader room
]
