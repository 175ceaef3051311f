-- The bytes of a book whose rows are given. Every number becomes one byte, but two kinds become two: a symbol in an expression, and the number that
-- opens a tree's row, in whose place stands the tree's length. So a tree's row is read along, to know which of its numbers are symbols.
use Rattle.std.specs.Prelude.{true, false, List, [], ◌∷◌, ◌++◌, map, ℕ, zero, suc, ◌+◌, min, ltb, length, get_or}
use Rattle.reading.specs.Bytes.{two_bytes}
use Rattle.symbols.specs.Symbols.{Symbol, Symbols}
use Rattle.writer.specs.Rows.{Row, rows_in}

-- a number that no byte holds becomes 255, which no book has where one byte stands for a row's number
unfoldable pub byte_of : ℕ → ℕ
byte_of n = min 255 n

-- how many arguments each symbol takes
unfoldable pub arities_of : Symbols → List ℕ
arities_of symbols = map (λ (x : Symbol). length x.arguments) symbols

-- what the next number of a tree's row is
pub data Next : Type 0 where
  code : Next
  variable : Next
  symbol : Next

-- that, and how many expressions are still to come behind it; where none is, the next code is a tree's
pub record Due : Type 0 where
  pub next : Next
  pub expressions : ℕ

abbrev pub due : Next → ℕ → Due
due next expressions = record { next = next; expressions = expressions }

-- What follows an unknown code only matters for the size of a book that is refused anyway.

-- behind a tree's code: "0 exempt; 1 rule, then an expression; 2 branch, then a variable byte, then one tree for each constructor"
unfoldable pub behind_tree : ℕ → Due
behind_tree zero = due code 0
behind_tree (suc zero) = due code 1
behind_tree (suc (suc zero)) = due variable 0
behind_tree (suc (suc (suc n))) = due code 0

-- behind an expression's code, with others to come: "0 variable, one byte; 1 apply, a two-byte symbol, then arguments; 2 choice, two expressions; 3 fail"
unfoldable pub behind_expr : ℕ → ℕ → Due
behind_expr others zero = due variable others
behind_expr others (suc zero) = due symbol others
behind_expr others (suc (suc zero)) = due code (2 + others)
behind_expr others (suc (suc (suc n))) = due code others

unfoldable pub behind_code : ℕ → ℕ → Due
behind_code zero n = behind_tree n
behind_code (suc others) n = behind_expr others n

-- behind any number; a symbol's arguments are expressions to come
unfoldable pub behind : List ℕ → Due → ℕ → Due
behind arities d n = elim d.next [
  | code ↦ behind_code d.expressions n
  | variable ↦ due code d.expressions
  | symbol ↦ due code (get_or arities n 0 + d.expressions)
]

unfoldable pub number_bytes : Next → ℕ → List ℕ
number_bytes code n = byte_of n ∷ []
number_bytes variable n = byte_of n ∷ []
number_bytes symbol n = two_bytes n

-- the bytes of the numbers of a row
unfoldable pub numbers_bytes : List ℕ → Due → List ℕ → List ℕ
numbers_bytes arities d [] = []
numbers_bytes arities d (n ∷ ns) = number_bytes d.next n ++ numbers_bytes arities (behind arities d n) ns

unfoldable pub tree_row_bytes : List ℕ → List ℕ → List ℕ
tree_row_bytes arities numbers = numbers_bytes arities (due code 0) numbers

-- the length that a row with numbers missing gets: the most that two bytes hold, it runs past the end of every book, so that the row is refused
abbrev pub past_every_book : ℕ
past_every_book = 65535

-- "each opened by a two-byte length"
unfoldable pub item_bytes : List ℕ → Row → List ℕ
item_bytes arities row =
    let bytes = tree_row_bytes arities row.numbers in
    two_bytes (elim (ltb (length row.numbers) row.says) [ true ↦ past_every_book | false ↦ length bytes ]) ++ bytes

-- the rows of trees, one behind the other
unfoldable pub items_bytes : List ℕ → List Row → List ℕ
items_bytes arities [] = []
items_bytes arities (row ∷ rows) = item_bytes arities row ++ items_bytes arities rows

-- "Each part opens with its length in two bytes, which counts what follows."
unfoldable pub part_bytes : List ℕ → List ℕ
part_bytes bytes = two_bytes (length bytes) ++ bytes

-- "A book is a version byte 1, the symbol part, the tree part." A symbol's row has the numbers that stand in the symbol part.
unfoldable pub front_bytes : List ℕ → List ℕ
front_bytes symbol_rows = 1 ∷ part_bytes (map byte_of symbol_rows)

-- the tree part, from all its rows
unfoldable pub tree_part_bytes : List ℕ → List ℕ → List ℕ
tree_part_bytes arities tree_rows = part_bytes (items_bytes arities (rows_in tree_rows))
