-- Admission: what a book or a question means, or the first fault met.
use Rattle.std.specs.Prelude.{List, [], ℕ, ltb, eqb, length}
use Rattle.limits.specs.Sizes.{most_question_bytes, last_sort}
use Rattle.reading.specs.Reading.{Reading, got, ◌then◌, refuse◌at◌if◌else◌}
use Rattle.reading.specs.Bytes.{byte_at, length_at}
use Rattle.symbols.specs.Symbols.{Symbols}
use Rattle.symbols.specs.SymbolPart.{symbol_part}
use Rattle.expressions.specs.Expressions.{Expr}
use Rattle.expressions.specs.ExpressionAt.{whole_expr_at}
use Rattle.book.specs.TreeAt.{tree_part}
use Rattle.book.specs.Rules.{Rules}

-- "A book is a version byte .., the symbol part, the tree part." What its version allows is judged where it stands.
unfoldable pub read_book : List ℕ → Reading Rules
read_book bs =
    symbol_part bs then λ symbols p.
    tree_part bs symbols p then λ trees q.
    got (record { symbols = symbols; trees = trees }) q

-- "A question is a version byte .., a two-byte length, a sort byte, one expression": the end of what the length counts, and the place
-- of the sort byte. "2 and 12 now mean neither 1 nor 2"
unfoldable pub question_opened : List ℕ → Reading ℕ
question_opened bs =
    let size = length bs in
    refuse 11 at 0 if ltb most_question_bytes size else λ _.
    byte_at bs 10 size 0 then λ version p.
    refuse 12 at 0 if eqb version 0 else λ _.
    refuse 12 at 0 if ltb 2 version else λ _.
    length_at bs 10 size p

-- "one expression of that sort with no variables bound", behind the sort byte at p. "13 is given only for its sort byte above 63"
unfoldable pub asked_at : Symbols → List ℕ → ℕ → ℕ → Reading Expr
asked_at symbols bs e p =
    byte_at bs 10 e p then λ sort q.
    refuse 13 at p if ltb last_sort sort else λ _.
    whole_expr_at bs 10 symbols e [] sort q then λ x r.
    refuse 11 at r if ltb r e else λ _.
    refuse 11 at r if ltb r (length bs) else λ _.
    got x r

unfoldable pub read_question : Symbols → List ℕ → Reading Expr
read_question symbols bs =
    question_opened bs then λ e p.
    asked_at symbols bs e p
