-- What is read of an item as the code holds it: its bytes, who asks, and the symbols of the book.
use Rattle.std.specs.Prelude.{List, ℕ, length}
use Rattle.reading.specs.Reading.{Reading}
use Rattle.reading.specs.Answer.{base_of}
use Rattle.symbols.specs.Symbols.{Symbols}
use Rattle.symbols.specs.Table.{symbols_in}
use Rattle.expressions.specs.ExpressionAt.{ExprReader, variable_at, applied_at, shared_at, expr_at}
use Rattle.expressions.specs.declared.Item.{Item}

abbrev pub symbols_of : Item → Symbols
symbols_of i = symbols_in i.book.now i.at.now

abbrev pub variable_in : Item → List ℕ → ExprReader
variable_in i = variable_at i.s.now (base_of i.who) (length i.s.now)

abbrev pub applied_in : Item → ℕ → ℕ → Reading ℕ
applied_in i = applied_at i.s.now (base_of i.who) (symbols_of i) (length i.s.now)

abbrev pub expr_in : Item → ℕ → List ℕ → ExprReader
expr_in i = expr_at i.s.now (base_of i.who) (symbols_of i) (length i.s.now)

-- a shared part, in which expressions stand as deep as that
abbrev pub shared_in : Item → ℕ → List ℕ → ExprReader
shared_in i f = shared_at i.s.now (base_of i.who) (symbols_of i) (length i.s.now) (expr_in i f)
