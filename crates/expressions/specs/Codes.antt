-- The numbers of the codes of an expression.
use Rattle.std.specs.Prelude.{ℕ}
use Rattle.expressions.specs.declared.Code.{Code}
use Rattle.expressions.specs.declared.Code.TheVariants.{Variable, Apply, Choice, Fail, Shared}

-- "0 variable, .. 1 apply, .. 2 choice, .. 3 fail"; in edition 2 also "4: a sort byte, .."
abbrev pub number_of : Code → ℕ
number_of Variable = 0
number_of Apply = 1
number_of Choice = 2
number_of Fail = 3
number_of Shared = 4
