-- What is promised of the rest of a table's input, by the methods that take from it and by each function that shows a row of it.
use Rattle.std.specs.Prelude.{◌-◌, ◌≤◌, length}
use Rattle.tables.specs.declared.Fields.{Fields}

-- a byte at least is taken from what is left, if there is one
abbrev pub TakesSome : Fields → Fields → Type 0
TakesSome was is = length is.left.now ≤ length was.left.now - 1
