-- What the loop of `read_sorts` keeps: what is left of the sorts gives what all of them give.
use mathlib.Core.Path.{◌≡◌}
use Prim.Native.Nat.{◌+◌, ◌-◌}
use Rattle.reading.specs.Answer.{keeping, nothing}
use Rattle.symbols.specs.SymbolPart.{sorts_at}
use Rattle.symbol_part.proofs.read_sorts.Given as goal

abbrev pub invariant-loop-q : goal.invariant-loop-q
invariant-loop-q l = keeping nothing (sorts_at l.s (l.p + l.n - l.q) l.q) ≡ keeping nothing (sorts_at l.s l.n l.p)
