-- What the loops of `+read_symbols` keep.
use Prim.Native.Nat.{◌-◌}
use Rattle.symbol_part.proofs.+read_symbols.Given as goal

abbrev pub decreases-read_symbols : goal.decreases-read_symbols
decreases-read_symbols l = l.e - l.p
