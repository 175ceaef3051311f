-- What the loops of `+count_symbols` keep.
use Prim.Native.Nat.{◌-◌}
use Rattle.symbol_part.proofs.+count_symbols.Given as goal

abbrev pub decreases-count_symbols : goal.decreases-count_symbols
decreases-count_symbols l = l.e - l.p
