-- What the loops of `+put_row_put_symbols` keep.
use Prim.Native.Nat.{◌+◌, ◌-◌, ◌*◌}
use Rattle.recording.proofs.put.Lent.+put_row_put_symbols.Given as goal

-- the depth falls from an apply to its arguments, of which there are fewer than 128, and those left fall along a row
abbrev pub decreases-put_row : goal.decreases-put_row
decreases-put_row l = l.depth * 129 + (l.arity - l.j) + 1

abbrev pub decreases-put_symbols : goal.decreases-put_symbols
decreases-put_symbols l = l.depth * 129
