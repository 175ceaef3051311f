-- What the loops of `levels_of` keep.
use Prim.Native.Nat.{◌+◌, ◌≤◌}
use Rattle.circles.specs.Saving.{held}
use Rattle.circles.proofs.RoundWays.{Rounded}
use Rattle.circles.proofs.circle.Rows.levels_of.Given as goal

abbrev pub invariant-loop-k : goal.invariant-loop-k
invariant-loop-k l = (l._k ≤ l.self.n + 1) × Rounded (held l.self.from.now l.self.to.now l.self.n) l._k l.row
