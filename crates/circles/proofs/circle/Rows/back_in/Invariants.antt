-- What the loops of `back_in` keep.
use Prim.Native.Nat.{◌≤◌}
use Rattle.circles.specs.Saving.{held}
use Rattle.circles.proofs.MarkWays.{Backed}
use Rattle.circles.proofs.circle.Rows.back_in.Given as goal

abbrev pub invariant-loop-k : goal.invariant-loop-k
invariant-loop-k l = (l.k ≤ l.best) × Backed (held l.self.from.now l.self.to.now l.self.n) l.x l.k l.marks
