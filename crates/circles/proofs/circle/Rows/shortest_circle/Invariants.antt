-- What the loops of `shortest_circle` keep.
use Prim.Native.Nat.{◌≤◌}
use Rattle.circles.specs.Saving.{held}
use Rattle.circles.proofs.MarkWays.{Sought}
use Rattle.circles.proofs.circle.Rows.shortest_circle.Given as goal

abbrev pub invariant-loop-x : goal.invariant-loop-x
invariant-loop-x l = (l.x ≤ l.self.n) × Sought (held l.self.from.now l.self.to.now l.self.n) l.x l.hops l.first
