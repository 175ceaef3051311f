-- What the loops of `below_in` keep.
use Prim.Native.Nat.{◌≤◌}
use Rattle.tagged.specs.Circle.{below}
use Rattle.circles.specs.Saving.{held, SameMarks}
use Rattle.circles.proofs.circle.Rows.below_in.Given as goal

abbrev pub invariant-loop-i : goal.invariant-loop-i
invariant-loop-i l = (l._i ≤ l.k) × SameMarks l.marks (below (held l.self.from.now l.self.to.now l.self.n) l.x l._i)
