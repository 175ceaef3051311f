-- What the loops of `one_hop` keep.
use mathlib.Core.Bool.{false, ◌&&◌}
use Prim.Native.Nat.{ℕ, ◌≤◌}
use lib.Dec.{leb}
use Rattle.tagged.specs.Hops.{broader_of}
use Rattle.tagged.specs.Circle.{some_marked}
use Rattle.circles.specs.Saving.{held}
use Rattle.circles.proofs.SavingRows.{Filled}
use Rattle.circles.proofs.circle.Rows.one_hop.Given as goal

abbrev pub invariant-loop-x : goal.invariant-loop-x
invariant-loop-x l = (l.low ≤ l.x) × Filled (λ (y : ℕ). leb l.low y && some_marked l.marks (broader_of (held l.self.from.now l.self.to.now l.self.n) y)) false 341 l.next l.x
