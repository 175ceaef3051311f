-- What the loops of `one_round` keep.
use Prim.Native.Nat.{ℕ, ◌≤◌}
use Rattle.tagged.specs.Hops.{broader_of}
use Rattle.tagged.specs.Levels.{longest}
use Rattle.circles.specs.Saving.{held}
use Rattle.circles.proofs.SavingRows.{Filled}
use Rattle.circles.proofs.circle.Rows.one_round.Given as goal

abbrev pub invariant-loop-x : goal.invariant-loop-x
invariant-loop-x l = (l.x ≤ l.self.n) × Filled (λ (y : ℕ). longest l.row (broader_of (held l.self.from.now l.self.to.now l.self.n) y)) 0 341 l.next l.x
