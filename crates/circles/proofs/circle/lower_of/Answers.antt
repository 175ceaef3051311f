-- `lower_of` meets its contract.
use native.Mathlib.Omega.{arith}
use Rattle.circles.proofs.circle.lower_of.Goals as goal

pub returns-then-b-low : goal.returns-then-b-low
returns-then-b-low c = rw c.if-counts.true (omega arith)

pub returns-else-b-low : goal.returns-else-b-low
returns-else-b-low c = rw c.if-counts.true (omega arith)

pub returns-else-counts : goal.returns-else-counts
returns-else-counts c = rw c.if-counts.false (omega arith)
