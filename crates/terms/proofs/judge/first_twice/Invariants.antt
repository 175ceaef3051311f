-- What the loops of `first_twice` keep.
use Prim.Native.Nat.{◌-◌}
use lib.ListN.{length}
use Rattle.terms.specs.Blocks.{Begins, Rows, BestSoFar}
use Rattle.terms.proofs.judge.first_twice.Given as goal

abbrev pub invariant-loop-at : goal.invariant-loop-at
invariant-loop-at l = Begins l.s l.at l.line × Rows l.names.place l.names.before l.names.last × BestSoFar l.s l.lines l.best (l.line - 1)

abbrev pub decreases-loop-at : goal.decreases-loop-at
decreases-loop-at l = length l.s - l.at
