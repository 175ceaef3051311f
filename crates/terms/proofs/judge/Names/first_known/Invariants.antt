-- What the loops of `first_known` keep.
use Prim.Native.Nat.{◌-◌, ◌≤◌}
use lib.ListN.{length}
use Rattle.terms.specs.Blocks.{Begins}
use Rattle.terms.proofs.TwiceBlocks.{Unknown}
use Rattle.terms.proofs.judge.Names.first_known.Given as goal

abbrev pub invariant-loop-p : goal.invariant-loop-p
invariant-loop-p l = Begins l.s l.p l.n × (l.line ≤ l.n) × Unknown l.s l.self.place l.line l.n

abbrev pub decreases-loop-p : goal.decreases-loop-p
decreases-loop-p l = length l.s - l.p
