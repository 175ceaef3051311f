-- What the loops of `gathered` keep.
use Prim.Native.Nat.{◌-◌}
use lib.ListN.{length}
use Rattle.terms.specs.Gathering.{Within}
use Rattle.terms.proofs.TermsGoing.{Going}
use Rattle.terms.proofs.terms.gathered.Given as goal

abbrev pub invariant-loop-at : goal.invariant-loop-at
invariant-loop-at l = Going l.s l.at l.rows.sum l.rows.from l.rows.to × Within l.rows.sum

abbrev pub decreases-loop-at : goal.decreases-loop-at
decreases-loop-at l = length l.s - l.at
