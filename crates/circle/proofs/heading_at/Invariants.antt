-- Each line lies behind the one before it.
use Prim.Native.Nat.{◌-◌}
use lib.ListN.{length}
use Rattle.circle.proofs.heading_at.Given as goal

abbrev pub decreases-loop-p : goal.decreases-loop-p
decreases-loop-p l = length l.listing - l.p
