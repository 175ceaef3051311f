-- Each line lies behind the one before it.
use Prim.Native.Nat.{◌-◌, ◌+◌, ◌≤◌}
use lib.ListN.{length}
use Rattle.circle.proofs.broader_line.Given as goal

abbrev pub invariant-loop-p : goal.invariant-loop-p
invariant-loop-p l = (l.line ≤ l.p + 1) × (length l.listing ≤ 262144)

abbrev pub decreases-loop-p : goal.decreases-loop-p
decreases-loop-p l = length l.listing - l.p
