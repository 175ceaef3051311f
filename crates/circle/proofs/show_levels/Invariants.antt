-- No more headings were shown than there are bytes before p.
use Rattle.std.proofs.Common.{◌-◌, ◌≤◌, length}
use Rattle.circle.proofs.show_levels.Given as goal

abbrev pub invariant-loop-p : goal.invariant-loop-p
invariant-loop-p g l = (l.x ≤ l.p) × (length l.listing ≤ 262144)

abbrev pub decreases-loop-p : goal.decreases-loop-p
decreases-loop-p g l = length l.listing - l.p
