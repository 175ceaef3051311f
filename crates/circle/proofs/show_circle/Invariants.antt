-- Each place of the circle is shown once, and the listing stays short.
use Rattle.std.proofs.Common.{◌≤◌, length}
use Rattle.circle.proofs.show_circle.Given as goal

abbrev pub invariant-loop-i : goal.invariant-loop-i
invariant-loop-i g l = length l.listing ≤ 262144
