-- What the loops of `meet_lines` keep.
use Prim.Native.Nat.{◌-◌, ◌≤◌}
use lib.ListN.{length}
use Rattle.terms.specs.Meeting.{Met}
use Rattle.terms.proofs.MeetWays.{Behind}
use Rattle.terms.proofs.judge.Noted.meet_lines.Given as goal

abbrev pub invariant-loop-at : goal.invariant-loop-at
invariant-loop-at l = (l.g ≤ length l.s) × Behind l.s l.g l.at × Met l.s l.self.place l.self.head l.met

abbrev pub decreases-loop-at : goal.decreases-loop-at
decreases-loop-at l = length l.s - l.at
