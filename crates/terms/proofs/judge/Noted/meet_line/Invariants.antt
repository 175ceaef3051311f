-- What the loops of `meet_line` keep.
use Rattle.terms.specs.Meeting.{Met}
use Rattle.terms.proofs.judge.Noted.meet_line.Given as goal

abbrev pub invariant-loop-i : goal.invariant-loop-i
invariant-loop-i l = Met l.s l.self.place l.self.head l.met

abbrev pub decreases-loop-i : goal.decreases-loop-i
decreases-loop-i l = l.i
