-- What the loops of `forms_of` keep.
use Prim.Native.Nat.{◌-◌, ◌≤◌}
use lib.ListN.{length}
use Rattle.terms.proofs.JudgeWays.{FormsSoFar}
use Rattle.terms.proofs.judge.forms_of.Given as goal

abbrev pub invariant-loop-at : goal.invariant-loop-at
invariant-loop-at l = (l.headings ≤ l.lines) × (l.lines ≤ l.at) × FormsSoFar l.s l.lines l.headings l.at

abbrev pub decreases-loop-at : goal.decreases-loop-at
decreases-loop-at l = length l.s - l.at
