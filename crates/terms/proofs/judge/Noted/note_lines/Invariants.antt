-- What the loops of `note_lines` keep.
use Prim.Native.Nat.{◌-◌, ◌≤◌}
use lib.ListN.{length}
use Rattle.terms.proofs.judge.Noted.note_lines.Given as goal

abbrev pub invariant-loop-p : goal.invariant-loop-p
invariant-loop-p l = l.g ≤ length l.s

abbrev pub decreases-loop-p : goal.decreases-loop-p
decreases-loop-p l = length l.s - l.p
