-- What the loops of `first_unmirrored` keep.
use mathlib.Core.Path.{◌≡◌}
use mathlib.Core.List.{[]}
use Prim.Native.Nat.{◌+◌, ◌-◌, ◌≤◌, ◌<◌}
use lib.ListN.{length}
use Rattle.tagged.specs.Lines.{lines_of}
use Rattle.terms.specs.Judging.{unmirrored_from, name_at}
use Rattle.terms.specs.Meeting.{Met}
use Rattle.terms.proofs.JudgeWays.{lines_at}
use Rattle.terms.proofs.judge.first_unmirrored.Given as goal

abbrev pub invariant-loop-at : goal.invariant-loop-at
invariant-loop-at l =
    (l.h ≤ length l.s) × (l.line ≤ l.at + 1) × (l.k ≤ l.at) × (unmirrored_from (lines_of l.s) [] 1 (lines_of l.s) ≡ unmirrored_from (lines_of l.s) (name_at l.s l.h) l.line (lines_at l.s l.at))
    × Met l.s l.noted.place l.noted.head l.met × (0 < l.line)

abbrev pub decreases-loop-at : goal.decreases-loop-at
decreases-loop-at l = length l.s - l.at
