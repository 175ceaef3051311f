-- What the loops of `has_mirror` keep.
use mathlib.Core.Path.{◌≡◌}
use mathlib.Core.List.{[]}
use Prim.Native.Nat.{◌-◌, ◌≤◌}
use lib.ListN.{length}
use Rattle.tagged.specs.Lines.{lines_of}
use Rattle.terms.specs.Judging.{mirror_in, name_at, line_at}
use Rattle.terms.proofs.JudgeWays.{lines_at}
use Rattle.terms.proofs.judge.has_mirror.Given as goal

abbrev pub invariant-loop-at : goal.invariant-loop-at
invariant-loop-at l = (l.g ≤ length l.s) × (mirror_in (name_at l.s l.h) (line_at l.s l.p) [] (lines_of l.s) ≡ mirror_in (name_at l.s l.h) (line_at l.s l.p) (name_at l.s l.g) (lines_at l.s l.at))

abbrev pub decreases-loop-at : goal.decreases-loop-at
decreases-loop-at l = length l.s - l.at
