-- What the loop of `put_decisions` keep.
use Prim.Native.Nat.{◌+◌, ◌*◌, ◌≤◌}
use lib.ListN.{length, drop}
use Rattle.limits.specs.Decisions.{Decisions, decided}
use Rattle.machine.specs.Answers.{decision_numbers}
use Rattle.standing.specs.Held.{Decided}
use Rattle.recording.proofs.RowBegun.{Begun}
use Rattle.recording.proofs.put.put_decisions.Given as goal

abbrev pub invariant-loop-i : goal.invariant-loop-i
invariant-loop-i l =
    (sides : Decisions) → Decided l.fn.ds.words sides → l.from + 2 * decided sides ≤ length l.initial.bytes
    → Begun l.initial.bytes l.from (decision_numbers 0 sides) l.bytes l.p (decision_numbers (32 * l.i) (drop (32 * l.i) sides))
