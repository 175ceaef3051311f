-- What the loops of `weigh_row` keep.
use Prim.Native.Nat.{◌≤◌}
use lib.ListN.{length}
use Rattle.loading.proofs.RowsWeighed.{Weighing}
use Rattle.loading.proofs.weigh.weigh_row.Given as goal

abbrev pub invariant-loop-i : goal.invariant-loop-i
invariant-loop-i l =
    (l.from ≤ length l.questions) × Weighing l.book l.at l.shapes l.lengths l.questions l.nodes l.choices l.from l.i
