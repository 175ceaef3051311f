-- What the loops of `count_rows` keep.
use mathlib.Core.Path.{◌≡◌}
use Prim.Native.Nat.{◌+◌, ◌-◌, ◌≤◌}
use lib.ListN.{length, drop}
use Rattle.writer.specs.Rows.{rows_in}
use Rattle.writer.proofs.rows.count_rows.Given as goal

abbrev pub invariant-loop-p : goal.invariant-loop-p
invariant-loop-p l =
    (l.p ≤ length l.rows) × (l.count ≤ l.p) × (l.count + length (rows_in (drop l.p l.rows)) ≡ length (rows_in l.rows))

abbrev pub decreases-loop-p : goal.decreases-loop-p
decreases-loop-p l = length l.rows - l.p
