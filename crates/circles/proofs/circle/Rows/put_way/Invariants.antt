-- What the loops of `put_way` keep.
use mathlib.Core.Path.{◌≡◌}
use Prim.Native.Nat.{◌-◌, ◌≤◌}
use lib.ListN.{length}
use Rattle.circles.specs.Saving.{held, way_from}
use Rattle.circles.proofs.SavingRows.{Front}
use Rattle.circles.proofs.circle.Rows.put_way.Given as goal

abbrev pub invariant-loop-i : goal.invariant-loop-i
invariant-loop-i l =
    (l.i ≤ l.hops) × (l.here ≤ l.self.n) × (length l.row ≡ length l.initial.row)
    × Front (way_from (held l.self.from.now l.self.to.now l.self.n) l.first l.hops l.first) l.initial.row l.row l.i (way_from (held l.self.from.now l.self.to.now l.self.n) l.first (l.hops - l.i) l.here)
