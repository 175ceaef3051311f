-- What the loop of `put_items` keeps.
use mathlib.Core.Path.{◌≡◌}
use Prim.Native.Nat.{◌+◌, ◌*◌, ◌-◌, ◌≤◌}
use lib.ListN.{length, drop}
use lib.Seq.{sets}
use Rattle.limits.specs.Sizes.{most_book_bytes}
use Rattle.writer.specs.Rows.{rows_in}
use Rattle.writer.specs.Layout.{items_bytes}
use Rattle.writer.proofs.made.Made.put_items.Given as goal

abbrev pub invariant-loop-i : goal.invariant-loop-i
invariant-loop-i l =
    let was = l.initial.self in
    let all = items_bytes l.arities (rows_in l.rows) in
    let rest = items_bytes l.arities (rows_in (drop l.i l.rows)) in
    (l.i ≤ length l.rows) × (l.self.size ≤ was.size + 2 * l.i) × (l.self.size + length rest ≡ was.size + length all)
    × (l.self.size ≤ most_book_bytes → sets l.self.bytes l.self.size rest ≡ sets was.bytes was.size all)

abbrev pub decreases-loop-i : goal.decreases-loop-i
decreases-loop-i l = length l.rows - l.i
