-- `put_items` meets its contract: what was put, with what the rows from i on will be, are the bytes of all rows.
use mathlib.Core.List.{◌++◌}
use mathlib.Core.Path.{◌≡◌, refl, ap, ◌∙◌}
use Prim.Native.Nat.{◌+◌, ◌-◌}
use native.Mathlib.Omega.{arith}
use lib.ListN.{length, get_or, take, drop, length-take}
use Rattle.writer.specs.Rows.{rows_in}
use Rattle.writer.specs.Layout.{item_bytes, items_bytes}
use Rattle.writer.proofs.Putting.{left-length, left-put}
use Rattle.writer.proofs.Splitting.{row}
use Rattle.writer.proofs.Leftover.{items-one, items-none}
use Rattle.writer.proofs.made.Made.put_items.Goals as goal

pub loop-i-init : goal.loop-i-init
loop-i-init c = (omega arith, omega arith, refl, λ fits. refl)

pub loop-i-preserved : goal.loop-i-preserved
loop-i-preserved c =
    let a = c.args in
    let l = c.loop-i in
    let arities = a.arities.now in
    let rows = a.rows.now in
    let end = c.behind_row-end.result in
    let now = item_bytes arities (row (get_or rows l.i 0) (take (end - (l.i + 1)) (drop (l.i + 1) rows))) in
    let then = items_bytes arities (rows_in (drop end rows)) in
    let split : items_bytes arities (rows_in (drop l.i rows)) ≡ now ++ then =
    items-one arities rows l.i end c.behind_row-end.ensures.0 (omega arith) in
    let put = c.put_item.ensures in (
      omega arith,
      omega (arith, put.near, length-take (end - (l.i + 1)) (drop (l.i + 1) rows)),
      omega (arith, put.put.size, left-length _ now then split),
      λ fits. left-put _ now then split l.self.bytes l.self.size _ _ (put.put.bytes fits) put.put.size ∙ l.invariant.3 (omega (arith, put.put.size)),
    )

pub returns : goal.returns
returns c =
    let a = c.args in
    let l = c.loop-i in
    let none = items-none a.arities.now a.rows.now l.i c.loop-i-test.false in
    record { size = omega (arith, ap length none); bytes = λ fits. rw none at (l.invariant.3 fits) }
