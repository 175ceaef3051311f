-- `put_items` meets its contract: what was put, with what will be put for the old bytes from here on, are the bytes of all items.
use mathlib.Core.List.{◌++◌}
use mathlib.Core.Path.{◌≡◌, refl, ap, ◌∙◌}
use Prim.Native.Nat.{◌+◌}
use native.Mathlib.Omega.{arith}
use lib.ListN.{length}
use Rattle.writer.proofs.Putting.{left-length, left-put}
use Rattle.converter.specs.Scan.{item_to, items}
use Rattle.converter.proofs.ScanWays.{items-none, items_more}
use Rattle.converter.proofs.made.Old.put_items.Goals as goal

pub loop-at-init : goal.loop-at-init
loop-at-init c = (omega arith, omega arith, omega arith, refl, λ fits. refl)

pub loop-at-preserved : goal.loop-at-preserved
loop-at-preserved c =
    let a = c.args in
    let l = c.loop-at in
    let book = a.self.book.now in
    let ends = a.self.ends.now in
    let e = l.at + 2 + c.number.result in
    let put = c.put_item.ensures in
    let now = item_to book ends e l.at in
    let then = items book ends e in
    let split : items book ends l.at ≡ now ++ then = items_more book ends l.at (omega arith) ∙ rw c.number.ensures.0 in (
      omega arith,
      omega arith,
      omega (arith, put.near),
      omega (arith, put.behind, left-length _ now then split),
      λ fits. left-put _ now then split l.made.bytes l.made.size _ _ (put.put fits) put.behind ∙ l.invariant.4 (omega (arith, put.behind)),
    )

pub returns : goal.returns
returns c =
    let a = c.args in
    let l = c.loop-at in
    let none = items-none a.self.book.now a.self.ends.now l.at c.loop-at-test.false in
    record { behind = omega (arith, ap length none); near = omega arith; put = λ fits. rw none at (l.invariant.4 fits) }
