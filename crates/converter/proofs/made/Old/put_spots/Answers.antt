-- `put_spots` meets its contract: what was put, with what will be put for the old bytes from here on, are the bytes of all trees.
use mathlib.Core.List.{◌++◌}
use mathlib.Core.Path.{◌≡◌, refl, ap, ◌∙◌}
use native.Mathlib.Omega.{arith}
use lib.ListN.{length}
use Rattle.writer.proofs.Putting.{left-length, left-put}
use Rattle.converter.specs.Scan.{spot_bytes, spots}
use Rattle.converter.proofs.ScanWays.{onward, spots-none, spots-more}
use Rattle.converter.proofs.made.Old.put_spots.Goals as goal

pub loop-at-init : goal.loop-at-init
loop-at-init c = (omega arith, omega arith, omega arith, refl, refl)

pub loop-at-smaller : goal.loop-at-smaller
loop-at-smaller c =
    let a = c.args in
    let l = c.loop-at in
    omega (arith, c.put_spot-at.ensures.old, (onward a.self.book.now a.self.ends.now l.at).more)

pub loop-at-preserved : goal.loop-at-preserved
loop-at-preserved c =
    let a = c.args in
    let l = c.loop-at in
    let book = a.self.book.now in
    let ends = a.self.ends.now in
    let far = onward book ends l.at in
    let put = c.put_spot-at.ensures in
    let now = spot_bytes book ends l.at in
    let then = spots book ends a.e c.put_spot-at.result in
    let split : spots book ends a.e l.at ≡ now ++ then = spots-more book ends a.e l.at (omega arith) ∙ rw put.old in (
      omega (arith, put.old, far.more),
      omega (arith, put.old, far.near),
      omega (arith, put.old, put.new, far.few),
      omega (arith, put.new, left-length _ now then split),
      left-put _ now then split l.made.bytes l.made.size _ _ put.put put.new ∙ l.invariant.4,
    )

pub returns : goal.returns
returns c =
    let a = c.args in
    let l = c.loop-at in
    let none = spots-none a.self.book.now a.self.ends.now a.e l.at c.loop-at-test.false in
    record { behind = omega (arith, ap length none); near = omega arith; put = λ fits. rw none at l.invariant.4 }
