-- `some_marked` meets its contract: no term passed is marked.
use mathlib.Core.Path.{◌≡◌, sym, ap, ◌∙◌}
use mathlib.Core.Bool.{true, false}
use Prim.Native.Nat.{◌≤◌}
use native.Mathlib.Omega.{arith}
use lib.ListN.{length, get_or}
use Rattle.tagged.specs.Circle.{some_marked}
use Rattle.circles.proofs.SavingRows.{broader-at, end_low, end_in, term-low}
use Rattle.circles.proofs.MarkWays.{some-here, some-later, some-none}
use Rattle.circles.proofs.circle.Rows.some_marked.Goals as goal

pub loop-i-init : goal.loop-i-init
loop-i-init c =
    let a = c.args in
    let whole = broader-at a.self.from.now a.self.to.now a.self.n a.self.holding a.x c.requires in
    rw (c.place-start.ensures, c.place-until.ensures) (ap (some_marked a.marks.now) whole)

pub term-b-requires : goal.term-b-requires
term-b-requires c =
    let a = c.args in
    omega (arith, end_low a.self.from.now a.self.to.now a.self.n a.self.holding a.x c.requires, c.place-until.ensures)

pub bounds-marks-b : goal.bounds-marks-b
bounds-marks-b c =
    let a = c.args in
    let until = c.place-until.ensures in
    let low = term-low a.self.from.now a.self.to.now a.self.n a.self.holding a.x c.loop-i.i c.requires (omega arith) in
    omega (arith, c.term-b.ensures, c.args.self.holding.terms.few)

pub returns-then-marks-b : goal.returns-then-marks-b
returns-then-marks-b c =
    let a = c.args in
    let loop = c.loop-i in
    let until = c.place-until in
    let end = end_in a.self.from.now a.self.to.now a.self.n a.self.holding a.x c.requires in
    let within : until.result ≤ length a.self.to.now = omega (arith, until.ensures) in
    let is : get_or a.marks.now (get_or a.self.to.now loop.i 0) false ≡ true = rw c.term-b.ensures at c.if-marks-b.true in
    sym (loop.invariant ∙ some-here a.marks.now a.self.to.now loop.i until.result (omega arith) within is)

pub loop-i-preserved : goal.loop-i-preserved
loop-i-preserved c =
    let a = c.args in
    let loop = c.loop-i in
    let until = c.place-until in
    let end = end_in a.self.from.now a.self.to.now a.self.n a.self.holding a.x c.requires in
    let within : until.result ≤ length a.self.to.now = omega (arith, until.ensures) in
    let is : get_or a.marks.now (get_or a.self.to.now loop.i 0) false ≡ false = rw c.term-b.ensures at c.if-marks-b.false in
    loop.invariant ∙ some-later a.marks.now a.self.to.now loop.i until.result (omega arith) within is

pub returns : goal.returns
returns c =
    let a = c.args in
    let loop = c.loop-i in
    sym (loop.invariant ∙ some-none a.marks.now a.self.to.now loop.i c.place-until.result (omega arith))
