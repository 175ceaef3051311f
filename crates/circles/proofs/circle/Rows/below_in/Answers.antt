-- `below_in` meets its contract: the marks are those of i hops.
use mathlib.Core.Path.{◌≡◌}
use native.Mathlib.Omega.{arith}
use native.Mathlib.Numerals.{add-one}
use Rattle.circles.specs.Saving.{held}
use Rattle.circles.proofs.SavingRows.{held-length}
use Rattle.circles.proofs.MarkWays.{below_none, hop-below}
use Rattle.circles.proofs.circle.Rows.below_in.Goals as goal

pub mark_at-marks-requires : goal.mark_at-marks-requires
mark_at-marks-requires c = (c.requires, c.args.self.holding.terms.few)

pub loop-i-init : goal.loop-i-init
loop-i-init c =
    let a = c.args in
    let broader = held a.self.from.now a.self.to.now a.self.n in
    (omega arith, below_none broader a.x a.self.n c.mark_at-marks.result (held-length a.self.from.now a.self.to.now a.self.n 0) c.mark_at-marks.ensures)

pub loop-i-preserved : goal.loop-i-preserved
loop-i-preserved c =
    let a = c.args in
    let loop = c.loop-i in
    let broader = held a.self.from.now a.self.to.now a.self.n in
    (omega arith, rw add-one (hop-below broader a.x loop._i loop.marks c.one_hop-marks.result loop.invariant.1 c.one_hop-marks.ensures))

pub returns : goal.returns
returns c =
    let loop = c.loop-i in
    let e : loop._i ≡ c.args.k = omega (arith, loop.invariant.0) in
    rw e at loop.invariant.1
