-- `put_way` meets its contract: the front of the row has the way so far, and the rest of it is known.
use mathlib.Core.Path.{◌≡◌, refl}
use Prim.Native.Nat.{◌+◌, ◌-◌, ◌≤◌}
use native.Mathlib.Omega.{arith}
use lib.ListN.{length, length-set}
use Rattle.circles.specs.Saving.{held, way_from}
use Rattle.circles.proofs.SavingRows.{held-length, front-none, front-more, front-all}
use Rattle.circles.proofs.MarkWays.{next_low, way-more, way-done}
use Rattle.circles.proofs.circle.Rows.put_way.Goals as goal

pub loop-i-init : goal.loop-i-init
loop-i-init c =
    let a = c.args in
    let broader = held a.self.from.now a.self.to.now a.self.n in
    let e : a.hops - 0 ≡ a.hops = omega arith in
    (omega arith, omega (arith, c.requires.0), refl, rw e (front-none (way_from broader a.first a.hops a.first) a.row.now))

pub overflow_cast-row : goal.overflow_cast-row
overflow_cast-row c = omega (arith, c.loop-i.invariant.1, c.args.self.holding.terms.few)

pub bounds-row-i : goal.bounds-row-i
bounds-row-i c = omega (arith, c.requires.1, c.loop-i.invariant.2)

pub below_in-marks-requires : goal.below_in-marks-requires
below_in-marks-requires c = c.requires.0

pub loop-i-preserved : goal.loop-i-preserved
loop-i-preserved c =
    let a = c.args in
    let loop = c.loop-i in
    let broader = held a.self.from.now a.self.to.now a.self.n in
    let long = held-length a.self.from.now a.self.to.now a.self.n 0 in
    let left = a.hops - 1 - loop.i in
    let marks = c.below_in-marks.result in
    let same = c.below_in-marks.ensures in
    let low = c.lowest_of-here.ensures in
    let next = c.lowest_of-here.result in
    let one_less = a.hops - (loop.i + 1) in
    let more = way-more broader a.first left loop.here next a.self.n marks long same low (a.hops - loop.i) one_less (omega arith) (omega arith) in (
      omega arith,
      next_low broader a.first left loop.here next a.self.n marks long same low,
      simp length-set loop.invariant.2,
      front-more (way_from broader a.first a.hops a.first) a.row.now loop.row loop.i loop.here
          (way_from broader a.first (a.hops - loop.i) loop.here) (way_from broader a.first (a.hops - (loop.i + 1)) next)
          (omega (arith, c.requires.1, loop.invariant.2)) more loop.invariant.3,
    )

pub shape_of-row : goal.shape_of-row
shape_of-row c = omega (arith, c.loop-i.invariant.2)

pub returns : goal.returns
returns c =
    let a = c.args in
    let loop = c.loop-i in
    let broader = held a.self.from.now a.self.to.now a.self.n in
    let e : a.hops - loop.i ≡ 0 = omega arith in
    let within : loop.i ≤ length loop.row = omega (arith, loop.invariant.0, c.requires.1, loop.invariant.2) in
    front-all (way_from broader a.first a.hops a.first) a.row.now loop.row loop.i within
    (rw (e, way-done broader a.first loop.here) at loop.invariant.3)
