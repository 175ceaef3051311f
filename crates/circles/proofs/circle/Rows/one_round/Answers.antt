-- `one_round` meets its contract: the row is filled heading by heading.
use Prim.Native.Nat.{◌<◌}
use native.Mathlib.Omega.{arith}
use Rattle.tagged.specs.Hops.{broader_of}
use Rattle.circles.specs.Saving.{held}
use Rattle.circles.proofs.SavingRows.{fill_none, fill_more, fill_all, broader-past}
use Rattle.circles.proofs.RoundWays.{longest_nobody}
use Rattle.circles.proofs.circle.Rows.one_round.Goals as goal

pub loop-x-init : goal.loop-x-init
loop-x-init c = (omega arith, fill_none _ 0 341)

pub longest_of-requires : goal.longest_of-requires
longest_of-requires c = (c.loop-x-test.true, c.requires)

pub offset_bounds-next-x : goal.offset_bounds-next-x
offset_bounds-next-x c = omega (arith, c.args.self.holding.terms.few)

pub bounds-next-x : goal.bounds-next-x
bounds-next-x c = omega (arith, c.args.self.holding.terms.few)

pub loop-x-preserved : goal.loop-x-preserved
loop-x-preserved c =
    let low : c.loop-x.x < 341 = omega (arith, c.args.self.holding.terms.few) in
    let loop = c.loop-x in
    (omega arith, fill_more _ 0 341 loop.next loop.x c.longest_of.result low c.longest_of.ensures loop.invariant.1)

pub returns : goal.returns
returns c =
    let a = c.args in
    let loop = c.loop-x in
    let broader = held a.self.from.now a.self.to.now a.self.n in
    fill_all _ 0 341 loop.next loop.x loop.invariant.1
    (λ y past. longest_nobody a.row.now (broader_of broader y) (broader-past a.self.from.now a.self.to.now a.self.n a.self.holding y (omega arith)))
