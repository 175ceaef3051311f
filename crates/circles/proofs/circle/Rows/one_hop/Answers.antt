-- `one_hop` meets its contract: the marks are filled heading by heading, from `low` on.
use mathlib.Core.Bool.{false}
use Prim.Native.Nat.{◌<◌}
use native.Mathlib.Omega.{arith}
use Rattle.tagged.specs.Hops.{broader_of}
use Rattle.circles.specs.Saving.{held}
use Rattle.circles.proofs.SavingRows.{fill_from, fill_more, fill_all, broader-past}
use Rattle.circles.proofs.MarkWays.{hop-low, hop-high, hop-past}
use Rattle.circles.proofs.circle.Rows.one_hop.Goals as goal

pub loop-x-init : goal.loop-x-init
loop-x-init c = (omega arith, fill_from _ false 341 c.args.low (λ y less. hop-low c.args.low y _ less))

pub some_marked-requires : goal.some_marked-requires
some_marked-requires c = c.loop-x-test.true

pub bounds-next-x : goal.bounds-next-x
bounds-next-x c = omega (arith, c.args.self.holding.terms.few)

pub loop-x-preserved : goal.loop-x-preserved
loop-x-preserved c =
    let loop = c.loop-x in
    let low : loop.x < 341 = omega (arith, c.args.self.holding.terms.few) in (
      omega arith,
      fill_more _ false 341 loop.next loop.x c.some_marked.result low
          (hop-high c.args.low loop.x c.some_marked.result _ loop.invariant.0 c.some_marked.ensures) loop.invariant.1,
    )

pub returns : goal.returns
returns c =
    let a = c.args in
    let loop = c.loop-x in
    let broader = held a.self.from.now a.self.to.now a.self.n in
    fill_all _ false 341 loop.next loop.x loop.invariant.1
    (λ y past.
    let nobody = broader-past a.self.from.now a.self.to.now a.self.n a.self.holding y (omega arith) in
    hop-past a.low y a.marks.now (broader_of broader y) nobody)
