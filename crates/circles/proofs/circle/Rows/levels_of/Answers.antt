-- `levels_of` meets its contract: the row has the chains of k rounds.
use native.Mathlib.Omega.{arith}
use Rattle.circles.specs.Saving.{held}
use Rattle.circles.proofs.SavingRows.{held-length}
use Rattle.circles.proofs.RoundWays.{rounded_none, rounded_low, rounded_more, rounded_clear, rounded_levels, rounded_round}
use Rattle.circles.proofs.circle.Rows.levels_of.Goals as goal

pub loop-k-init : goal.loop-k-init
loop-k-init c = (omega arith, rounded_none (held c.args.self.from.now c.args.self.to.now c.args.self.n) 341)

pub one_round-next-requires : goal.one_round-next-requires
one_round-next-requires c =
    let a = c.args in
    let loop = c.loop-k in
    (rounded_low (held a.self.from.now a.self.to.now a.self.n) loop._k loop.row loop.invariant.1 (omega (arith, c.args.self.holding.terms.few)))

pub same_row-requires : goal.same_row-requires
same_row-requires c = c.args.self.holding.terms.few

pub returns-then-same_row : goal.returns-then-same_row
returns-then-same_row c =
    let a = c.args in
    let loop = c.loop-k in
    let broader = held a.self.from.now a.self.to.now a.self.n in
    let long = held-length a.self.from.now a.self.to.now a.self.n 0 in
    let alike = c.same_row.ensures.same c.if-same_row.true in
    let next = c.one_round-next in (
      rounded_clear broader loop._k a.self.n loop.row next.result long loop.invariant.1 next.ensures alike,
      rounded_levels broader loop._k a.self.n loop.row next.result long loop.invariant.1 next.ensures alike (omega arith),
    )

pub overflow_add-k-end : goal.overflow_add-k-end
overflow_add-k-end c = omega (arith, c.args.self.holding.terms.few)

pub loop-k-preserved : goal.loop-k-preserved
loop-k-preserved c =
    let a = c.args in
    let loop = c.loop-k in
    let broader = held a.self.from.now a.self.to.now a.self.n in
    let differ = c.same_row.ensures.other c.if-same_row.false in
    let next = c.one_round-next in
    (omega arith, rounded_more broader loop._k loop.row next.result loop.invariant.1 next.ensures differ)

pub returns : goal.returns
returns c =
    let a = c.args in
    let loop = c.loop-k in
    let broader = held a.self.from.now a.self.to.now a.self.n in
    let long = held-length a.self.from.now a.self.to.now a.self.n 0 in
    rounded_round broader loop._k loop.row (omega arith) loop.invariant.1
