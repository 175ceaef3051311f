-- `answer` meets its contract: levels where they settle, else the circle that there is.
use native.Mathlib.Omega.{arith}
use Rattle.circles.specs.Saving.{held}
use Rattle.circles.proofs.SavingRows.{held-length}
use Rattle.circles.proofs.SavingWays.{answered-levels, answered-circle}
use Rattle.circles.proofs.circle.Rows.answer.Goals as goal

pub put_levels-requires : goal.put_levels-requires
put_levels-requires c = (c.args.self.holding.terms.few, c.requires)

pub put_way-requires : goal.put_way-requires
put_way-requires c =
    let a = c.args in
    let long = held-length a.self.from.now a.self.to.now a.self.n 0 in
    let s = c.in-Some-shortest_circle.ensures in
    (omega (arith, s.first), omega (arith, c.requires, s.few))

pub returns-in-Some : goal.returns-in-Some
returns-in-Some c =
    let a = c.args in
    let settled = c.in-Some.ensures in
    let broader = held a.self.from.now a.self.to.now a.self.n in
    answered-levels broader a.row.now c.put_levels.new.row a.self.n c.in-Some.own (held-length a.self.from.now a.self.to.now a.self.n 0) settled.0 settled.1 c.put_levels.ensures

pub returns-in-Some-shortest_circle : goal.returns-in-Some-shortest_circle
returns-in-Some-shortest_circle c =
    let a = c.args in
    let found = c.in-Some-shortest_circle in
    let s = found.ensures in
    let broader = held a.self.from.now a.self.to.now a.self.n in
    answered-circle broader a.row.now c.put_way.new.row found.s.hops found.s.first s.any s.found c.put_way.ensures
