-- `first_twice` meets its contract: block by block the first line is kept that gives a heading of the blocks so far again.
use Prim.Native.Nat.{ℕ, ◌-◌}
use native.Mathlib.Omega.{arith}
use lib.ListN.{length-replicate}
use Rattle.terms.proofs.TwicePairs.{best-start, best-end, best-twice, best-on, last-told, begins-first}
use Rattle.terms.proofs.judge.first_twice.Goals as goal

pub loop-at-init : goal.loop-at-init
loop-at-init c =
    let a = c.args in
    (begins-first a.s.now, (length-replicate {A = ℕ} 8192 0, length-replicate {A = ℕ} 8192 0, length-replicate {A = ℕ} 8192 0), best-start a.s.now a.lines)

pub fill-requires : goal.fill-requires
fill-requires c =
    let loop = c.loop-at in
    record { begins = loop.invariant.0; rows = loop.invariant.1 }

pub returns-in-Twice : goal.returns-in-Twice
returns-in-Twice c =
    let loop = c.loop-at in
    let a = c.args in
    let until = c.until_of-until in
    best-twice a.s.now a.lines (loop.line - 1) until.result loop.best loop.invariant.2 until.ensures c.in-Twice.twice c.in-Twice.ensures

pub returns-in-Over : goal.returns-in-Over
returns-in-Over c =
    let loop = c.loop-at in
    let a = c.args in
    let until = c.until_of-until in
    best-end a.s.now a.lines (loop.line - 1) until.result loop.best loop.invariant.2 until.ensures c.in-Over.ensures

pub first_known-requires : goal.first_known-requires
first_known-requires c =
    let full = c.in-Full.ensures in
    record { begins = full.1; table = full.0.table }

pub loop-at-smaller : goal.loop-at-smaller
loop-at-smaller c =
    omega (arith, c.in-Full.ensures.2, c.loop-at-test.true)

pub loop-at-preserved : goal.loop-at-preserved
loop-at-preserved c =
    let loop = c.loop-at in
    let a = c.args in
    let until = c.until_of-until in
    let full = c.in-Full.ensures in
    let known = c.first_known in
    let best = best-on a.s.now a.lines (loop.line - 1) until.result c.in-Full.n c.fill.new.self.place c.fill.new.self.before c.fill.new.self.last full.0
    (omega (arith, full.3)) full.1.some loop.best known.result loop.invariant.2 until.ensures known.ensures in
    (full.1, full.0.table.sized, rw c.or-best.ensures best)

pub returns : goal.returns
returns c =
    let loop = c.loop-at in
    let a = c.args in
    last-told a.s.now a.lines loop.best loop.at loop.line loop.invariant.0 loop.invariant.2 c.loop-at-test.false
