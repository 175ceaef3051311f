-- `back_in` meets its contract: x was not reached from itself in fewer hops by headings no lower.
use Prim.Native.Nat.{◌<◌}
use native.Mathlib.Omega.{arith}
use lib.ListN.{length}
use Rattle.circles.specs.Saving.{held}
use Rattle.circles.proofs.SavingRows.{held-length}
use Rattle.circles.proofs.MarkWays.{below_none, backed_none, backed_is, backed_more, backed_over}
use Rattle.circles.proofs.circle.Rows.back_in.Goals as goal

pub mark_at-marks-requires : goal.mark_at-marks-requires
mark_at-marks-requires c = (c.requires.0, c.args.self.holding.terms.few)

pub loop-k-init : goal.loop-k-init
loop-k-init c =
    let a = c.args in
    let broader = held a.self.from.now a.self.to.now a.self.n in
    let long = held-length a.self.from.now a.self.to.now a.self.n 0 in
    let low : a.x < length broader = omega (arith, c.requires.0) in
    let none = below_none broader a.x a.self.n c.mark_at-marks.result long c.mark_at-marks.ensures in
    (omega (arith, c.requires.1), backed_none broader a.x c.mark_at-marks.result low none)

pub bounds-marks-x : goal.bounds-marks-x
bounds-marks-x c = omega (arith, c.requires.0, c.args.self.holding.terms.few)

pub returns-then-marks-x : goal.returns-then-marks-x
returns-then-marks-x c =
    let a = c.args in
    let loop = c.loop-k in
    let broader = held a.self.from.now a.self.to.now a.self.n in
    let next = c.one_hop-marks in
    record {
      any = loop.invariant.1.any;
      within = loop.invariant.0;
      before = loop.invariant.1.before;
      back = λ less. backed_is broader a.x loop.k loop.marks next.result loop.invariant.1 next.ensures c.if-marks-x.true;
    }

pub no_mark-requires : goal.no_mark-requires
no_mark-requires c = c.args.self.holding.terms.few

pub returns-then-no_mark : goal.returns-then-no_mark
returns-then-no_mark c =
    let a = c.args in
    let loop = c.loop-k in
    let broader = held a.self.from.now a.self.to.now a.self.n in
    let long = held-length a.self.from.now a.self.to.now a.self.n 0 in
    let next = c.one_hop-marks in
    let empty = c.no_mark.ensures c.if-no_mark.true in
    record {
      any = c.requires.1;
      within = omega arith;
      before = λ k any less. backed_over broader a.x loop.k loop.marks next.result loop.invariant.1 next.ensures a.self.n long empty k any;
      back = λ less. absurd (omega arith);
    }

pub loop-k-preserved : goal.loop-k-preserved
loop-k-preserved c =
    let a = c.args in
    let loop = c.loop-k in
    let broader = held a.self.from.now a.self.to.now a.self.n in
    let next = c.one_hop-marks in
    (omega arith, backed_more broader a.x loop.k loop.marks next.result loop.invariant.1 next.ensures c.if-marks-x.false)

pub returns : goal.returns
returns c =
    let loop = c.loop-k in
    record {
      any = c.requires.1;
      within = omega arith;
      before = λ k any less. loop.invariant.1.before k any (omega arith);
      back = λ less. absurd (omega arith);
    }
