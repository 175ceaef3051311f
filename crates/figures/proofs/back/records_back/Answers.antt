-- `records_back` meets its contract: at p the records before it are taken off.
use native.Mathlib.Omega.{arith}
use Rattle.figures.specs.InCode.{behind_record, record_over}
use Rattle.figures.proofs.Repeated.{going, going_on_lem, gone}
use Rattle.figures.proofs.back.records_back.Goals as goal

pub loop-p-init : goal.loop-p-init
loop-p-init c =
    let a = c.args in
    going (behind_record a.books.now) (record_over a.books.now a.version) a.e a.from a.totals.now

pub loop-p-smaller : goal.loop-p-smaller
loop-p-smaller c =
    omega (arith, c.record_back-p.ensures.0, c.loop-p-test.true)

pub loop-p-preserved : goal.loop-p-preserved
loop-p-preserved c =
    let loop = c.loop-p in
    let a = c.args in
    let told = c.record_back-p.ensures in
    going_on_lem (behind_record a.books.now) (record_over a.books.now a.version) _ loop.invariant c.loop-p-test.true told.0 (omega (arith, told.0)) told.1

pub shape_of-totals : goal.shape_of-totals
shape_of-totals c = c.loop-p.invariant.taken.long

pub returns : goal.returns
returns c =
    let a = c.args in
    gone (behind_record a.books.now) (record_over a.books.now a.version) c.loop-p.invariant c.loop-p-test.false
