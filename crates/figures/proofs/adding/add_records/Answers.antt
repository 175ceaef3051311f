-- `add_records` meets its contract: at p the records from there on are left; a refusal takes back those before it.
use Prim.Native.Nat.{◌<◌}
use native.Mathlib.Omega.{arith}
use lib.ListN.{length}
use Rattle.figures.specs.Figures.{answer_at}
use Rattle.figures.specs.InCode.{behind_record, record_over}
use Rattle.figures.proofs.Repeated.{ahead_all, ahead_none, ahead_refused, ahead_counts, ahead_more}
use Rattle.figures.proofs.BookWays.{answer_counts, records_repeated}
use Rattle.figures.proofs.adding.add_records.Goals as goal

pub loop-p-init : goal.loop-p-init
loop-p-init c =
    let a = c.args in
    let books = a.books.now in
    ahead_all (behind_record books) (record_over books a.version) a.e (answer_at books a.version a.e) (length books) a.totals.now a.from (omega arith) (omega arith)
    (records_repeated books a.version a.e (length books) a.totals.now a.from)

pub returns-in-Err : goal.returns-in-Err
returns-in-Err c =
    let loop = c.loop-p in
    let a = c.args in
    let books = a.books.now in
    ahead_refused (behind_record books) (record_over books a.version) a.e (answer_at books a.version a.e) loop.invariant c.loop-p-test.true _ c.in-Err.r _
    c.in-Err.ensures c.records_back.ensures

-- reading goes on behind where it was
pub loop-p-smaller : goal.loop-p-smaller
loop-p-smaller c =
    let loop = c.loop-p in
    let a = c.args in
    let books = a.books.now in
    let onward : loop.p < c.in-Ok.next =
    (ahead_counts (behind_record books) (record_over books a.version) a.e (answer_at books a.version a.e) loop.invariant c.loop-p-test.true _
    (answer_counts books a.version a.e) c.in-Ok.ensures).onward in
    omega arith

pub loop-p-preserved : goal.loop-p-preserved
loop-p-preserved c =
    let loop = c.loop-p in
    let a = c.args in
    let books = a.books.now in
    ahead_more (behind_record books) (record_over books a.version) a.e (answer_at books a.version a.e) loop.invariant c.loop-p-test.true _
    (answer_counts books a.version a.e) c.in-Ok.ensures

pub shape_of-totals : goal.shape_of-totals
shape_of-totals c = c.loop-p.invariant.added.long

pub returns : goal.returns
returns c =
    let a = c.args in
    let books = a.books.now in
    ahead_none (behind_record books) (record_over books a.version) a.e (answer_at books a.version a.e) c.loop-p.invariant c.loop-p-test.false
