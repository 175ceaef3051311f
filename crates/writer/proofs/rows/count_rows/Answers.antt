-- `count_rows` meets its contract: the rows that were counted, with those from p on, are all.
use mathlib.Core.Path.{ap}
use native.Mathlib.Omega.{arith}
use lib.ListN.{length}
use Rattle.writer.proofs.Splitting.{rows-one, rows_none}
use Rattle.writer.proofs.rows.count_rows.Goals as goal

pub loop-p-init : goal.loop-p-init
loop-p-init c = (omega arith, omega arith, omega arith)

pub loop-p-preserved : goal.loop-p-preserved
loop-p-preserved c =
    let rows = c.args.rows.now in
    let one = ap length (rows-one rows c.loop-p.p c.behind_row-p.result c.behind_row-p.ensures.0 (omega arith)) in
    (omega arith, omega arith, omega arith)

pub returns : goal.returns
returns c =
    let rows = c.args.rows.now in
    let none = ap length (rows_none rows c.loop-p.p c.loop-p-test.false) in
    (omega arith, omega arith)
