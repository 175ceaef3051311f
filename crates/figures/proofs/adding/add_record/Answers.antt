-- `add_record` meets its contract: the record up to its symbols, and then these.
use Rattle.std.proofs.Common.{arith}
use Rattle.std.proofs.lemmas.Result.{err_from_is_err_and}
use Rattle.figures.proofs.BookWays.{record_refused, symbols-within, by-symbols}
use Rattle.figures.proofs.adding.add_record.Goals as goal

pub returns-in_err-end : goal.returns-in_err-end
returns-in_err-end c =
    let a = c.args in
    let on = err_from_is_err_and c.from_residual.result c.from_residual.ensures.1 in
    rw (on.1, on.2) (record_refused a.books.now a.version a.e a.totals.now a.p _ c.in_err-end.ensures)

pub add_symbols-requires : goal.add_symbols-requires
add_symbols-requires c =
    let many = c.number.ensures in
    let a = c.args in
    let is = symbols-within a.books.now a.version a.e a.totals.now a.p c.in_ok-end.ensures _ many.0 in
    (is.0, omega (arith, is.1), many.1)

pub returns : goal.returns
returns c =
    let many = c.number.ensures in
    let a = c.args in
    rw (by-symbols a.books.now a.version a.e a.totals.now a.p c.in_ok-end.ensures _ many.0) c.add_symbols.ensures
