-- `add_figures` meets its contract: nothing is refused where no book was.
use Rattle.std.proofs.lemmas.Result.{err_from_is_err_and}
use Rattle.figures.proofs.BookWays.{books_refused, books_added}
use Rattle.figures.proofs.add_figures.Goals as goal

pub returns-in_err-add_books : goal.returns-in_err-add_books
returns-in_err-add_books c =
    let a = c.args in
    let on = err_from_is_err_and c.from_residual.result c.from_residual.ensures.1 in
    rw (on.1, on.2) (books_refused a.books.now a.totals.now _ _ c.in_err-add_books.ensures)

pub returns : goal.returns
returns c =
    let a = c.args in
    books_added a.books.now a.totals.now _ c.in_ok-add_books.ensures
