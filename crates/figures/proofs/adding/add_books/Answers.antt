-- `add_books` meets its contract: at p the books from there on are left; a refusal takes back those before it.
use Prim.Native.Nat.{◌<◌}
use native.Mathlib.Omega.{arith}
use lib.ListN.{length}
use Rattle.figures.specs.Figures.{book_end, book_at}
use Rattle.figures.specs.InCode.{book_over}
use Rattle.figures.proofs.Repeated.{ahead_all, ahead_none, ahead_refused, ahead_counts, ahead_more}
use Rattle.figures.proofs.BookWays.{book-counts, books_repeated}
use Rattle.figures.proofs.adding.add_books.Goals as goal

pub loop-p-init : goal.loop-p-init
loop-p-init c =
    let a = c.args in
    let books = a.books.now in
    ahead_all (book_end books) (book_over books) (length books) (book_at books) (length books) a.totals.now 0 (omega arith) (omega arith) (books_repeated books (length books) a.totals.now 0)

pub returns-in-Err : goal.returns-in-Err
returns-in-Err c =
    let loop = c.loop-p in
    let books = c.args.books.now in
    ahead_refused (book_end books) (book_over books) (length books) (book_at books) loop.invariant c.loop-p-test.true _ c.in-Err.r _
    c.in-Err.ensures c.books_back.ensures

-- reading goes on behind where it was
pub loop-p-smaller : goal.loop-p-smaller
loop-p-smaller c =
    let loop = c.loop-p in
    let books = c.args.books.now in
    let onward : loop.p < c.in-Ok.next =
    (ahead_counts (book_end books) (book_over books) (length books) (book_at books) loop.invariant c.loop-p-test.true _ (book-counts books)
    c.in-Ok.ensures).onward in
    omega arith

pub loop-p-preserved : goal.loop-p-preserved
loop-p-preserved c =
    let loop = c.loop-p in
    let books = c.args.books.now in
    ahead_more (book_end books) (book_over books) (length books) (book_at books) loop.invariant c.loop-p-test.true _ (book-counts books)
    c.in-Ok.ensures

pub shape_of-totals : goal.shape_of-totals
shape_of-totals c = c.loop-p.invariant.added.long

pub returns : goal.returns
returns c =
    let books = c.args.books.now in
    ahead_none (book_end books) (book_over books) (length books) (book_at books) c.loop-p.invariant c.loop-p-test.false
