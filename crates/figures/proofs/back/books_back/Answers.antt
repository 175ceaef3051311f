-- `books_back` meets its contract: at p the books before it are taken off.
use native.Mathlib.Omega.{arith}
use Rattle.figures.specs.Figures.{book_end}
use Rattle.figures.specs.InCode.{book_over}
use Rattle.figures.proofs.Repeated.{going, going_on_lem, gone}
use Rattle.figures.proofs.back.books_back.Goals as goal

pub loop-p-init : goal.loop-p-init
loop-p-init c =
    let a = c.args in
    going (book_end a.books.now) (book_over a.books.now) a.e 0 a.totals.now

pub loop-p-smaller : goal.loop-p-smaller
loop-p-smaller c =
    omega (arith, c.book_back-p.ensures.0, c.loop-p-test.true)

pub loop-p-preserved : goal.loop-p-preserved
loop-p-preserved c =
    let loop = c.loop-p in
    let books = c.args.books.now in
    let told = c.book_back-p.ensures in
    going_on_lem (book_end books) (book_over books) _ loop.invariant c.loop-p-test.true told.0 (omega (arith, told.0)) told.1

pub shape_of-totals : goal.shape_of-totals
shape_of-totals c = c.loop-p.invariant.taken.long

pub returns : goal.returns
returns c =
    let books = c.args.books.now in
    gone (book_end books) (book_over books) c.loop-p.invariant c.loop-p-test.false
