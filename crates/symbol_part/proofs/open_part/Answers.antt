-- `open_part` meets its contract: each test of the code is a clause of the refusals, in their order.
use Rattle.symbol_part.proofs.PartWays.{opened-over, opened-empty, opened-zero, opened-above, opened-past, opened-none, opened_some}
use Rattle.reading.proofs.Exits.{handed_on}
use Rattle.symbol_part.proofs.open_part.Goals as goal

pub returns-then-book-gt-BOOK : goal.returns-then-book-gt-BOOK
returns-then-book-gt-BOOK c =
    rw c.at.ensures (opened-over c.args.book.now c.if-book-gt-BOOK.true)

pub returns-in_err-version : goal.returns-in_err-version
returns-in_err-version c =
    rw (handed_on _ c.from_residual.ensures.1) (opened-empty c.args.book.now c.if-book-gt-BOOK.false c.in_err-version.ensures)

pub returns-then-version-eq0 : goal.returns-then-version-eq0
returns-then-version-eq0 c =
    rw c.at-then-version-eq0.ensures (opened-zero c.args.book.now c.if-book-gt-BOOK.false c.in_ok-version.ensures c.if-version-eq0.true)

pub returns-then-version-gt2 : goal.returns-then-version-gt2
returns-then-version-gt2 c =
    rw c.at-then-version-gt2.ensures (opened-above c.args.book.now c.if-book-gt-BOOK.false c.in_ok-version.ensures c.if-version-eq0.false
    c.if-version-gt2.true)

pub returns-in_err-e : goal.returns-in_err-e
returns-in_err-e c =
    rw (handed_on _ c.from_residual-in_err-e.ensures.1) (opened-past c.args.book.now c.if-book-gt-BOOK.false c.in_ok-version.ensures c.if-version-eq0.false
    c.if-version-gt2.false c.in_err-e.ensures)

pub returns-then-q-e : goal.returns-then-q-e
returns-then-q-e c =
    rw c.at-then-q-e.ensures (opened-none c.args.book.now c.if-book-gt-BOOK.false c.in_ok-version.ensures c.if-version-eq0.false
    c.if-version-gt2.false c.in_ok-e.ensures c.if-q-e.true)

pub returns : goal.returns
returns c =
    opened_some c.args.book.now c.if-book-gt-BOOK.false c.in_ok-version.ensures c.if-version-eq0.false c.if-version-gt2.false c.in_ok-e.ensures
    c.if-q-e.false
