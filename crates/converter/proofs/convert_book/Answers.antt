-- `convert_book` meets its contract: the size, the version, the reader's own, and then the new book, which the scan of the old one makes.
use mathlib.Core.Path.{sym, ap, ◌∙◌}
use native.Mathlib.Omega.{arith}
use Rattle.reading.proofs.Exits.{handed_on}
use Rattle.reading.specs.Answer.{reading_of}
use Rattle.converter.proofs.ConvertWays.{over-size, second-version, not-admitted, converted-laid}
use Rattle.converter.proofs.convert_book.Goals as goal

pub returns-then-book-gt-BOOK : goal.returns-then-book-gt-BOOK
returns-then-book-gt-BOOK c =
    let a = c.args in
    rw c.at.ensures (over-size a.book.now a.room.now c.if-book-gt-BOOK.true)

pub returns-then-byte-eq2 : goal.returns-then-byte-eq2
returns-then-byte-eq2 c =
    let a = c.args in
    let second = sym c.byte.ensures ∙ c.if-byte-eq2.true in
    rw c.at-then-byte-eq2.ensures (second-version a.book.now a.room.now c.if-book-gt-BOOK.false second)

pub returns-in_err-index : goal.returns-in_err-index
returns-in_err-index c =
    let a = c.args in
    rw (handed_on _ c.from_residual.ensures.1)
    (not-admitted a.book.now a.room.now c.if-book-gt-BOOK.false (λ is. c.if-byte-eq2.false (c.byte.ensures ∙ is)) (ap reading_of (sym c.in_err-index.was) ∙ c.index_book-index.ensures.0))

pub returns : goal.returns
returns c =
    let a = c.args in
    let told = c.index_book-index.ensures in
    c.lay.ensures ∙ converted-laid a.book.now a.room.now c.if-book-gt-BOOK.false (λ is. c.if-byte-eq2.false (c.byte.ensures ∙ is)) (λ i. omega (arith, c.type_inv.book i))
    (ap reading_of (sym c.in_ok-index.was) ∙ told.0) told.3
