-- `read_book` meets its contract: the book is indexed.
use mathlib.Core.Path.{sym, ap, ◌∙◌}
use Rattle.reading.proofs.Exits.{handed_on}
use Rattle.reading.specs.Answer.{reading_of}
use Rattle.book.proofs.read_book.Goals as goal

pub returns-in_err-count-clause-reading : goal.returns-in_err-count-clause-reading
returns-in_err-count-clause-reading c =
    rw (handed_on _ c.from_residual.ensures.1) (ap reading_of (sym c.in_err-count.was) ∙ c.index_book-read.ensures.0)

pub returns-clause-reading : goal.returns-clause-reading
returns-clause-reading c = ap reading_of (sym c.in_ok-count.was) ∙ c.index_book-read.ensures.0
