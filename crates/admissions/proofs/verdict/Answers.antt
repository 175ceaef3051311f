-- `verdict` is safe: an admitted book has no more symbols than there are places for.
use mathlib.Core.Path.{sym, ap, ◌∙◌}
use native.Mathlib.Omega.{arith}
use lib.ListN.{length-take}
use Rattle.reading.specs.Answer.{reading_of}
use Rattle.book.proofs.BookWays.{book-kept}
use Rattle.admissions.proofs.verdict.Goals as goal

pub slice_bounds-at-end : goal.slice_bounds-at-end
slice_bounds-at-end c =
    let told = c.index_book-index.ensures in
    let known = book-kept _ _ (ap reading_of (sym c.in_ok-count.was) ∙ told.0) told.1 in
    omega (arith, known.few, known.long)

pub slice_bounds-read_question-end : goal.slice_bounds-read_question-end
slice_bounds-read_question-end c =
    let told = c.index_book-index.ensures in
    let known = book-kept _ _ (ap reading_of (sym c.in_ok-count.was) ∙ told.0) told.1 in
    simp length-take (omega (arith, known.few, known.long))
