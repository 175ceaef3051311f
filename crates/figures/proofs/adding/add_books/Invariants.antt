-- What the loops of `add_books` keep.
use Prim.Native.Nat.{◌-◌}
use lib.ListN.{length}
use Rattle.figures.specs.Figures.{book_end, book_at, books_at}
use Rattle.figures.specs.InCode.{book_over}
use Rattle.figures.proofs.Repeated.{Ahead}
use Rattle.figures.proofs.adding.add_books.Given as goal

abbrev pub invariant-loop-p : goal.invariant-loop-p
invariant-loop-p l = Ahead (book_end l.books) (book_over l.books) (length l.books) (book_at l.books) (books_at l.books (length l.books) l.initial.totals 0) l.initial.totals 0 l.p l.totals

abbrev pub decreases-loop-p : goal.decreases-loop-p
decreases-loop-p l = length l.books - l.p
