-- What the loops of `books_back` keep.
use Prim.Native.Nat.{◌-◌}
use Rattle.figures.specs.Figures.{book_end}
use Rattle.figures.specs.InCode.{book_over}
use Rattle.figures.proofs.Repeated.{Going}
use Rattle.figures.proofs.back.books_back.Given as goal

abbrev pub invariant-loop-p : goal.invariant-loop-p
invariant-loop-p l = Going (book_end l.books) (book_over l.books) l.e 0 l.initial.totals l.p l.totals

abbrev pub decreases-loop-p : goal.decreases-loop-p
decreases-loop-p l = l.e - l.p
