-- What the loop of `rising` keeps: after i turns the other numbers are left, of choices past the last.
use Rattle.std.proofs.Common.{◌≡◌, ◌+◌, ◌-◌, ◌*◌}
use Rattle.figures.specs.AnswerBook.{rising}
use Rattle.figures.proofs.record.rising.Given as goal

abbrev pub invariant-loop-i : goal.invariant-loop-i
invariant-loop-i l = rising l.books l.k 0 l.from ≡ rising l.books (l.k - l.i) l.least (l.from + 2 * l.i)
