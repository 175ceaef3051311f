-- What the loops of `some_marked` keep.
use mathlib.Core.Path.{◌≡◌}
use Rattle.tagged.specs.Hops.{broader_of}
use Rattle.tagged.specs.Circle.{some_marked}
use Rattle.terms.specs.Places.{bytes_of}
use Rattle.circles.specs.Saving.{held}
use Rattle.circles.proofs.circle.Rows.some_marked.Given as goal

abbrev pub invariant-loop-i : goal.invariant-loop-i
invariant-loop-i l = some_marked l.marks (broader_of (held l.self.from.now l.self.to.now l.self.n) l.x) ≡ some_marked l.marks (bytes_of l.self.to.now l.i l.until)
