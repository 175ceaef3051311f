-- What the loops of `longest_of` keep.
use mathlib.Core.Path.{◌≡◌}
use Prim.Native.Nat.{max}
use Rattle.tagged.specs.Hops.{broader_of}
use Rattle.tagged.specs.Levels.{longest}
use Rattle.terms.specs.Places.{bytes_of}
use Rattle.circles.specs.Saving.{held}
use Rattle.circles.proofs.circle.Rows.longest_of.Given as goal

abbrev pub invariant-loop-i : goal.invariant-loop-i
invariant-loop-i l = longest l.row (broader_of (held l.self.from.now l.self.to.now l.self.n) l.x) ≡ max l.best (longest l.row (bytes_of l.self.to.now l.i l.until))
