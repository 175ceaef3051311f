-- What the loops of `lowest_of` keep.
use mathlib.Core.Path.{◌≡◌}
use mathlib.Core.Bool.{Bool}
use mathlib.Core.List.{List}
use Prim.Native.Nat.{◌≤◌, min}
use lib.ListN.{length}
use Rattle.tagged.specs.Hops.{broader_of}
use Rattle.tagged.specs.Circle.{lowest}
use Rattle.terms.specs.Places.{bytes_of}
use Rattle.circles.specs.Saving.{held, SameMarks}
use Rattle.circles.proofs.circle.Rows.lowest_of.Given as goal

abbrev pub invariant-loop-i : goal.invariant-loop-i
invariant-loop-i l =
    (l.low ≤ l.self.n)
    × ((own : List Bool) → SameMarks l.marks own → length own ≡ l.self.n → lowest own (broader_of (held l.self.from.now l.self.to.now l.self.n) l.here) ≡ min l.low (lowest own (bytes_of l.self.to.now l.i l.until)))
