-- What the loops of `put_nest` keep.
use Prim.Native.Nat.{◌≤◌, ◌<◌}
use Rattle.listings.specs.Putting.{nest_laid}
use Rattle.terms.specs.Places.{bytes_of}
use Rattle.listings.proofs.PutWays.{Left}
use Rattle.listings.proofs.write.Rows.put_nest.Given as goal

abbrev pub invariant-loop-i : goal.invariant-loop-i
invariant-loop-i l =
    (l.a ≤ l.i) × (l.i < l.b) × Left l.initial.room l.at (nest_laid l.above l.self.n (bytes_of l.self.to.now l.a l.b)) l.room l.p (nest_laid l.above l.self.n (bytes_of l.self.to.now l.i l.b))
