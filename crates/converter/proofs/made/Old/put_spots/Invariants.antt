-- What the loops of `put_spots` keep.
use mathlib.Core.Path.{◌≡◌}
use Prim.Native.Nat.{◌+◌, ◌*◌, ◌-◌, ◌≤◌}
use lib.ListN.{length}
use lib.Seq.{sets}
use Rattle.limits.specs.Sizes.{most_book_bytes}
use Rattle.converter.specs.Scan.{spots}
use Rattle.converter.proofs.made.Old.put_spots.Given as goal

abbrev pub invariant-loop-at : goal.invariant-loop-at
invariant-loop-at l =
    let rest = spots l.self.book.now l.self.ends.now l.e l.at in
    let all = spots l.self.book.now l.self.ends.now l.e l.p in
    let was = l.initial.made in
    (l.p ≤ l.at) × (l.at ≤ 4 * most_book_bytes + 1) × (l.made.size + 2 * l.p ≤ was.size + 2 * l.at) × (l.made.size + length rest ≡ was.size + length all)
    × (sets l.made.bytes l.made.size rest ≡ sets was.bytes was.size all)

abbrev pub decreases-loop-at : goal.decreases-loop-at
decreases-loop-at l = l.e - l.at
