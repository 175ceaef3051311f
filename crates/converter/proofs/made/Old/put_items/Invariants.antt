-- What the loops of `put_items` keep.
use mathlib.Core.Path.{◌≡◌}
use Prim.Native.Nat.{◌+◌, ◌*◌, ◌-◌, ◌≤◌}
use lib.ListN.{length}
use lib.Seq.{sets}
use Rattle.limits.specs.Sizes.{most_book_bytes}
use Rattle.converter.specs.Scan.{items}
use Rattle.converter.proofs.made.Old.put_items.Given as goal

abbrev pub invariant-loop-at : goal.invariant-loop-at
invariant-loop-at l =
    let rest = items l.self.book.now l.self.ends.now l.at in
    let all = items l.self.book.now l.self.ends.now l.p in
    let was = l.initial.made in
    (l.p ≤ l.at) × (l.at ≤ 4 * most_book_bytes) × (l.made.size + 10 * most_book_bytes * l.p ≤ was.size + 10 * most_book_bytes * l.at)
    × (l.made.size + length rest ≡ was.size + length all)
    × (l.made.size ≤ most_book_bytes → sets l.made.bytes l.made.size rest ≡ sets was.bytes was.size all)

abbrev pub decreases-loop-at : goal.decreases-loop-at
decreases-loop-at l = length l.self.book.now - l.at
