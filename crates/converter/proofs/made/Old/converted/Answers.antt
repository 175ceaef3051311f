-- `converted` meets its contract: the front, then the items, then the length of all items in front of them.
use Prim.Native.Nat.{ℕ}
use lib.ListN.{replicate, length-replicate}
use Rattle.limits.specs.Sizes.{most_book_bytes}
use Rattle.converter.proofs.ConvertWays.{all_made}
use Rattle.converter.proofs.ScanWays.{counted-put}
use Rattle.converter.proofs.made.Old.converted.Goals as goal

pub returns : goal.returns
returns c =
    let a = c.args in
    let then = rw c.number.ensures.0 at c.put_items.ensures in
    let zeros = length-replicate {A = ℕ} most_book_bytes 0 in
    let first = c.front-made.ensures in
    all_made a.self.book.now a.self.ends.now (replicate most_book_bytes 0) _ zeros first (counted-put _ then c.put_two.ensures.number)
