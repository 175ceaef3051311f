-- `front` meets its contract: the version byte 2, and the symbol part as it stands.
use Prim.Native.Nat.{◌+◌}
use native.Mathlib.Omega.{arith}
use lib.ListN.{replicate}
use Rattle.limits.specs.Sizes.{most_book_bytes}
use Rattle.converter.proofs.ScanWays.{part-short, front-put}
use Rattle.converter.proofs.made.Old.front.Goals as goal

pub put_part-requires : goal.put_part-requires
put_part-requires c =
    let a = c.args in
    let short = part-short a.self.book.now 1 (3 + c.number.result) in
    (omega arith, rw c.part_of-part.ensures (omega (arith, short)))

pub returns : goal.returns
returns c =
    let a = c.args in
    let part = rw c.number.ensures.0 at c.part_of-part.ensures in
    front-put a.self.book.now (replicate most_book_bytes 0) _ (omega arith) part c.put_byte.ensures c.put_part.ensures
