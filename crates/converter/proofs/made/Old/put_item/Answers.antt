-- `put_item` meets its contract: the tree is put, and then its length in front of it.
use native.Mathlib.Omega.{arith}
use Rattle.converter.proofs.ScanWays.{counted-put}
use Rattle.converter.proofs.made.Old.put_item.Goals as goal

pub returns : goal.returns
returns c =
    let put = counted-put _ c.put_spots.ensures c.put_two.ensures.number in
    record { behind = put.behind; near = omega (arith, put.near); put = put.put }
