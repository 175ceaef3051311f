-- `put_symbol` meets its contract.
use Rattle.listings.proofs.PutWays.{put_then}
use Rattle.listings.proofs.write.put_symbol.Goals as goal

pub returns : goal.returns
returns c =
    put_then c.put-p.ensures (put_then c.put-p-2.ensures c.put.ensures)
