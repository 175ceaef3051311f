-- `put_two` meets its contract.
use Rattle.reading.specs.Bytes.{two_bytes}
use Rattle.listings.proofs.PutWays.{two-put}
use borrow.Author.Rules.{rules}
use Rattle.listings.proofs.write.put_two.Goals as goal

pub put-p-requires : goal.put-p-requires
unfolding two_bytes
put-p-requires c = search rules

pub put-requires : goal.put-requires
unfolding two_bytes
put-requires c = search rules

pub returns : goal.returns
returns c =
    two-put c.args.n c.put-p.ensures c.put.ensures
