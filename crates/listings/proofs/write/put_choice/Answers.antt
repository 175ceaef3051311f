-- `put_choice` meets its contract.
use Rattle.listings.proofs.PutWays.{put_then}
use Rattle.listings.proofs.write.put_choice.Goals as goal

pub returns : goal.returns
returns c = put_then c.put-p.ensures c.put_term.ensures
