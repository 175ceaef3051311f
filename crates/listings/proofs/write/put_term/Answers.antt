-- `put_term` meets its contract.
use Rattle.reading.specs.Bytes.{two_bytes}
use Rattle.listings.specs.Putting.{term_laid}
use Rattle.listings.proofs.PutWays.{term-put}
use borrow.Author.Rules.{rules}
use Rattle.listings.proofs.write.put_term.Goals as goal

pub put-p-requires : goal.put-p-requires
unfolding two_bytes term_laid
put-p-requires c = search rules

pub put_two-requires : goal.put_two-requires
unfolding two_bytes term_laid
put_two-requires c = search rules

pub returns : goal.returns
returns c =
    term-put c.args.f c.put-p.ensures c.put_two.ensures
