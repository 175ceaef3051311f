-- `mark_at` meets its contract: a mark among more headings.
use Rattle.circles.proofs.MarkWays.{mark_same}
use Rattle.circles.proofs.circle.mark_at.Goals as goal

pub returns : goal.returns
returns c = mark_same 341 c.args.n c.args.x c.requires.0 c.requires.1
