-- `size_of` meets its contract.
use Rattle.listings.proofs.RuleWays.{size_none, size-first, size-second}
use Rattle.listings.proofs.write.size_of.Goals as goal

pub returns-then-terms-eq0 : goal.returns-then-terms-eq0
returns-then-terms-eq0 c = size_none c.args.above c.args.terms c.if-terms-eq0.true

pub returns-then-above : goal.returns-then-above
returns-then-above c = size-second c.args.above c.args.terms c.if-terms-eq0.false c.if-above.true

pub returns-else-above : goal.returns-else-above
returns-else-above c = size-first c.args.above c.args.terms c.if-terms-eq0.false c.if-above.false
