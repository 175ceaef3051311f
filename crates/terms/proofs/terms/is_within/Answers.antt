-- `is_within` meets its contract.
use Rattle.terms.proofs.TermWays.{own-over, own-within}
use Rattle.terms.proofs.terms.is_within.Goals as goal

pub returns-then-sum-gt-OWN : goal.returns-then-sum-gt-OWN
returns-then-sum-gt-OWN c = own-over c.args.sum c.if-sum-gt-OWN.true

pub returns : goal.returns
returns c = own-within c.args.sum c.if-sum-gt-OWN.false
