-- `grown` meets its contract.
use Rattle.terms.proofs.TermWays.{grown_none, grown_some}
use Rattle.terms.proofs.terms.grown.Goals as goal

pub returns-then-own-eq0 : goal.returns-then-own-eq0
returns-then-own-eq0 c = grown_none c.if-own-eq0.true

pub returns : goal.returns
returns c = grown_some _ c.if-own-eq0.false
