-- `is_met` meets its contract.
use Prim.Native.Nat.{◌<◌}
use borrow.Author.Rules.{rules}
use Rattle.terms.proofs.MeetWays.{never}
use Rattle.terms.proofs.judge.Noted.is_met.Goals as goal

pub bounds-met-k : goal.bounds-met-k
bounds-met-k c =
    let n = c.is_noted.ensures c.if-is_noted.true in
    let few : c.args.k < 8192 = n.0 in
    search rules

pub returns-then-is_noted : goal.returns-then-is_noted
returns-then-is_noted c =
    let n = c.is_noted.ensures c.if-is_noted.true in
    λ e. (n.1, n.2, e)

pub returns : goal.returns
returns c = λ e. never e
