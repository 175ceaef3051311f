-- `put_next` meets its contract.
use native.Mathlib.Omega.{arith}
use Rattle.reading.specs.Bytes.{two_bytes}
use Rattle.listings.specs.Putting.{term_laid}
use Rattle.listings.proofs.RuleWays.{next-some, next_both, next-first-put, next-second-put}
use Rattle.listings.proofs.write.Rows.put_next.Goals as goal

pub put_choice-p-requires : goal.put_choice-p-requires
unfolding two_bytes term_laid
put_choice-p-requires c =
    let a = c.args in
    (omega arith, omega (arith, next-some a.above a.self.n a.x))

pub put_choice-requires : goal.put_choice-requires
unfolding two_bytes term_laid
put_choice-requires c =
    let a = c.args in
    (omega arith, omega (arith, c.put_choice-p.ensures.behind, next_both a.above a.self.n a.x c.if-above.true))

pub returns-then-above : goal.returns-then-above
returns-then-above c =
    let a = c.args in
    next-second-put a.above a.self.n a.x c.if-above.true c.put_choice-p.ensures c.put_choice.ensures

pub returns-else-above : goal.returns-else-above
returns-else-above c =
    let a = c.args in
    next-first-put a.above a.self.n a.x c.if-above.false c.put_choice-p.ensures
