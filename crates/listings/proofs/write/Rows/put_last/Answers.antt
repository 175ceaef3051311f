-- `put_last` meets its contract.
use Rattle.listings.proofs.RuleWays.{last-first-long, last-second-long, last-first-put, last-second-put}
use native.Mathlib.Omega.{arith}
use Rattle.reading.specs.Bytes.{two_bytes}
use Rattle.listings.specs.Putting.{term_laid}
use Rattle.listings.proofs.write.Rows.put_last.Goals as goal

pub put_choice-q-requires : goal.put_choice-q-requires
unfolding two_bytes term_laid
put_choice-q-requires c = let a = c.args in
    (omega arith, omega (arith, last-second-long a.above a.self.n a.x c.if-above.true))

pub put_term-requires : goal.put_term-requires
unfolding two_bytes term_laid
put_term-requires c =
    let a = c.args in
    (omega arith, omega (arith, c.put_choice-q.ensures.behind, last-second-long a.above a.self.n a.x c.if-above.true))

pub put_term-requires-else-above : goal.put_term-requires-else-above
unfolding two_bytes term_laid
put_term-requires-else-above c = let a = c.args in
    (omega arith, omega (arith, last-first-long a.above a.self.n a.x c.if-above.false))

pub returns-then-above : goal.returns-then-above
returns-then-above c =
    let a = c.args in
    last-second-put a.above a.self.n a.x c.if-above.true c.put_choice-q.ensures c.put_term.ensures

pub returns-else-above : goal.returns-else-above
returns-else-above c = let a = c.args in
    last-first-put a.above a.self.n a.x c.if-above.false c.put_term-else-above.ensures
