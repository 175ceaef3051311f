-- `put_rule` meets its contract.
use Prim.Native.Nat.{◌≤◌, ◌-◌}
use lib.ListN.{length}
use Rattle.listings.proofs.RuleWays.{size_small, rule-room, fail-room, rule-put_nest, rule-put-fail}
use native.Mathlib.Omega.{arith}
use Rattle.reading.specs.Bytes.{two_bytes}
use Rattle.listings.proofs.write.Rows.put_rule.Goals as goal

pub overflow_sub-b : goal.overflow_sub-b
overflow_sub-b c = c.requires.0.rising

pub size_of-requires : goal.size_of-requires
size_of-requires c = omega (arith, c.requires.0.filled)

pub put_two-p-requires : goal.put_two-p-requires
unfolding two_bytes
put_two-p-requires c =
    let a = c.args in
    let row = c.requires.0 in
    let filled : a.b ≤ length a.self.to.now = omega (arith, row.whole, row.filled) in
    let small = size_small a.above (a.b - a.a) (omega (arith, row.filled)) in
    let room = rule-room a.above a.self.n a.self.to.now a.a a.b filled row.rising in
    (omega (arith, c.size_of.ensures), omega (arith, c.requires.1))

pub put-q-requires : goal.put-q-requires
unfolding two_bytes
put-q-requires c =
    let a = c.args in
    let row = c.requires.0 in
    let filled : a.b ≤ length a.self.to.now = omega (arith, row.whole, row.filled) in
    let room = rule-room a.above a.self.n a.self.to.now a.a a.b filled row.rising in
    omega (arith, c.put_two-p.ensures.behind, c.requires.1)

pub put-requires : goal.put-requires
unfolding two_bytes
put-requires c =
    let a = c.args in
    let row = c.requires.0 in
    let filled : a.b ≤ length a.self.to.now = omega (arith, row.whole, row.filled) in
    let room = rule-room a.above a.self.n a.self.to.now a.a a.b filled row.rising in
    let one = fail-room a.above a.self.n a.self.to.now a.a a.b filled row.rising c.if-a-b.true in
    omega (arith, c.put_two-p.ensures.behind, c.put-q.ensures.behind, c.requires.1)

pub put_nest-requires : goal.put_nest-requires
unfolding two_bytes
put_nest-requires c =
    let a = c.args in
    let row = c.requires.0 in
    let filled : a.b ≤ length a.self.to.now = omega (arith, row.whole, row.filled) in
    let room = rule-room a.above a.self.n a.self.to.now a.a a.b filled row.rising in
    let behind = c.put_two-p.ensures.behind in
    (row, omega (arith, row.rising, c.if-a-b.false), omega (arith, behind, c.put-q.ensures.behind, c.requires.1))

pub returns-then-a-b : goal.returns-then-a-b
returns-then-a-b c =
    let a = c.args in
    let row = c.requires.0 in
    let filled : a.b ≤ length a.self.to.now = omega (arith, row.whole, row.filled) in
    let first = rw c.size_of.ensures at c.put_two-p.ensures in
    let fail = c.put.ensures in
    rule-put-fail a.above a.self.n a.self.to.now a.a a.b filled row.rising first c.put-q.ensures c.if-a-b.true fail

pub returns-else-a-b : goal.returns-else-a-b
returns-else-a-b c =
    let a = c.args in
    let row = c.requires.0 in
    let filled : a.b ≤ length a.self.to.now = omega (arith, row.whole, row.filled) in
    let first = rw c.size_of.ensures at c.put_two-p.ensures in
    let nest = c.put_nest.ensures in
    rule-put_nest a.above a.self.n a.self.to.now a.a a.b filled row.rising first c.put-q.ensures nest
