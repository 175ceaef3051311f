-- `put_rules` meets its contract: the rules from heading x on are left to be put.
use lib.ListN.{get_or}
use Rattle.terms.specs.Places.{bytes_of}
use Prim.Native.Nat.{◌+◌, ◌-◌}
use native.Mathlib.Nat.{sub-zero}
use native.Mathlib.Omega.{arith}
use Rattle.terms.specs.TermRows.{broader_rows}
use Rattle.listings.specs.Putting.{rule_laid, rules_laid}
use Rattle.listings.proofs.PutWays.{left-all, left-put, left-fits, left-same, left-none}
use Rattle.listings.proofs.WriteWays.{rules-more, rules-none, hold_row}
use Rattle.listings.proofs.write.Rows.put_rules.Goals as goal

pub loop-x-init : goal.loop-x-init
loop-x-init c = (omega arith, rw sub-zero left-all)

pub put_rule-p-requires : goal.put_rule-p-requires
put_rule-p-requires c =
    let a = c.args in
    let l = c.loop-x in
    let less = c.loop-x-test.true in
    let split = rules-more a.self.from.now a.self.to.now a.above a.self.n l.x less in
    let first = rule_laid a.above a.self.n (bytes_of a.self.to.now (get_or a.self.from.now l.x 0) (get_or a.self.from.now (l.x + 1) 0)) in
    let rest = rules_laid a.above a.self.n (broader_rows a.self.from.now a.self.to.now (a.self.n - (l.x + 1)) (l.x + 1)) in
    rw (c.from-a.ensures, c.from-b.ensures) (hold_row a.self.from.now a.self.to.now a.self.n a.self.holding l.x less, left-fits first rest split l.invariant.1 c.requires)

pub loop-x-preserved : goal.loop-x-preserved
loop-x-preserved c =
    let l = c.loop-x in
    let a = c.args in
    let split = rules-more a.self.from.now a.self.to.now a.above a.self.n l.x c.loop-x-test.true in
    (omega arith, left-put split l.invariant.1 (rw (c.from-a.ensures, c.from-b.ensures) at c.put_rule-p.ensures))

pub shape_of-room : goal.shape_of-room
shape_of-room c = left-same c.loop-x.invariant.1

pub returns : goal.returns
returns c =
    let a = c.args in
    let l = c.loop-x in
    left-none (rules-none a.self.from.now a.self.to.now a.above a.self.n l.x c.loop-x-test.false) l.invariant.1
