-- `put_nest` meets its contract: the terms from i on are left to be put.
use mathlib.Core.Path.{◌≡◌, ap, ◌∙◌}
use Prim.Native.Nat.{◌+◌, ◌-◌, ◌≤◌}
use native.Mathlib.Omega.{arith}
use lib.ListN.{length, get_or}
use Rattle.listings.specs.Putting.{next_laid, nest_laid}
use Rattle.terms.specs.Places.{bytes_of}
use Rattle.listings.proofs.PutWays.{put_same, left-all, left-put, left-fits, left-same, left-last}
use Rattle.listings.proofs.RuleWays.{nest_more, nest_one}
use Rattle.listings.proofs.write.Rows.put_nest.Goals as goal

pub loop-i-init : goal.loop-i-init
loop-i-init c = (omega arith, omega arith, left-all)

pub put_next-p-requires : goal.put_next-p-requires
put_next-p-requires c =
    let l = c.loop-i in
    let a = c.args in
    let row = c.requires.0 in
    let filled : a.b ≤ length a.self.to.now = omega (arith, row.whole, row.filled) in
    let split = nest_more a.above a.self.n a.self.to.now l.i a.b filled (omega arith) in
    let first = next_laid a.above a.self.n (get_or a.self.to.now l.i 0) in
    let rest = nest_laid a.above a.self.n (bytes_of a.self.to.now (l.i + 1) a.b) in
    rw c.from.ensures (row.inside l.i (omega arith), left-fits first rest split l.invariant.2 c.requires.2)

pub loop-i-preserved : goal.loop-i-preserved
loop-i-preserved c =
    let l = c.loop-i in
    let a = c.args in
    let row = c.requires.0 in
    let filled : a.b ≤ length a.self.to.now = omega (arith, row.whole, row.filled) in
    let split = nest_more a.above a.self.n a.self.to.now l.i a.b filled (omega arith) in
    (omega arith, omega arith, left-put split l.invariant.2 (rw c.from.ensures at c.put_next-p.ensures))

pub put_last-requires : goal.put_last-requires
put_last-requires c =
    let l = c.loop-i in
    let a = c.args in
    let row = c.requires.0 in
    let filled : a.b ≤ length a.self.to.now = omega (arith, row.whole, row.filled) in
    let last = a.b - 1 in
    let at-last : l.i ≡ last = omega arith in
    let is = nest_one a.above a.self.n a.self.to.now last a.b filled (omega arith) (omega arith) in
    rw c.from-2.ensures (row.inside last (omega arith), omega (arith, ap length is, (rw at-last at l.invariant.2).behind, c.requires.2))

pub shape_of-room : goal.shape_of-room
shape_of-room c = put_same c.put_last.ensures ∙ left-same c.loop-i.invariant.2

pub returns : goal.returns
returns c =
    let l = c.loop-i in
    let a = c.args in
    let row = c.requires.0 in
    let filled : a.b ≤ length a.self.to.now = omega (arith, row.whole, row.filled) in
    let last = a.b - 1 in
    let at-last : l.i ≡ last = omega arith in
    let is = nest_one a.above a.self.n a.self.to.now last a.b filled (omega arith) (omega arith) in
    left-last is (rw at-last at l.invariant.2) (rw c.from-2.ensures at c.put_last.ensures)
