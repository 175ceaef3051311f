-- `fill` meets its contract: the table holds the headings of the lines passed, and none of these gives one again.
use mathlib.Core.Path.{◌≡◌, refl}
use Prim.Native.Nat.{◌+◌, ◌-◌, ◌≤◌, ◌<◌}
use native.Mathlib.Omega.{arith}
use borrow.Author.Rules.{rules}
use lib.ListN.{length}
use Rattle.terms.specs.Places.{end_of}
use Rattle.terms.specs.Blocks.{table_size}
use Rattle.terms.proofs.LineWays.{end_after}
use Rattle.terms.proofs.TermsExact.{zero-at}
use Rattle.terms.proofs.TwiceChains.{table_none}
use Rattle.terms.proofs.TwiceBlocks.{block_start, begins-on, over-past, over-cut, over_until, block_twice, block_new, block_none, told_over, told-twice, told-full}
use Rattle.terms.proofs.judge.Names.fill.Goals as goal
use Rattle.terms.proofs.judge.Names.fill.Goals.{in-New, in-NoHeading}

pub loop-p-init : goal.loop-p-init
loop-p-init c =
    let a = c.args in
    let s = a.s.now in
    let rows = c.requires.rows in
    let table = table_none s a.self.now.place a.self.now.before _ rows.0 rows.1 (refl, zero-at 8192) in
    (c.requires.begins, block_start s (a.line - 1) a.self.now.place a.self.now.before _ table, omega arith, omega arith, omega arith)

pub returns-then-s-to : goal.returns-then-s-to
returns-then-s-to c =
    let loop = c.loop-p in
    let a = c.args in
    let s = a.s.now in
    let to = c.line_end-to.ensures in
    told_over s a.at a.line a.until loop.p loop.n loop.self.place loop.self.before loop.self.last
    (over-cut s (a.line - 1) loop.p loop.n loop.invariant.0 loop.self.place loop.self.before loop.self.last loop.count loop.invariant.1 (omega arith) (omega arith) a.until)

pub returns-then-until-n : goal.returns-then-until-n
returns-then-until-n c =
    let loop = c.loop-p in
    let a = c.args in
    let s = a.s.now in
    told_over s a.at a.line a.until loop.p loop.n loop.self.place loop.self.before loop.self.last
    (over_until s (a.line - 1) loop.p loop.n loop.invariant.0 loop.self.place loop.self.before loop.self.last loop.count loop.invariant.1 a.until c.if-until-n.true)

pub returns-then-count-eq-TABLE : goal.returns-then-count-eq-TABLE
returns-then-count-eq-TABLE c =
    let loop = c.loop-p in
    let a = c.args in
    let s = a.s.now in
    let full : loop.count ≡ table_size = c.if-count-eq-TABLE.true in
    told-full s a.at a.line a.until loop.p loop.n loop.self.place loop.self.before loop.self.last (rw full at loop.invariant.1) loop.invariant.0 (omega (arith, loop.invariant.3)) loop.invariant.2

pub enter-requires : goal.enter-requires
enter-requires c =
    let loop = c.loop-p in
    record { table = loop.invariant.1.table; bounds = (omega arith, omega (arith, loop.invariant.4, c.if-count-eq-TABLE.false)) }

pub returns-in-Given : goal.returns-in-Given
returns-in-Given c =
    let loop = c.loop-p in
    let a = c.args in
    let s = a.s.now in
    let to = c.line_end-to.ensures in
    let entered = c.in-Given.ensures in
    told-twice s a.at a.line a.until loop.p loop.n c.enter.new.self.place c.enter.new.self.before c.enter.new.self.last
    (block_twice s (a.line - 1) loop.p loop.n loop.invariant.0 loop.self.place loop.self.before loop.self.last loop.count loop.invariant.1
    (omega (arith, c.if-s-to.false)) c.enter.new.self.place c.enter.new.self.before c.enter.new.self.last entered a.until c.if-until-n.false)

pub overflow_add-count : goal.overflow_add-count
overflow_add-count c =
    let loop = c.loop-p in
    let fits : loop.count + 1 ≤ 8194 = omega (arith, loop.invariant.4) in
    search rules

pub overflow_add-n : goal.overflow_add-n
overflow_add-n c =
    let loop = c.loop-p in
    let a = c.args in
    let fits : loop.n + 1 ≤ length a.s.now + 1 = omega (arith, loop.invariant.0.few, c.loop-p-test.true) in
    search rules

pub loop-p-smaller : goal.loop-p-smaller
loop-p-smaller c =
    let loop = c.loop-p in
    let a = c.args in
    let later = end_after a.s.now loop.p in
    let to = c.line_end-to.ensures in
    omega (arith, c.loop-p-test.true, c.if-s-to.false)

pub loop-p-preserved : goal.loop-p-preserved
loop-p-preserved c =
    let loop = c.loop-p in
    let a = c.args in
    let s = a.s.now in
    let to = c.line_end-to.ensures in
    let later = end_after s loop.p in
    let inside : end_of s loop.p < length s = omega (arith, c.if-s-to.false) in
    let there : loop.p ≤ length s = omega (arith, c.loop-p-test.true) in
    let room : loop.count < table_size = omega (arith, loop.invariant.4, c.if-count-eq-TABLE.false) in
    let begun = begins-on s loop.p loop.n loop.invariant.0 inside (omega arith) later in
    let new = c.enter.new in
    elim c.match-enter.branch [
      | in-New w ↦
          rw w.count-is (
            rw to begun,
            block_new s (a.line - 1) loop.p loop.n loop.invariant.0 loop.self.place loop.self.before loop.self.last loop.count loop.invariant.1
                inside new.self.place new.self.before new.self.last w.in-New.ensures there room,
            omega (arith, loop.invariant.2),
            omega (arith, loop.invariant.3),
            omega arith,
          )
      | in-NoHeading w ↦
          rw w.count-is (
            rw to begun,
            block_none s (a.line - 1) loop.p loop.n loop.invariant.0 loop.self.place loop.self.before loop.self.last loop.count loop.invariant.1
                inside new.self.place new.self.before new.self.last w.in-NoHeading.ensures,
            omega (arith, loop.invariant.2),
            omega (arith, loop.invariant.3),
            loop.invariant.4,
          )
    ]

pub returns : goal.returns
returns c =
    let loop = c.loop-p in
    let a = c.args in
    let s = a.s.now in
    told_over s a.at a.line a.until loop.p loop.n loop.self.place loop.self.before loop.self.last
    (over-past s (a.line - 1) loop.p loop.n loop.invariant.0 loop.self.place loop.self.before loop.self.last loop.count loop.invariant.1 c.loop-p-test.false a.until)
