-- `first_known` meets its contract.
use Prim.Native.Nat.{◌+◌, ◌≤◌, ◌<◌}
use native.Mathlib.Omega.{arith}
use borrow.Author.Rules.{rules}
use lib.ListN.{length}
use Rattle.terms.specs.Places.{end_of}
use Rattle.terms.proofs.LineWays.{end_after}
use Rattle.terms.proofs.TwiceBlocks.{begins-on, known_past, known-cut, known_until, known-here, known_on}
use Rattle.terms.proofs.judge.Names.first_known.Goals as goal

pub loop-p-init : goal.loop-p-init
loop-p-init c =
    (c.requires.begins, omega arith, λ j low high. absurd (omega arith))

pub returns-then-s-to : goal.returns-then-s-to
returns-then-s-to c =
    let loop = c.loop-p in
    let a = c.args in
    let to = c.line_end-to.ensures in
    known-cut a.s.now a.self.now.place a.line a.until loop.p loop.n loop.invariant.0 loop.invariant.1 loop.invariant.2 (omega arith) (omega arith)

pub returns-then-until-n : goal.returns-then-until-n
returns-then-until-n c =
    let loop = c.loop-p in
    let a = c.args in
    known_until a.s.now a.self.now.place a.line a.until loop.p loop.n loop.invariant.0 loop.invariant.1 loop.invariant.2 c.if-until-n.true

pub known_at-requires : goal.known_at-requires
known_at-requires c =
    record { table = c.requires.table; inside = omega arith }

pub returns-then-known_at : goal.returns-then-known_at
returns-then-known_at c =
    let loop = c.loop-p in
    let a = c.args in
    let s = a.s.now in
    let to = c.line_end-to.ensures in
    known-here s a.self.now.place a.line a.until loop.p loop.n loop.invariant.0 loop.invariant.1 loop.invariant.2 (omega (arith, c.if-s-to.false)) c.if-until-n.false
    c.known_at.result c.known_at.ensures c.if-known_at.true

pub overflow_add-n : goal.overflow_add-n
overflow_add-n c =
    let loop = c.loop-p in
    let a = c.args in
    let fits : loop.n + 1 ≤ length a.s.now + 1 = omega (arith, loop.invariant.0.few, c.loop-p-test.true) in
    search rules

pub loop-p-smaller : goal.loop-p-smaller
loop-p-smaller c =
    let loop = c.loop-p in
    let a = c.args in
    let later = end_after a.s.now loop.p in
    let to = c.line_end-to.ensures in
    omega (arith, c.loop-p-test.true, c.if-s-to.false)

pub loop-p-preserved : goal.loop-p-preserved
loop-p-preserved c =
    let loop = c.loop-p in
    let a = c.args in
    let s = a.s.now in
    let to = c.line_end-to.ensures in
    let later = end_after s loop.p in
    let inside : end_of s loop.p < length s = omega (arith, c.if-s-to.false) in (
      rw to (begins-on s loop.p loop.n loop.invariant.0 inside (omega arith) later),
      omega (arith, loop.invariant.1),
      known_on s a.self.now.place a.line a.until loop.p loop.n loop.invariant.0 loop.invariant.1 loop.invariant.2 inside c.known_at.result c.known_at.ensures c.if-known_at.false,
    )

pub returns : goal.returns
returns c =
    let loop = c.loop-p in
    let a = c.args in
    known_past a.s.now a.self.now.place a.line a.until loop.p loop.n loop.invariant.0 loop.invariant.1 loop.invariant.2 (omega arith)
