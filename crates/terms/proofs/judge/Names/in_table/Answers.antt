-- `in_table` meets its contract: no entry from the one looked at on has the name, so a walk down the chain misses none.
use mathlib.Core.Path.{sym, ◌∙◌}
use Prim.Native.Nat.{◌-◌, ◌≤◌, ◌<◌}
use native.Mathlib.Omega.{arith}
use lib.ListN.{get_or}
use Rattle.terms.specs.Places.{bytes_of}
use Rattle.terms.proofs.JudgeWays.{end-within}
use Rattle.terms.proofs.TwiceChains.{seek_own, seek_none}
use Rattle.terms.proofs.judge.Names.in_table.Goals as goal

pub loop-i-init : goal.loop-i-init
loop-i-init c =
    (omega arith, c.requires.same_hash, λ k low high. absurd (omega arith))

pub same-requires : goal.same-requires
same-requires c =
    let a = c.args in
    let s = a.s.now in
    let i = c.loop-i.i in
    let end = c.line_end-end.ensures in
    let inside = c.requires.inside (i - 1) (omega (arith, c.loop-i.invariant.0, c.loop-i-test.true)) in
    let within = end-within s (get_or a.self.now.place (i - 1) 0) inside in
    (c.requires.bounds.1, omega arith)

pub returns-then-same : goal.returns-then-same
returns-then-same c =
    let i = c.loop-i.i in
    let end = c.line_end-end.ensures in
    (i - 1, omega (arith, c.loop-i.invariant.0, c.loop-i-test.true), rw end at (sym c.same.ensures ∙ c.if-same.true))

pub loop-i-smaller : goal.loop-i-smaller
loop-i-smaller c =
    let loop = c.loop-i in
    omega (arith, c.requires.chained.low (loop.i - 1) (omega (arith, loop.invariant.0, c.loop-i-test.true)), c.loop-i-test.true)

pub loop-i-preserved : goal.loop-i-preserved
loop-i-preserved c =
    let a = c.args in
    let s = a.s.now in
    let loop = c.loop-i in
    let end = c.line_end-end.ensures in
    let some : 0 < loop.i = omega (arith, c.loop-i-test.true) in
    let within : loop.i ≤ a.from = loop.invariant.0 in
    let chain = c.requires.chained in
    let name = bytes_of s a.at a.to in
    let differs = rw end at (sym c.same.ensures ∙ c.if-same.false) in (
      omega (arith, chain.low (loop.i - 1) (omega arith)),
      seek_own s a.self.now.place a.self.now.before a.from chain name loop.i some within (loop.invariant.1 some) differs,
      seek_none s a.self.now.place a.self.now.before a.from chain name loop.i some within (loop.invariant.1 some) differs loop.invariant.2,
    )

pub returns : goal.returns
returns c =
    let loop = c.loop-i in
    λ k less is. loop.invariant.2 k (omega arith) less is
