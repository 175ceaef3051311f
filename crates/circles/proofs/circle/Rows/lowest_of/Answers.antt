-- `lowest_of` meets its contract: the lowest so far, and the lowest of the terms still to come.
use mathlib.Core.Path.{◌≡◌, sym, ap, ◌∙◌}
use mathlib.Core.Bool.{false}
use Prim.Native.Nat.{◌+◌, ◌≤◌, min}
use native.Mathlib.Omega.{arith}
use lib.ListN.{length, get_or}
use Rattle.tagged.specs.Hops.{broader_of}
use Rattle.tagged.specs.Circle.{lowest}
use Rattle.terms.specs.Places.{bytes_of}
use Rattle.circles.specs.Saving.{held, lower_of}
use Rattle.circles.proofs.SavingRows.{broader-at, broader-past, end_low, end_in, term-low}
use Rattle.circles.proofs.MarkWays.{lowest-more, lowest-none, lowest_nobody, lowest-within, lower-turn, lower-less}
use Rattle.circles.proofs.circle.Rows.lowest_of.Goals as goal

pub returns-then-self-here : goal.returns-then-self-here
returns-then-self-here c =
    let a = c.args in
    λ own same long. sym (lowest_nobody own (broader_of (held a.self.from.now a.self.to.now a.self.n) a.here)
    (broader-past a.self.from.now a.self.to.now a.self.n a.self.holding a.here c.if-self-here.true) ∙ long)

pub loop-i-init : goal.loop-i-init
loop-i-init c =
    let a = c.args in
    let whole = broader-at a.self.from.now a.self.to.now a.self.n a.self.holding a.here (omega arith) in (
      omega arith,
      λ own same long. rw (c.place-start.ensures, c.place-until.ensures, ← whole)
          (omega (arith, lowest-within own (broader_of (held a.self.from.now a.self.to.now a.self.n) a.here))),
    )

pub term-b-requires : goal.term-b-requires
term-b-requires c =
    let a = c.args in
    omega (arith, end_low a.self.from.now a.self.to.now a.self.n a.self.holding a.here (omega arith), c.place-until.ensures)

pub bounds-marks-b : goal.bounds-marks-b
bounds-marks-b c =
    let a = c.args in
    let until = c.place-until.ensures in
    let low = term-low a.self.from.now a.self.to.now a.self.n a.self.holding a.here c.loop-i.i (omega arith) (omega arith) in
    omega (arith, c.term-b.ensures, c.args.self.holding.terms.few)

pub loop-i-preserved : goal.loop-i-preserved
loop-i-preserved c =
    let a = c.args in
    let loop = c.loop-i in
    let until = c.place-until in
    let marks = a.marks.now in
    let to = a.self.to.now in
    let b = get_or to loop.i 0 in
    let within : until.result ≤ length to = omega (arith, until.ensures, end_in a.self.from.now to a.self.n a.self.holding a.here (omega arith)) in
    let now-low : c.lower_of-low.result ≡ lower_of (get_or marks b false) b loop.low = rw c.term-b.ensures at c.lower_of-low.ensures in
    let less = lower-less (get_or marks b false) b loop.low in (
      omega (arith, loop.invariant.0),
      λ own same long.
          let more = lowest-more own to loop.i until.result (omega arith) within in
          let rest = lowest own (bytes_of to (loop.i + 1) until.result) in
          let turn : min loop.low (lower_of (get_or own b false) b rest) ≡ min (lower_of (get_or marks b false) b loop.low) rest =
          rw (same b) (lower-turn (get_or own b false) b loop.low rest) in
          rw now-low (loop.invariant.1 own same long ∙ ap (min loop.low) more ∙ turn),
    )

pub returns : goal.returns
returns c =
    let a = c.args in
    let loop = c.loop-i in
    let until = c.place-until.result in
    λ own same long. omega (arith, loop.invariant.0, loop.invariant.1 own same long, lowest-none own a.self.to.now loop.i until (omega arith))
