-- `shortest_circle` meets its contract: what is known of the headings passed.
use mathlib.Core.Path.{◌≡◌}
use Prim.Native.Nat.{◌+◌, ◌≤◌}
use native.Mathlib.Omega.{arith}
use lib.ListN.{length}
use Rattle.circles.specs.Saving.{held}
use Rattle.circles.proofs.SavingRows.{held-length}
use Rattle.circles.proofs.MarkWays.{sought_none, sought_same, sought_shorter, sought_found, sought_missing}
use Rattle.circles.proofs.circle.Rows.shortest_circle.Goals as goal
use Rattle.circles.proofs.circle.Rows.shortest_circle.Goals.{then-k-hops, else-k-hops}

pub overflow_add-hops : goal.overflow_add-hops
overflow_add-hops c = omega (arith, c.args.self.holding.terms.few)

pub loop-x-init : goal.loop-x-init
loop-x-init c =
    let a = c.args in
    let long = held-length a.self.from.now a.self.to.now a.self.n 0 in
    (omega arith, sought_none (held a.self.from.now a.self.to.now a.self.n) (a.self.n + 1) (omega arith))

pub back_in-k-requires : goal.back_in-k-requires
back_in-k-requires c =
    let a = c.args in
    let long = held-length a.self.from.now a.self.to.now a.self.n 0 in
    let s = c.loop-x.invariant.1 in
    (c.loop-x-test.true, s.any, omega (arith, s.within, c.args.self.holding.terms.few))

pub loop-x-preserved : goal.loop-x-preserved
loop-x-preserved c =
    let a = c.args in
    let loop = c.loop-x in
    let broader = held a.self.from.now a.self.to.now a.self.n in
    let long = held-length a.self.from.now a.self.to.now a.self.n 0 in
    let back = c.back_in-k in (
      omega arith,
      elim c.if-k-hops.branch [
        | then-k-hops w ↦
            rw (w.hops-is, w.first-is) (sought_shorter broader loop.x loop.hops loop.first back.result loop.invariant.1 back.ensures w.if-k-hops.true (omega arith))
        | else-k-hops w ↦
            rw (w.hops-is, w.first-is) (sought_same broader loop.x loop.hops loop.first back.result loop.invariant.1 back.ensures w.if-k-hops.false)
      ],
    )

pub returns-then-self-hops : goal.returns-then-self-hops
returns-then-self-hops c =
    let a = c.args in
    let loop = c.loop-x in
    let broader = held a.self.from.now a.self.to.now a.self.n in
    let long = held-length a.self.from.now a.self.to.now a.self.n 0 in
    let all : loop.x ≡ length broader = omega (arith, loop.invariant.0) in
    sought_missing broader loop.hops loop.first (rw all at loop.invariant.1) (omega arith)

pub returns : goal.returns
returns c =
    let a = c.args in
    let loop = c.loop-x in
    let broader = held a.self.from.now a.self.to.now a.self.n in
    let long = held-length a.self.from.now a.self.to.now a.self.n 0 in
    let all : loop.x ≡ length broader = omega (arith, loop.invariant.0) in
    let s = rw all at loop.invariant.1 in
    let few : loop.hops ≤ length broader = omega arith in
    record { any = s.any; few = few; first = s.there few; found = sought_found broader loop.hops loop.first s few }
