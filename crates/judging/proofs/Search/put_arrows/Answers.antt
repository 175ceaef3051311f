-- `put_arrows` meets its contract: the arrows looked at so far lead to seen nodes.
use mathlib.Core.Path.{◌≡◌, sym, ap, subst, ◌∙◌}
use Prim.Native.Nat.{ℕ, ◌+◌, ◌<◌}
use mathlib.Core.Bool.{true}
use native.Mathlib.Omega.{arith}
use lib.ListN.{length, get_or, set}
use Rattle.nodes.specs.Nodes.{Node, at}
use Rattle.accepted.specs.Faults.{arrows_of}
use Rattle.accepted.proofs.Judged.{heap-at, heap-sized}
use Rattle.judging.specs.Judged.{symbols_of, node_of, heap_of}
use Rattle.judging.proofs.Arrows.{nth-arrow}
use Rattle.judging.proofs.Unseen.{no-true}
use Rattle.judging.proofs.Searched.{Putting, putting_first, putting_on, putting_push, putting_last, stack_room}
use Rattle.judging.proofs.Search.put_arrows.Goals as goal
use Rattle.judging.proofs.Search.put_arrows.Goals.{
  then-x-at+then-not-self-x,
  else-x-at,
  else-x-at-via-then-x-at+else-not-self-x,
  else-x-at-via-else-x-at,
}

pub loop-j-init : goal.loop-j-init
loop-j-init c = let s = c.args.self.now in putting_first (heap_of c.args.at) c.args.from s.seen s.stack.nodes s.stack.height

pub loop-j-preserved : goal.loop-j-preserved
loop-j-preserved c =
    let a = c.args in
    let p = a.at in
    let l = c.loop-j in
    let seen = l.self.seen in
    let top = l.self.stack.height in
    let m = p.nodes.now in
    let h = heap_of p in
    let sized : length h ≡ p.used = heap-sized (symbols_of p) m p.used in
    let x = c.from-x in
    let many = c.arrows_at-j-end in
    let node : at h a.from ≡ node_of p a.from = heap-at (symbols_of p) m p.used a.from c.requires.1 in
    let count : length (arrows_of (at h a.from)) ≡ many.result = ap (λ (y : Node). length (arrows_of y)) node ∙ sym many.ensures in
    let within : l.j < length (arrows_of (at h a.from)) = omega (arith, count, c.loop-j-test.true) in
    let arrow : get_or (arrows_of (at h a.from)) l.j 0 ≡ x.result =
    ap (λ (y : Node). get_or (arrows_of y) l.j 0) node
    ∙ nth-arrow p.book.now p.table.now m a.from l.j (omega (arith, within, count, many.ensures))
    ∙ sym c.arrow_at-to.ensures
    ∙ sym x.ensures in
    let s = a.self.now in
    elim c.if-x-at.branch [
      | then-x-at+then-not-self-x w ↦
          let other = no-true _ w.if-not-self-x.true in
          let (there, low, room) = stack_room p.used x.result l.invariant sized c.requires.0 w.if-x-at.true other in
          let pushed = w.push.ensures (omega (arith, low, p.few)) in
          rw (w.self-is, pushed.0, pushed.1)
          (subst
          (λ (v : ℕ). Putting h a.from s.seen s.stack.nodes s.stack.height (set seen x.result true) (set l.self.stack.nodes top v) (top + 1) (l.j + 1))
          x.ensures
          (putting_push l.invariant x.result arrow within (omega (arith, w.if-x-at.true, sized)) there room other))
      | else-x-at w ↦ rw w.self-is (elim w.else-x-at.branch [
        | else-x-at-via-then-x-at+else-not-self-x w' ↦ putting_on l.invariant x.result arrow (λ lt. w'.if-not-self-x.false)
        | else-x-at-via-else-x-at w' ↦ putting_on l.invariant x.result arrow (λ lt. absurd (omega (arith, w'.if-x-at.false, sized, lt)))
      ])
    ]

pub returns : goal.returns
returns c =
    let p = c.args.at in
    let many = c.arrows_at-j-end in
    let count : length (arrows_of (at (heap_of p) c.args.from)) ≡ many.result =
    ap (λ (y : Node). length (arrows_of y)) (heap-at (symbols_of p) p.nodes.now p.used c.args.from c.requires.1) ∙ sym many.ensures in
    putting_last c.loop-j.invariant (omega (arith, count, c.loop-j-test.false))
