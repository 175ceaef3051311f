-- `leads_back` meets its contract: what is seen is reached, and in the end all that is reached is seen.
use mathlib.Core.Bool.{false}
use mathlib.Core.List.{List}
use mathlib.Core.Logic.{inl, inr}
use mathlib.Core.Path.{◌≡◌, refl, sym, ap, subst, ◌∙◌}
use Prim.Native.Nat.{ℕ}
use native.Mathlib.Omega.{arith}
use lib.ListN.{length, get_or}
use Rattle.accepted.proofs.Judged.{heap-sized}
use Rattle.judging.specs.Judged.{symbols_of, heap_of}
use Rattle.judging.specs.Search.{Searching, Roomy, Put}
use Rattle.judging.proofs.Searched.{pop, taken, all-on, put-sum, put-room, search_says, roomy_none, searching_none}
use Rattle.judging.proofs.lent.Judged.leads_back.Goals as goal

pub put_arrows-requires : goal.put_arrows-requires
put_arrows-requires c =
    let j = c.args.self in
    (roomy_none 3200 j.used c.new.result.height c.new.result.nodes j.few c.new.ensures.1 c.new.ensures.0, c.requires)

pub loop-next-init : goal.loop-next-init
loop-next-init c =
    let j = c.args.self in
    let n = c.args.n in
    let new = c.new.result in
    let sized : length (heap_of j) ≡ j.used = heap-sized (symbols_of j) j.nodes.now j.used in
    let put = c.put_arrows.ensures in (
      put-room j.used put sized (roomy_none 3200 j.used new.height new.nodes j.few c.new.ensures.1 c.new.ensures.0),
      put.goes n (inl refl) (searching_none n 3200 new.height new.nodes c.new.ensures.0),
      put.all,
    )

pub put_arrows-requires-in-Some : goal.put_arrows-requires-in-Some
put_arrows-requires-in-Some c =
    let j = c.args.self in
    let l = c.loop-next in
    let s = c.pop.new.self in
    let last = c.in-Some.ensures.last in
    let r = l.invariant.0 in
    let before = taken s.nodes s.height l.invariant.1 c.pop.ensures.same last.0 in
    let reached = before.reached (get_or s.nodes s.height 0) (before.stacked s.height (omega arith)) in
    let next : c.in-Some.next ≡ get_or s.nodes s.height 0 = last.1 ∙ ap (λ (xs : List ℕ). get_or xs s.height 0) (sym c.pop.ensures.same) in (
      record { long = r.long; high = omega (arith, r.high, ap length c.pop.ensures.same); count = omega (arith, r.count, last.0) },
      omega (arith, reached.0, next, heap-sized (symbols_of j) j.nodes.now j.used),
    )

pub loop-next-smaller : goal.loop-next-smaller
loop-next-smaller c =
    let j = c.args.self in
    omega (arith, put-sum j.used c.put_arrows-in-Some.ensures (heap-sized (symbols_of j) j.nodes.now j.used), c.in-Some.ensures.last.0)

pub loop-next-preserved : goal.loop-next-preserved
loop-next-preserved c =
    let j = c.args.self in
    let h = heap_of j in
    let l = c.loop-next in
    let s = c.pop.new.self in
    let t = c.put_arrows-in-Some.new.self in
    let last = c.in-Some.ensures.last in
    let r = l.invariant.0 in
    let sized : length h ≡ j.used = heap-sized (symbols_of j) j.nodes.now j.used in
    let before = taken s.nodes s.height l.invariant.1 c.pop.ensures.same last.0 in
    let reached = before.reached (get_or s.nodes s.height 0) (before.stacked s.height (omega arith)) in
    let next : c.in-Some.next ≡ get_or s.nodes s.height 0 = last.1 ∙ ap (λ (xs : List ℕ). get_or xs s.height 0) (sym c.pop.ensures.same) in
    let put = subst (λ (x : ℕ). Put h x l.search.seen s.nodes s.height t.seen t.stack.nodes t.stack.height) next c.put_arrows-in-Some.ensures in
    let roomy : Roomy j.used l.search.seen s.nodes s.height = record {
      long = r.long;
      high = omega (arith, r.high, ap length c.pop.ensures.same);
      count = omega (arith, r.count, last.0);
    } in
    (put-room j.used put sized roomy, put.goes c.args.n (inr reached.1) (pop before), all-on put.more l.invariant.2)

pub returns : goal.returns
returns c =
    let j = c.args.self in
    let h = heap_of j in
    let l = c.loop-next in
    let seen = l.search.seen in
    let none : l.search.stack.height ≡ 0 = rw c.in_default.is at c.pop.ensures.last in
    let last = subst (Searching h c.args.n (λ y. ⊥) seen l.search.stack.nodes) none l.invariant.1 in
    search_says h c.args.n seen l.search.stack.nodes _ last l.invariant.2
    (omega (arith, c.requires, heap-sized (symbols_of j) j.nodes.now j.used)) (ap (λ (i : ℕ). get_or seen i false) c.from.ensures)
