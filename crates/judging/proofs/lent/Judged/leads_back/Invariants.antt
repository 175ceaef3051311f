-- What the loop of `leads_back` keeps: what is seen is reached, and there is room for all that is not seen.
use Prim.Native.Nat.{◌+◌}
use Rattle.judging.specs.Judged.{heap_of}
use Rattle.judging.specs.Search.{unseen, AllSeen, Searching, Roomy}
use Rattle.judging.proofs.lent.Judged.leads_back.Given as goal

abbrev pub invariant-loop-next : goal.invariant-loop-next
invariant-loop-next l =
    let h = heap_of l.self in
    let s = l.search in
    Roomy l.self.used s.seen s.stack.nodes s.stack.height × Searching h l.n (λ y. ⊥) s.seen s.stack.nodes s.stack.height × AllSeen h s.seen l.n

abbrev pub decreases-loop-next : goal.decreases-loop-next
decreases-loop-next l = l.search.stack.height + unseen l.self.used l.search.seen
