-- What the loop of `put_arrows` keeps: the arrows looked at so far lead to seen nodes.
use Rattle.judging.specs.Judged.{heap_of}
use Rattle.judging.proofs.Searched.{Putting}
use Rattle.judging.proofs.Search.put_arrows.Given as goal

abbrev pub invariant-loop-j : goal.invariant-loop-j
invariant-loop-j l = let s = l.initial.self in
    Putting (heap_of l.at) l.from s.seen s.stack.nodes s.stack.height l.self.seen l.self.stack.nodes l.self.stack.height l.j
