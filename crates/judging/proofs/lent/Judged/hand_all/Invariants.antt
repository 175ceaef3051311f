-- What the loop of `hand_all` keeps.
use Rattle.judging.specs.Judged.{symbols_of, heap_of}
use Rattle.judging.specs.Sorts.{MetMore}
use Rattle.judging.proofs.lent.Judged.hand_all.Given as goal

abbrev pub invariant-loop : goal.invariant-loop
invariant-loop l = MetMore (symbols_of l.self) (heap_of l.self) l.initial.met l.met
