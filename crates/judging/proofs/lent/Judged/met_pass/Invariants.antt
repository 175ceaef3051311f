-- What the loop of `met_pass` keeps: it has come down to node n.
use Rattle.judging.specs.Judged.{symbols_of, heap_of}
use Rattle.judging.proofs.Meeting.{Meeting}
use Rattle.judging.proofs.lent.Judged.met_pass.Given as goal

abbrev pub invariant-loop-n : goal.invariant-loop-n
invariant-loop-n l = Meeting (symbols_of l.self) (heap_of l.self) l.initial.met l.met l.changed l.n
