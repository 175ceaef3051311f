-- What the loop of `put_decisions` keeps.
use Rattle.standing.proofs.DecidedNumbers.{Turned}
use Rattle.run.proofs.answers.put_decisions.Given as goal

abbrev pub invariant-loop-i : goal.invariant-loop-i
invariant-loop-i l = Turned l.ds.words l.initial.bytes l.from l.i l.bytes l.p
