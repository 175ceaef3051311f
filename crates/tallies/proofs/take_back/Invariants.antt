-- What the loop of `take_back` keeps: after i turns i symbols are taken off.
use Rattle.tallies.specs.InCode.{TakenBack, answer_over}
use Rattle.tallies.proofs.take_back.Given as goal

abbrev pub invariant-loop-i : goal.invariant-loop-i
invariant-loop-i l = TakenBack l.initial.totals (answer_over l.symbols l.i 0) l.totals
