-- What the loop of `leads_up` keeps: what is left to look at is what there was at first.
use mathlib.Core.Path.{◌≡◌}
use lib.ListN.{drop}
use Rattle.accepted.specs.Faults.{some_of, arrows_of}
use Rattle.judging.specs.Judged.{node_of}
use Rattle.judging.specs.Ranks.{ranked}
use Rattle.judging.proofs.lent.Judged.leads_up.Given as goal

abbrev pub invariant-loop-j : goal.invariant-loop-j
invariant-loop-j l = let xs = arrows_of (node_of l.self l.n) in some_of (ranked l.ranks l.least) xs ≡ some_of (ranked l.ranks l.least) (drop l.j xs)
