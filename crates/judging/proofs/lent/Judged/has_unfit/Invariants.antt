-- What the loop of `has_unfit` keeps: what is left to look at is what there was at first.
use mathlib.Core.Path.{◌≡◌}
use lib.ListN.{length, drop}
use Rattle.nodes.specs.Numbers.{arrow_in}
use Rattle.rewriting.specs.Lists.{firsts}
use Rattle.judging.specs.Sorts.{some_unfit}
use Rattle.judging.proofs.lent.Judged.has_unfit.Given as goal

abbrev pub invariant-loop-j : goal.invariant-loop-j
invariant-loop-j l = let sorts = l.s-items in
    let xs = firsts (length sorts) (arrow_in l.self.nodes.now l.n) in
    some_unfit l.met xs sorts ≡ some_unfit l.met (drop l.j xs) (drop l.j sorts)
