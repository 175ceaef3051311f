-- What the loop of `give_rank` does to the nodes held: they get fewer.
use Rattle.judging.proofs.walk.Walk.give_rank.Given as goal

abbrev pub decreases-loop-x : goal.decreases-loop-x
decreases-loop-x l = l.self.held.height
