-- The table holds, by computation.
use mathlib.Core.Path.{refl}
use Rattle.limits.specs.Decisions as Decisions
use Rattle.nodes.specs.Numbers as Numbers
use Rattle.rewriting.specs.Lists as Lists
use Rattle.accepted.specs.Read as Read
use Rattle.accepted.specs.Faults as Faults
use Rattle.accepted.specs.GoOn as GoOn
use Rattle.machine.specs.Cases.{small_book, D}
use Rattle.machine.proofs.Computes.{entries, reading, symbols, expressions, trees, admission, nodes, steps, walking, answering, turning, running}
use Rattle.going.specs.Cases.{lent_first, stopped, last_of, with_root, with_word, memory_of, refused_at_30, finished, Hold, going}

unfoldable pub checking : Unit {0}
unfolding Decisions.side_at Numbers.kind_in Numbers.label_in Numbers.arrow_in Lists.firsts Read.node_by Read.heap_in Read.entry_in Read.state_in Faults.some_of Faults.some_from Faults.arrows_of Faults.reaches_in Faults.returns Faults.misfit_in Faults.misfit Faults.some_misfit Faults.bad_at Faults.bad_node Faults.bad_side Faults.bad_entry GoOn.refuse_first GoOn.judge GoOn.counted_on GoOn.go_on
checking = tt

pub going-hold : Hold going
unfolding lent_first stopped last_of with_root with_word memory_of refused_at_30 finished Hold going small_book D entries reading symbols expressions trees admission nodes steps walking answering turning running checking
going-hold = (refl, (refl, (refl, (refl, (refl, (refl, (refl, (refl, (refl, (refl, (refl, (refl, (refl, (refl, (refl, (refl, (refl, (refl, tt))))))))))))))))))
