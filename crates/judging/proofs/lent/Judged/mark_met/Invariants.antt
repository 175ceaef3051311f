-- What the loop of `mark_met` keeps: what is said is so. A pass that changes something leaves less to change.
use mathlib.Core.Path.{◌≡◌}
use Prim.Native.Nat.{ℕ}
use lib.ListN.{length, get_or}
use Rattle.judging.specs.declared.said.Said.TheVariants.{Nothing}
use Rattle.judging.specs.Judged.{symbols_of, heap_of}
use Rattle.judging.specs.Sorts.{Met, Says, all_left}
use Rattle.judging.proofs.lent.Judged.mark_met.Given as goal

abbrev pub invariant-loop : goal.invariant-loop
invariant-loop l = (length l.met ≡ length l.initial.met) × ((n : ℕ) → Says (Met (symbols_of l.self) (heap_of l.self) n) (get_or l.met n Nothing))

abbrev pub decreases-loop : goal.decreases-loop
decreases-loop l = all_left (length (heap_of l.self)) l.met
