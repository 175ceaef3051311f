-- What the loop of `none_rises` keeps: no arrow of the nodes passed leads to a higher rank.
use mathlib.Core.Bool.{false}
use mathlib.Core.Path.{◌≡◌}
use Prim.Native.Nat.{ℕ, ◌+◌, ◌<◌}
use lib.ListN.{get_or}
use Rattle.accepted.specs.Faults.{some_of, arrows_of}
use Rattle.judging.specs.Judged.{node_of}
use Rattle.judging.specs.Ranks.{ranked}
use Rattle.judging.proofs.lent.Judged.none_rises.Given as goal

abbrev pub invariant-loop-n : goal.invariant-loop-n
invariant-loop-n l = (k : ℕ) → k < l.n → some_of (ranked l.ranks (get_or l.ranks k 0 + 1)) (arrows_of (node_of l.self k)) ≡ false
