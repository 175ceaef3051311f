-- What the loop of `first_bad` keeps: no node before the one looked at is bad.
use mathlib.Core.Path.{◌≡◌}
use Prim.Native.Nat.{◌-◌}
use Rattle.std.specs.Prelude.{IfSome}
use Rattle.accepted.specs.Faults.{bad_node}
use Rattle.judging.specs.First.{first_of}
use Rattle.judging.specs.Judged.{symbols_of, heap_of}
use Rattle.judging.specs.Ranks.{Falling}
use Rattle.judging.specs.Sorts.{AllMet}
use Rattle.judging.proofs.lent.Judged.first_bad.Given as goal

abbrev pub invariant-loop-n : goal.invariant-loop-n
invariant-loop-n l = let j = l.self in
    let bad = bad_node (symbols_of j) l.choices j.nodes.now (heap_of j) in
    (first_of bad 0 j.used ≡ first_of bad l.n (j.used - l.n)) × AllMet (symbols_of j) (heap_of j) l.met × IfSome l.ranks (λ r. Falling (heap_of j) r.now)
