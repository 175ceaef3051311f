-- A newline is met, or the end.
use Prim.Native.Nat.{◌≤◌}
use lib.ListN.{length}
use Rattle.circle.proofs.behind_line.Given as goal

abbrev pub invariant-loop-q : goal.invariant-loop-q
invariant-loop-q l = (l.p ≤ l.q) × (l.q ≤ length l.listing)
