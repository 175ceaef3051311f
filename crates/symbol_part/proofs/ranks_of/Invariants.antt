-- What the loops of `ranks_of` keep.
use Prim.Native.Nat.{◌≤◌}
use lib.ListN.{length}
use Rattle.symbols.specs.Table.{symbols_in}
use Rattle.symbols.proofs.Ranks.{Ranked}
use Rattle.symbol_part.proofs.ranks_of.Given as goal

abbrev pub invariant-loop-f : goal.invariant-loop-f
invariant-loop-f l = (l.f ≤ length l.at) × Ranked (symbols_in l.book l.at) l.f l.ranks l.seen
