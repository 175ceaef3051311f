-- What the loops of `chain_of` keep.
use Prim.Native.Nat.{◌≤◌}
use lib.ListN.{length}
use Rattle.symbols.specs.Table.{symbols_in}
use Rattle.symbol_part.proofs.Chains.{Chained}
use Rattle.symbol_part.proofs.chain_of.Given as goal

abbrev pub invariant-loop-f : goal.invariant-loop-f
invariant-loop-f l = (l.f ≤ length l.at) × Chained (symbols_in l.book l.at) l.f l.next l.first
