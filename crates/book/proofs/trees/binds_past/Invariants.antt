-- What the loops of `binds_past` keep.
use mathlib.Core.Path.{◌≡◌}
use Prim.Native.Nat.{◌-◌}
use lib.ListN.{length}
use Rattle.book.proofs.Constructors.{OnChain, past_from}
use Rattle.book.proofs.trees.binds_past.Given as goal

abbrev pub invariant-loop-f : goal.invariant-loop-f
invariant-loop-f l = OnChain l.table.book.now l.table.at.now l.sort l.f × (past_from l.table.book.now l.table.at.now l.path.bound l.sort l.f ≡ past_from l.table.book.now l.table.at.now l.path.bound l.sort 0)

abbrev pub decreases-loop-f : goal.decreases-loop-f
decreases-loop-f l = length l.table.at.now - l.f
