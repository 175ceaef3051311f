-- What the loops of `put_symbols` keep.
use Prim.Native.Nat.{◌-◌, ◌≤◌}
use Rattle.listings.specs.Putting.{kinds_laid}
use Rattle.listings.proofs.PutWays.{Left}
use Rattle.listings.proofs.write.put_symbols.Given as goal

abbrev pub invariant-loop-i : goal.invariant-loop-i
invariant-loop-i l = (l._i ≤ l.many) × Left l.initial.room l.at (kinds_laid l.many l.kind) l.room l.p (kinds_laid (l.many - l._i) l.kind)
