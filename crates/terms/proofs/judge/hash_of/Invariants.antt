-- What the loops of `hash_of` keep.
use mathlib.Core.Path.{◌≡◌}
use Prim.Native.Nat.{◌<◌}
use Rattle.terms.specs.Places.{bytes_of}
use Rattle.terms.specs.Blocks.{hash_from}
use Rattle.terms.proofs.judge.hash_of.Given as goal

abbrev pub invariant-loop-i : goal.invariant-loop-i
invariant-loop-i l = (l.h < 4294967291) × (hash_from 0 (bytes_of l.s l.from l.until) ≡ hash_from l.h (bytes_of l.s l.i l.until))
