-- What the loops of `mix_of` keep.
use Prim.Native.Nat.{◌<◌}
use Rattle.terms.proofs.judge.mix_of.Given as goal

abbrev pub invariant-loop-i : goal.invariant-loop-i
invariant-loop-i l = l.h < 1048576
