-- What the loop of `is_bad_entry` keeps: what is left to look at is what there was at first.
use mathlib.Core.Path.{◌≡◌}
use Prim.Native.Nat.{◌-◌, ◌*◌}
use Rattle.limits.specs.Sizes.{most_choices}
use Rattle.accepted.specs.Faults.{some_from, bad_side}
use Rattle.judging.proofs.is_bad_entry.Given as goal

abbrev pub invariant-loop-i : goal.invariant-loop-i
invariant-loop-i l = let bad = bad_side l.choices l.fn.e.words in some_from bad 0 most_choices ≡ some_from bad (32 * l.i) (32 * (8 - l.i))
