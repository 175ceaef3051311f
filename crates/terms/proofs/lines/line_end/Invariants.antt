-- What the loops of `line_end` keep.
use mathlib.Core.Path.{◌≡◌}
use Rattle.terms.specs.Places.{end_of}
use Rattle.terms.proofs.lines.line_end.Given as goal

abbrev pub invariant-loop-i : goal.invariant-loop-i
invariant-loop-i l = end_of l.s l.at ≡ end_of l.s l.i
