-- What the loop of `arities_of` keeps.
use mathlib.Core.Path.{◌≡◌}
use lib.ListN.{take, replicate}
use lib.Seq.{sets}
use Rattle.limits.specs.Sizes.{most_symbols}
use Rattle.symbols.specs.Table.{symbols_in}
use Rattle.writer.specs.Layout.{arities_of}
use Rattle.writer.proofs.made.arities_of.Given as goal

abbrev pub invariant-loop-f : goal.invariant-loop-f
invariant-loop-f l = l.arities ≡ sets (replicate most_symbols 0) 0 (take l.f (arities_of (symbols_in l.book l.at)))
