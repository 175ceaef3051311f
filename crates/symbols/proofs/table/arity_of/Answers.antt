-- `arity_of` meets its contract: as many arguments as there are bytes of argument sorts.
use mathlib.Core.Path.{ap}
use lib.ListN.{length}
use Rattle.symbols.proofs.table.arity_of.Goals as goal

pub returns : goal.returns
returns c = (ap length c.arguments_of.ensures.0, c.arguments_of.ensures.1)
