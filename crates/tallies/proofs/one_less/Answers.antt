-- `one_less` meets its contract: a total past the row stays.
use Rattle.std.proofs.Common.{arith}
use Rattle.tallies.proofs.Taking.{less-past}
use Rattle.tallies.proofs.one_less.Goals as goal

pub returns-else-f-totals : goal.returns-else-f-totals
returns-else-f-totals c = less-past _ _ (omega arith)
