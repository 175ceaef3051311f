-- `is_operation` meets its contract: it tests the kind byte.
use Rattle.symbols.specs.Table.{symbol_in}
use Rattle.symbols.proofs.table.is_operation.Goals as goal

pub returns : goal.returns
unfolding symbol_in
returns c = rw (c.byte.ensures, c.place_of-p.ensures.0)
