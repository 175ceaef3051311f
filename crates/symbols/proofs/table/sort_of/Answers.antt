-- `sort_of` meets its contract: it reads the sort byte.
use Rattle.symbols.specs.Table.{symbol_in}
use Rattle.symbols.proofs.table.sort_of.Goals as goal

pub returns : goal.returns
unfolding symbol_in
returns c = rw (c.byte.ensures, c.place_of-p.ensures.0)
