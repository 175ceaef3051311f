-- `symbol_rows` meets its contract: the part is opened, and its rows are read.
use Rattle.symbol_part.proofs.PartWays.{opening_refused}
use Rattle.symbol_part.proofs.Chains.{whole-refused}
use Rattle.symbol_part.proofs.symbol_rows.Goals as goal

pub returns-in-Err : goal.returns-in-Err
returns-in-Err c =
    let book = c.args.book.now in
    whole-refused book (opening_refused book c.in-Err.ensures)
