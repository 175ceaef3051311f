-- `symbols_read` meets its contract: the part is opened, and its symbols are counted.
use mathlib.Core.Path.{sym}
use native.Mathlib.Omega.{arith}
use Rattle.symbols.proofs.Parts.{opened-got}
use Rattle.symbol_part.proofs.CountWays.{unopened_counted, opened-counted}
use Rattle.symbol_part.proofs.symbols_read.Goals as goal

pub count_symbols-requires : goal.count_symbols-requires
count_symbols-requires c =
    let part = opened-got c.args.book.now (sym c.in-Ok.ensures) in
    (part.inside, omega arith, omega arith)

pub returns-in-Err : goal.returns-in-Err
returns-in-Err c =
    (unopened_counted c.args.book.now c.in-Err.ensures, omega arith)

pub returns-in-Ok : goal.returns-in-Ok
returns-in-Ok c =
    let counted = c.count_symbols.ensures in
    (opened-counted c.args.book.now c.in-Ok.ensures counted.0, counted.1)
