-- `rows_of` meets its contract: the symbols are read, and ranks and chains are those of the symbols that the places mean.
use mathlib.Core.Path.{refl, sym}
use native.Mathlib.Omega.{arith}
use lib.ListN.{length-take}
use Rattle.symbols.proofs.Parts.{opened-got}
use Rattle.symbol_part.proofs.PartWays.{PartKept, symbol-refused, part-kept}
use Rattle.symbol_part.proofs.Chains.{whole-refused, whole-read}
use Rattle.symbol_part.proofs.rows_of.Goals as goal
use Rattle.symbol_part.proofs.rows_of.Goals.{In-Ok}

kept : (c : In-Ok) → PartKept c.args.book.now c.in-Ok.count c.in-Ok.next c.read_symbols.new.at
kept c = part-kept c.args.book.now _ c.requires refl c.in-Ok.ensures

pub read_symbols-requires : goal.read_symbols-requires
read_symbols-requires c =
    let part = opened-got c.args.book.now (sym c.requires) in
    (part.inside, omega arith, omega arith)

pub slice_bounds-at-end : goal.slice_bounds-at-end
slice_bounds-at-end c =
    let known = kept (goal.at.slice_bounds-at-end c).In-Ok in
    omega (arith, known.few, known.long)

pub slice_bounds-places-end : goal.slice_bounds-places-end
slice_bounds-places-end c =
    let known = kept (goal.at.slice_bounds-places-end c).In-Ok in
    simp length-take (omega (arith, known.few, known.long))

pub returns-in-Ok : goal.returns-in-Ok
returns-in-Ok c =
    let known = kept (goal.at.returns-in-Ok c).In-Ok in
    whole-read c.args.book.now known c.ranks_of-ranks.ensures c.chain_of-chain.ensures.0 c.chain_of-chain.ensures.1

pub returns-in-Err : goal.returns-in-Err
returns-in-Err c =
    let book = c.args.book.now in
    whole-refused book (symbol-refused book _ c.requires refl c.in-Err.ensures)
