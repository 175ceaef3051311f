-- `rows_read` meets its contract: where a symbol is at fault the symbols are counted, else all of them and then the trees.
use mathlib.Core.Path.{sym, ap, ◌∙◌}
use native.Mathlib.Omega.{arith}
use lib.ListN.{length-take}
use Rattle.reading.specs.Answer.{reading_of}
use Rattle.book.proofs.BookWays.{SymbolsKept, tabled, symbols-kept}
use Rattle.book.proofs.CountWays.{symbols-counted, trees-counted}
use Rattle.book.proofs.rows_read.Goals as goal
use Rattle.book.proofs.rows_read.Goals.{In-Ok}

-- the symbol part that was read
kept : (c : In-Ok)
    → let s = c.symbol_rows-symbols.result in
    SymbolsKept c.args.book.now c.in-Ok.count c.in-Ok.next s.at s.ranks s.chain.next s.chain.first
kept c =
    let told = c.symbol_rows-symbols.ensures in
    symbols-kept c.args.book.now _ _ _ _ (ap reading_of (sym c.in-Ok.is) ∙ told.0) told.1 told.2 told.3 told.4

pub slice_bounds-at-end : goal.slice_bounds-at-end
slice_bounds-at-end c =
    let known = kept (goal.at.slice_bounds-at-end c).In-Ok in
    omega (arith, known.few, known.long)

pub slice_bounds-table-end : goal.slice_bounds-table-end
slice_bounds-table-end c =
    let known = kept (goal.at.slice_bounds-table-end c).In-Ok in
    simp length-take (omega (arith, known.few, known.long))

pub invariant_of-table : goal.invariant_of-table
invariant_of-table c =
    let known = kept (goal.at.invariant_of-table c).In-Ok in
    record { small = known.size; tabled = tabled known; few_arguments = rw known.means known.few_arguments }

pub returns-in_default : goal.returns-in_default
returns-in_default c =
    let counted = c.symbols_read.ensures in
    (symbols-counted c.args.book.now (ap reading_of (sym c.in_default.is) ∙ c.symbol_rows-symbols.ensures.0) counted.0, omega (arith, counted.1))

pub overflow_add-result : goal.overflow_add-result
overflow_add-result c =
    let known = kept (goal.at.overflow_add-result c).In-Ok in
    record { fits = omega (arith, known.few, c.trees_read.ensures.1) }

pub returns : goal.returns
returns c =
    let known = kept (goal.at.returns c).In-Ok in
    let counted = rw known.means at c.trees_read.ensures in
    (trees-counted c.args.book.now known.part known.many counted.0, omega (arith, known.few, counted.1))
