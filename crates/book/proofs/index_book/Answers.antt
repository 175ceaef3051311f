-- `index_book` meets its contract: the symbol part, then the tree part, and the index of both.
use mathlib.Core.Path.{sym, ap, ◌∙◌}
use Prim.Native.Nat.{ℕ}
use native.Mathlib.Omega.{arith}
use lib.ListN.{length-take}
use Rattle.reading.specs.Reading.{got}
use Rattle.reading.specs.Answer.{reading_of}
use Rattle.book.proofs.BookWays.{SymbolsKept, tabled, symbols-kept, symbols-refused, trees-refused, book-read}
use Rattle.book.proofs.index_book.Goals as goal
use Rattle.book.proofs.index_book.Goals.{In-Ok}

-- the symbol part that was read
kept : (c : In-Ok)
    → let s = c.symbol_rows-symbols.result in
    SymbolsKept c.args.book.now c.in-Ok.count c.in-Ok.next s.at s.ranks s.chain.next s.chain.first
kept c =
    let told = c.symbol_rows-symbols.ensures in
    symbols-kept c.args.book.now _ _ _ _ (ap reading_of (sym c.in-Ok.is) ∙ told.0) told.1 told.2 told.3 told.4

pub slice_bounds-at-end : goal.slice_bounds-at-end
slice_bounds-at-end c =
    let known = kept (goal.at.slice_bounds-at-end c).In-Ok in
    omega (arith, known.few, known.long)

pub slice_bounds-table-end : goal.slice_bounds-table-end
slice_bounds-table-end c =
    let known = kept (goal.at.slice_bounds-table-end c).In-Ok in
    simp length-take (omega (arith, known.few, known.long))

pub invariant_of-table : goal.invariant_of-table
invariant_of-table c =
    let known = kept (goal.at.invariant_of-table c).In-Ok in
    record { small = known.size; tabled = tabled known; few_arguments = rw known.means known.few_arguments }

pub returns-in-Ok-read_tree_part : goal.returns-in-Ok-read_tree_part
returns-in-Ok-read_tree_part c =
    let known = kept (goal.at.returns-in-Ok-read_tree_part c).In-Ok in
    let given = rw known.means at c.in-Ok-read_tree_part.ensures in
    let told = book-read c.args.book.now known.part _ _ _ known.ranked given.0 given.1 in
    (ap (λ (n : ℕ). got n c.in-Ok-read_tree_part.behind) known.many ∙ told.answer, known.table ∙ told.table, told.found, told.marks)

pub returns-in-Err-read_tree_part : goal.returns-in-Err-read_tree_part
returns-in-Err-read_tree_part c =
    let known = kept (goal.at.returns-in-Err-read_tree_part c).In-Ok in
    let given = rw known.means at c.in-Err-read_tree_part.ensures in
    let told = trees-refused c.args.book.now known.part given.0 in
    (told.answer, told.table, told.found, told.marks)

pub returns-in-Err : goal.returns-in-Err
returns-in-Err c =
    let told = symbols-refused c.args.book.now (ap reading_of (sym c.in-Err.is) ∙ c.symbol_rows-symbols.ensures.0) in
    (told.answer, told.table, told.found, told.marks)
