-- `made_of` meets its contract: the front is put and read, then the trees are put.
use mathlib.Core.List.{List}
use mathlib.Core.Path.{◌≡◌, sym, ap, ◌∙◌}
use Prim.Native.Nat.{ℕ, ◌+◌, ◌≤◌}
use native.Mathlib.Omega.{arith}
use borrow.Author.Rules.{rules}
use lib.ListN.{length, replicate, length-take, length-replicate}
use lib.Seq.{sets, length-sets}
use Rattle.std.proofs.Common.{Ok, take, length-take-le}
use Rattle.reading.specs.Answer.{reading_of}
use Rattle.limits.specs.Sizes.{most_book_bytes, most_symbols}
use Rattle.book.proofs.BookWays.{SymbolsKept, symbols-kept}
use Rattle.writer.specs.declared.made.Made.{Made}
use Rattle.writer.specs.Rows.{Rows}
use Rattle.writer.specs.Layout.{front_bytes}
use Rattle.writer.proofs.Making.{front_read, arities-read, front_large, front-refused, front-judged}
use Rattle.writer.proofs.made.made_of.Goals as goal
use Rattle.writer.proofs.made.made_of.Goals.{In-Ok}

-- the front was made
module _ (symbols : List ℕ) (made : Made) (is : (made.size ≡ 3 + length symbols) × (made.bytes ≡ sets (replicate most_book_bytes 0) 0 (front_bytes symbols)))
    (fits : 3 + length symbols ≤ most_book_bytes)
  where
    there : take made.size made.bytes ≡ front_bytes symbols
    there = rw is.0 (front_read symbols made.bytes fits is.1)

    whole : length (take made.size made.bytes) ≡ made.size
    whole =
        let long = length-sets (replicate most_book_bytes 0) 0 (front_bytes symbols) in
        length-take-le made.size made.bytes (omega (arith, ap length is.1, long, length-replicate {A = ℕ} most_book_bytes 0))

-- the symbols were read
kept : (c : In-Ok) {next : ℕ} → c.symbol_rows-part.result.reading ≡ Ok (c.in-Ok.many, next)
    → let part = c.symbol_rows-part.result in
    SymbolsKept (front_bytes c.args.symbols.now) c.in-Ok.many next part.at part.ranks part.chain.next part.chain.first
kept c is =
    let told = rw (there c.args.symbols.now c.front_of-made.result c.front_of-made.ensures c.if-symbols-gt-BOOK.false) at c.symbol_rows-part.ensures in
    symbols-kept (front_bytes c.args.symbols.now) _ _ _ _ (ap reading_of (sym is) ∙ told.0) told.1 told.2 told.3 told.4

pub returns-then-symbols-gt-BOOK : goal.returns-then-symbols-gt-BOOK
returns-then-symbols-gt-BOOK c =
    let a = c.args in
    front_large (record { symbols = a.symbols.now; trees = a.trees.now }) c.count_rows.ensures.0 c.count_rows-2.ensures.0 c.if-symbols-gt-BOOK.true

pub slice_bounds-symbol_rows-end : goal.slice_bounds-symbol_rows-end
slice_bounds-symbol_rows-end c = sym (whole c.args.symbols.now c.front_of-made.result c.front_of-made.ensures c.if-symbols-gt-BOOK.false)

pub slice_bounds-rows_read-end : goal.slice_bounds-rows_read-end
slice_bounds-rows_read-end c = sym (whole c.args.symbols.now c.front_of-made.result c.front_of-made.ensures c.if-symbols-gt-BOOK.false)

pub slice_bounds-arities_of-end : goal.slice_bounds-arities_of-end
slice_bounds-arities_of-end c = sym (whole c.args.symbols.now c.front_of-made.result c.front_of-made.ensures c.if-symbols-gt-BOOK.false)

pub slice_bounds-arities_of-end-in-Ok : goal.slice_bounds-arities_of-end-in-Ok
slice_bounds-arities_of-end-in-Ok c =
    let is = kept (goal.at.slice_bounds-arities_of-end-in-Ok c).In-Ok c.in-Ok.is in
    simp length-take (omega (arith, is.few, is.long))

pub arities_of-arities-requires : goal.arities_of-arities-requires
arities_of-arities-requires c =
    let is = kept (goal.at.arities_of-arities-requires c).In-Ok c.in-Ok.is in
    simp length-take (omega (arith, is.few, is.long))

pub with_trees-requires : goal.with_trees-requires
with_trees-requires c = omega (arith, c.front_of-made.ensures.0, c.if-symbols-gt-BOOK.false)

pub slice_bounds-with_trees-end : goal.slice_bounds-with_trees-end
slice_bounds-with_trees-end c =
    let is = kept (goal.at.slice_bounds-with_trees-end c).In-Ok c.in-Ok.is in
    let long : length c.arities_of-arities.result ≡ most_symbols = search rules in
    sym (length-take-le c.in-Ok.many c.arities_of-arities.result (omega (arith, is.few)))

pub slice_bounds-arities-end : goal.slice_bounds-arities-end
slice_bounds-arities-end c =
    let is = kept (goal.at.slice_bounds-arities-end c).In-Ok c.in-Ok.is in
    let long : length c.arities_of-arities.result ≡ most_symbols = search rules in
    omega (arith, is.few)

pub slice_bounds-at-end : goal.slice_bounds-at-end
slice_bounds-at-end c =
    let is = kept (goal.at.slice_bounds-at-end c).In-Ok c.in-Ok.is in
    omega (arith, is.few, is.long)

pub returns-in-Err : goal.returns-in-Err
returns-in-Err c =
    let a = c.args in
    let front = there a.symbols.now c.front_of-made.result c.front_of-made.ensures c.if-symbols-gt-BOOK.false in
    front-refused (record { symbols = a.symbols.now; trees = a.trees.now }) c.count_rows.ensures.0 c.count_rows-2.ensures.0 c.if-symbols-gt-BOOK.false
    (ap reading_of (sym c.in-Err.is) ∙ (rw front at c.symbol_rows-part.ensures).0) (rw front at c.rows_read.ensures.0)

pub returns-in-Ok : goal.returns-in-Ok
returns-in-Ok c =
    let a = c.args in
    let rows : Rows = record { symbols = a.symbols.now; trees = a.trees.now } in
    let front = there a.symbols.now c.front_of-made.result c.front_of-made.ensures c.if-symbols-gt-BOOK.false in
    let is = kept (goal.at.returns-in-Ok c).In-Ok c.in-Ok.is in
    let arities = arities-read (front_bytes a.symbols.now) c.symbol_rows-part.result.at is.means is.many (rw front at c.arities_of-arities.ensures) in
    front-judged rows c.count_rows.ensures.0 c.count_rows-2.ensures.0 c.if-symbols-gt-BOOK.false c.with_trees.result is.part (rw (front, arities) at c.with_trees.ensures)
