-- `read_trees` meets its contract: the symbols from f on are the next one and those behind it.
use mathlib.Core.Path.{sym, ◌∙◌}
use Prim.Native.Nat.{◌+◌, ◌≤◌}
use native.Mathlib.Omega.{arith}
use lib.ListN.{get_or}
use Rattle.limits.specs.Sizes.{most_book_bytes}
use Rattle.reading.proofs.Exits.{handed_on}
use Rattle.reading.specs.Answer.{nothing}
use Rattle.symbols.specs.Table.{symbol_in, symbols_in}
use Rattle.book.proofs.Constructors.{symbols_from, next-symbol, no_symbol_lem}
use Rattle.book.proofs.PartWays.{reached-first, reached-last, reached-past, reached-refused, reached-read}
use Rattle.book.proofs.TreeExtents.{item_extent}
use Rattle.book.proofs.TreeTold.{kept-good}
use Rattle.book.proofs.trees.read_trees.Goals as goal
use Rattle.book.proofs.trees.read_trees.Goals.{In_ok-behind, then-is_operation+in_ok-behind, else-is_operation}

pub loop-f-init : goal.loop-f-init
loop-f-init c =
    let a = c.args in
    reached-first a.table.book.now (symbols_in a.table.book.now a.table.at.now) a.e a.from a.info.now a.ends.now

pub returns-in_err-behind : goal.returns-in_err-behind
returns-in_err-behind c =
    let a = c.args in
    let l = c.loop-f in
    let S = symbols_in a.table.book.now a.table.at.now in
    let x = symbol_in a.table.book.now (get_or a.table.at.now l.f 0) in
    let next = next-symbol a.table.book.now a.table.at.now l.f c.loop-f-test.true in
    let all = reached-refused a.table.book.now S a.e a.from a.info.now a.ends.now l.p l.f l.info l.ends l.invariant x (symbols_from a.table.book.now a.table.at.now (l.f + 1)) next
    l.info c.read_item.new.ends (sym c.is_operation.ensures ∙ c.if-is_operation.true) c.in_err-behind.ensures.0 in
    rw (handed_on _ c.from_residual.ensures.1) (all.answer, all.index)

-- an operation's tree that was read stands in the book
item-within : (c : In_ok-behind) → c.loop-f.p + 2 ≤ most_book_bytes
item-within c =
    let a = c.args in
    let x = symbol_in a.table.book.now (get_or a.table.at.now c.loop-f.f 0) in
    let extent = (kept-good nothing (item_extent a.table.book.now (symbols_in a.table.book.now a.table.at.now) a.e x c.loop-f.p) c.in_ok-behind.ensures.0).1 in
    omega (arith, extent.size, extent.within, c.requires, a.table.small)

pub overflow_add-info : goal.overflow_add-info
overflow_add-info c = omega (arith, item-within c)

pub overflow_cast-info : goal.overflow_cast-info
overflow_cast-info c = omega (arith, item-within c)

pub loop-f-preserved : goal.loop-f-preserved
loop-f-preserved c =
    let a = c.args in
    let l = c.loop-f in
    let S = symbols_in a.table.book.now a.table.at.now in
    let x = symbol_in a.table.book.now (get_or a.table.at.now l.f 0) in
    let rest = symbols_from a.table.book.now a.table.at.now (l.f + 1) in
    let next = next-symbol a.table.book.now a.table.at.now l.f c.loop-f-test.true in
    elim c.if-is_operation.branch [
      | then-is_operation+in_ok-behind w ↦
          rw (w.info-is, w.ends-is, w.p-is) (reached-read a.table.book.now S a.e a.from a.info.now a.ends.now l.p l.f l.info l.ends l.invariant x rest next
          w.read_item.new.ends (sym c.is_operation.ensures ∙ w.if-is_operation.true) (record { answer = w.in_ok-behind.ensures.0; marks = w.in_ok-behind.ensures.1 }))
      | else-is_operation w ↦
          rw (w.info-is, w.ends-is, w.p-is) (reached-past a.table.book.now S a.e a.from a.info.now a.ends.now l.p l.f l.info l.ends l.invariant x rest next
          (sym c.is_operation.ensures ∙ w.if-is_operation.false))
    ]

pub returns : goal.returns
returns c =
    let a = c.args in
    let l = c.loop-f in
    let all = reached-last a.table.book.now (symbols_in a.table.book.now a.table.at.now) a.e a.from a.info.now a.ends.now l.p l.f l.info l.ends l.invariant
    (no_symbol_lem a.table.book.now a.table.at.now l.f c.loop-f-test.false) in
    (all.answer, all.index)
