-- `trees_read` meets its contract: the part is opened, and its trees are counted.
use mathlib.Core.Path.{sym, ◌∙◌}
use Prim.Native.Nat.{◌+◌}
use native.Mathlib.Omega.{arith}
use lib.ListN.{length, get_or}
use Rattle.reading.proofs.Good.{good-got, length-good}
use Rattle.symbols.specs.Table.{symbol_in, symbols_in}
use Rattle.book.proofs.Constructors.{symbols_from, next-symbol, no_symbol_lem}
use Rattle.book.proofs.CountWays.{count_none, count_past, count-refused, count-more, unopened_counted, opened-counted}
use Rattle.book.proofs.trees.trees_read.Goals as goal
use Rattle.book.proofs.trees.trees_read.Goals.{then-is_operation+in-Ok-read_item, else-is_operation}

pub returns-in_default : goal.returns-in_default
returns-in_default c =
    let a = c.args in
    (unopened_counted a.table.book.now (symbols_in a.table.book.now a.table.at.now) a.p c.in_default.ensures, omega arith)

pub read_item-requires : goal.read_item-requires
read_item-requires c =
    let within = good-got (length-good c.args.table.book.now 0 (length c.args.table.book.now) c.args.p) (sym c.in-Ok.ensures) in
    (within.2, c.loop-f-test.true)

pub returns-in_default-read_item : goal.returns-in_default-read_item
returns-in_default-read_item c =
    let a = c.args in
    let l = c.loop-f in
    let S = symbols_in a.table.book.now a.table.at.now in
    let e = c.in-Ok.e in
    let x = symbol_in a.table.book.now (get_or a.table.at.now l.f 0) in
    let next = next-symbol a.table.book.now a.table.at.now l.f c.loop-f-test.true in
    let operation = sym c.is_operation.ensures ∙ c.if-is_operation.true in
    let counted = count-refused a.table.book.now S e l.from l.count x (symbols_from a.table.book.now a.table.at.now (l.f + 1)) next operation c.in_default-read_item.ensures.0 in
    (opened-counted a.table.book.now S a.p c.in-Ok.ensures (counted ∙ l.invariant.0), omega (arith, l.invariant.1, c.loop-f-test.true, a.table.tabled.few))

pub loop-f-preserved : goal.loop-f-preserved
loop-f-preserved c =
    let a = c.args in
    let l = c.loop-f in
    let S = symbols_in a.table.book.now a.table.at.now in
    let e = c.in-Ok.e in
    let x = symbol_in a.table.book.now (get_or a.table.at.now l.f 0) in
    let rest = symbols_from a.table.book.now a.table.at.now (l.f + 1) in
    let next = next-symbol a.table.book.now a.table.at.now l.f c.loop-f-test.true in
    elim c.if-is_operation.branch [
      | then-is_operation+in-Ok-read_item w ↦
          let operation = sym c.is_operation.ensures ∙ w.if-is_operation.true in
          (rw (w.count-is, w.from-is) (count-more a.table.book.now S e l.from l.count x rest next operation w.in-Ok-read_item.ensures.0 ∙ l.invariant.0), omega (arith, w.count-is))
      | else-is_operation w ↦
          let constructor = sym c.is_operation.ensures ∙ w.if-is_operation.false in
          (rw (w.count-is, w.from-is) (count_past a.table.book.now S e l.from l.count x rest next constructor ∙ l.invariant.0), omega (arith, w.count-is))
    ]

pub returns : goal.returns
returns c =
    let a = c.args in
    let l = c.loop-f in
    let S = symbols_in a.table.book.now a.table.at.now in
    let counted = count_none a.table.book.now S c.in-Ok.e l.from l.count (no_symbol_lem a.table.book.now a.table.at.now l.f c.loop-f-test.false) in
    (opened-counted a.table.book.now S a.p c.in-Ok.ensures (counted ∙ l.invariant.0), omega (arith, l.invariant.1, a.table.tabled.few))
