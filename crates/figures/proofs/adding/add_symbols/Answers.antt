-- `add_symbols` meets its contract: the symbols, then the decisions, for which the symbols are taken back if they do not rise.
use Rattle.std.proofs.Common.{sym, ◌∙◌, arith}
use Rattle.figures.proofs.Moved.{refused-before, moved-refused, moved-got, moved_back}
use Rattle.figures.proofs.BookWays.{symbols-refused, decisions_rise, decisions_fall}
use Rattle.figures.proofs.adding.add_symbols.Goals as goal

pub overflow_add-from : goal.overflow_add-from
overflow_add-from c =
    let a = c.args in
    let near = refused-before c.part_of-symbols.result.now a.totals.now a.count c.in-Err.r c.in-Err.ensures in
    record { fits = omega (arith, near) }

pub returns-in-Err : goal.returns-in-Err
returns-in-Err c =
    let a = c.args in
    let part = c.part_of-symbols in
    rw c.at.ensures (symbols-refused a.books.now a.totals.now a.count a.from a.p a.end _
    (moved-refused a.books.now a.from part.result.now part.ensures a.totals.now a.count c.in-Err.r c.in-Err.ensures))

pub returns-then-not-rising : goal.returns-then-not-rising
returns-then-not-rising c =
    let a = c.args in
    let part = c.part_of-symbols in
    decisions_fall a.books.now a.totals.now a.count a.from a.p a.end
    (moved-got a.books.now a.from part.result.now part.ensures a.totals.now a.count c.in_default.ensures)
    (sym c.rising.ensures ∙ c.if-not-rising.true) _ (moved_back a.books.now a.from part.result.now part.ensures a.count c.take_back.ensures)
    c.at-then-not-rising.result c.at-then-not-rising.ensures

pub returns : goal.returns
returns c =
    let a = c.args in
    let part = c.part_of-symbols in
    decisions_rise a.books.now a.totals.now a.count a.from a.p a.end
    (moved-got a.books.now a.from part.result.now part.ensures a.totals.now a.count c.in_default.ensures)
    (sym c.rising.ensures ∙ c.if-not-rising.false)
