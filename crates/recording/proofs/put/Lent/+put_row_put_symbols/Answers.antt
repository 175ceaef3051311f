-- `put_row` and `put_symbols` meet their contracts: the symbols of an apply are its own and then its arguments' row, and a row is one argument's
-- symbols and then the rest of the row.
use mathlib.Core.List.{◌∷◌}
use mathlib.Core.Path.{sym, ap, ◌∙◌}
use native.Mathlib.Omega.{arith}
use lib.ListN.{drop}
use Rattle.nodes.specs.Nodes.{at, arguments}
use Rattle.machine.specs.Answers.{row_from, symbols_from}
use Rattle.standing.specs.Shapes.{arity_in}
use Rattle.standing.proofs.Behind.{numbers-none}
use Rattle.standing.proofs.ValueSymbols.{row-end, none_at_zero, none-at-others, some-at-apply, argument-here}
use Rattle.recording.proofs.RowBegun.{begun-none, begun_more, begun-one, begun-last}
use Prim.Native.Nat.{◌-◌}
use Rattle.recording.proofs.put.Lent.+put_row_put_symbols.Goals as goal

pub put_row-returns-then-arity-j : goal.put_row-returns-then-arity-j
put_row-returns-then-arity-j t c =
    let a = c.args in
    λ h held inside many fits. rw (row-end (symbols_from a.depth h) (arguments (at h a.n)) a.j (omega arith)) (numbers-none a.bytes.now a.p)

pub put_row-returns : goal.put_row-returns
put_row-returns t c =
    let a = c.args in
    let one = c.put_symbols-q in
    let others = c.put_row in
    λ h held inside many fits.
    let row = row_from (symbols_from a.depth h) (drop a.j (arguments (at h a.n))) in
    let next = argument-here held a.n inside a.j c.arrow_at-arrow.result (omega arith) c.arrow_at-arrow.ensures a.depth in
    let first = begun_more (begun-none a.bytes.now a.p row fits) _ _ _ _ next.row (one.ensures h held next.inside) in
    begun-last first _ _ (others.ensures h held inside many)

pub put_symbols-returns-then-depth-eq0 : goal.put_symbols-returns-then-depth-eq0
put_symbols-returns-then-depth-eq0 t c =
    let a = c.args in
    λ h held inside fits. rw (none_at_zero a.depth h a.arrow c.if-depth-eq0.true) (numbers-none a.bytes.now a.p)

pub put_symbols-returns-then-kind_at : goal.put_symbols-returns-then-kind_at
put_symbols-returns-then-kind_at t c =
    let a = c.args in
    let node = c.follow-n in
    λ h held inside fits.
    rw (none-at-others held a.arrow node.result inside node.ensures a.depth (λ k. c.if-kind_at.true (c.kind_at.ensures ∙ k)))
    (numbers-none a.bytes.now a.p)

pub put_symbols-returns : goal.put_symbols-returns
put_symbols-returns t c =
    let a = c.args in
    let node = c.follow-n in
    let one = c.put_two-q in
    let arity = c.arity_in in
    let others = c.put_row in
    λ h held inside fits.
    let found =
    some-at-apply held a.arrow node.result inside node.ensures a.depth c.if-depth-eq0.false
    (sym c.kind_at.ensures ∙ c.if-kind_at.false) in
    let label = c.label_at-f.ensures in
    let many = arity.ensures.0 ∙ ap (arity_in a.self.now.shapes.now) label ∙ found.many in
    let all = symbols_from a.depth h a.arrow in
    let row = row_from (symbols_from (a.depth - 1) h) (arguments (at h node.result)) in
    let named-first = found.symbols ∙ ap (λ f. f ∷ row) (sym label) in
    let first = begun-one (begun-none a.bytes.now a.p all fits) c.label_at-f.result row _ _ named-first one.ensures in
    begun-last first _ _ (others.ensures h held found.inside many)
