-- `put_row` and `put_symbols` meet their contracts: the symbols of an apply are its own and then its arguments' row, and a row is one argument's symbols and then the rest of the row.
use mathlib.Core.List.{[], ◌∷◌}
use mathlib.Core.Path.{sym, ap, ◌∙◌}
use Prim.Native.Nat.{ℕ, ◌+◌, ◌-◌}
use native.Mathlib.Omega.{arith}
use lib.ListN.{length, drop}
use Rattle.nodes.specs.Nodes.{at, arguments}
use Rattle.machine.specs.Answers.{row_from, symbols_from}
use Rattle.standing.specs.ExpressionIn.{arity_by}
use Rattle.standing.proofs.Behind.{numbers-none, numbers-one, numbers-behind}
use Rattle.standing.proofs.HeldOnce.{one-heap}
use Rattle.standing.proofs.ValueSymbols.{AtApply, AtArgument, row-end, none_at_zero, none-at-others, some-at-apply, few-arguments, argument-here, argument-count}
use Rattle.run.proofs.answers.+put_row_put_symbols.Goals as goal
use Rattle.run.proofs.answers.+put_row_put_symbols.Goals.{put_row-After-arrow_at-arrow, put_symbols-Else-kind_at}

pub put_row-returns-then-arity-j : goal.put_row-returns-then-arity-j
put_row-returns-then-arity-j t c =
    let a = c.args in
    let pre = c.requires in
    λ h held. rw (one-heap held pre.1, row-end (symbols_from a.depth pre.0) (arguments (at pre.0 a.n)) a.j (omega (arith, pre.3)))
    (numbers-none a.bytes.now a.p)

pub put_row-overflow_cast-j : goal.put_row-overflow_cast-j
put_row-overflow_cast-j t c =
    let pre = c.requires in
    omega (arith, pre.3, few-arguments pre.1 c.args.n pre.2)

-- the argument that comes next
put-row-next : (t : ℕ) (c : put_row-After-arrow_at-arrow t)
    → let start = c in
    AtArgument c.args.graph.now.used c.requires.0 c.args.depth c.args.n c.args.j c.arrow_at-arrow.result
put-row-next t c =
    let c = c in
    let a = c.args in
    let pre = c.requires in
    argument-here pre.1 a.n pre.2 a.j c.arrow_at-arrow.result (omega (arith, pre.3)) c.arrow_at-arrow.ensures a.depth

pub put_row-put_symbols-q-requires : goal.put_row-put_symbols-q-requires
put_row-put_symbols-q-requires t c =
    let pre = c.requires in
    let next = put-row-next t (goal.at.put_row-put_symbols-q-requires t c).After-arrow_at-arrow in
    (omega arith, (pre.0, pre.1, next.inside, omega (arith, pre.4, argument-count next)))

pub put_row-put_row-requires : goal.put_row-put_row-requires
put_row-put_row-requires t c =
    let pre = c.requires in
    let one = c.put_symbols-q in
    let count = argument-count (put-row-next t (goal.at.put_row-put_row-requires t c).After-arrow_at-arrow) in
    (omega arith, (pre.0, pre.1, pre.2, pre.3, omega (arith, pre.4, one.auto.bytes, (one.ensures pre.0 pre.1).0, count)))

pub put_row-returns : goal.put_row-returns
put_row-returns t c =
    let a = c.args in
    let pre = c.requires in
    let next = put-row-next t (goal.at.put_row-returns t c).After-arrow_at-arrow in
    let one = c.put_symbols-q in
    let first = one.ensures pre.0 pre.1 in
    let others = c.put_row in
    let rest = others.ensures pre.0 pre.1 in
    λ h held. rw (one-heap held pre.1, next.row)
    (numbers-behind a.bytes.now a.p (symbols_from a.depth pre.0 c.arrow_at-arrow.result) one.new.bytes one.result
    (row_from (symbols_from a.depth pre.0) (drop (a.j + 1) (arguments (at pre.0 a.n)))) others.new.bytes others.result
    first rest (omega (arith, pre.4, first.0, rest.0, argument-count next)))

pub put_symbols-returns-then-depth-eq0 : goal.put_symbols-returns-then-depth-eq0
put_symbols-returns-then-depth-eq0 t c =
    let a = c.args in
    λ h held. rw (none_at_zero a.depth h a.arrow c.if-depth-eq0.true) (numbers-none a.bytes.now a.p)

pub put_symbols-returns-then-kind_at : goal.put_symbols-returns-then-kind_at
put_symbols-returns-then-kind_at t c =
    let a = c.args in
    let node = c.follow-n in
    λ h held. rw (none-at-others held a.arrow node.result c.requires.2 node.ensures a.depth (λ k. c.if-kind_at.true (c.kind_at.ensures ∙ k)))
    (numbers-none a.bytes.now a.p)

-- the apply that the arrow leads to
put-symbols-found : (t : ℕ) (c : put_symbols-Else-kind_at t)
    → let start = c in
    let a = c.args in
    AtApply (arity_by a.graph.now.book.bytes.now a.graph.now.book.table.now) a.graph.now.nodes.now a.graph.now.used c.requires.0 a.depth a.arrow c.follow-n.result
put-symbols-found t c =
    let c = c in
    let a = c.args in
    let pre = c.requires in
    let node = c.follow-n in
    some-at-apply pre.1 a.arrow node.result pre.2 node.ensures a.depth c.if-depth-eq0.false (sym c.kind_at.ensures ∙ c.if-kind_at.false)

pub put_symbols-put_two-requires : goal.put_symbols-put_two-requires
put_symbols-put_two-requires t c =
    let pre = c.requires in
    (omega (arith, pre.3, ap length (put-symbols-found t (goal.at.put_symbols-put_two-requires t c).Else-kind_at).symbols), omega arith)

pub put_symbols-put_row-requires : goal.put_symbols-put_row-requires
unfolding arity_by
put_symbols-put_row-requires t c =
    let a = c.args in
    let pre = c.requires in
    let found = put-symbols-found t (goal.at.put_symbols-put_row-requires t c).Else-kind_at in
    let label = c.wide-f.ensures.0 ∙ c.label_at.ensures in (
      omega (arith, c.arity_of.ensures.1),
      (
        pre.0,
        pre.1,
        found.inside,
        c.arity_of.ensures.0 ∙ ap (arity_by a.graph.now.book.bytes.now a.graph.now.book.table.now) label ∙ found.many,
        omega (arith, pre.3, c.put_two.auto.bytes, ap length found.symbols),
      ),
    )

pub put_symbols-returns : goal.put_symbols-returns
put_symbols-returns t c =
    let a = c.args in
    let pre = c.requires in
    let node = c.follow-n.result in
    let found = put-symbols-found t (goal.at.put_symbols-returns t c).Else-kind_at in
    let label = c.wide-f.ensures.0 ∙ c.label_at.ensures in
    let one = c.put_two in
    let others = c.put_row in
    let rest = others.ensures pre.0 pre.1 in
    λ h held. rw (one-heap held pre.1, found.symbols, ← label)
    (numbers-behind a.bytes.now a.p (c.wide-f.result ∷ []) one.new.bytes (a.p + 2)
    (row_from (symbols_from (a.depth - 1) pre.0) (arguments (at pre.0 node))) others.new.bytes others.result
    (numbers-one a.bytes.now a.p c.wide-f.result one.new.bytes one.ensures) rest (omega (arith, pre.3, rest.0, ap length found.symbols)))
