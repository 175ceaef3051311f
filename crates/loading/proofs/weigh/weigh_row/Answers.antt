-- `weigh_row` meets its contract. Before question i the row comes to what was weighed and the rest, which begins at `from`.
use mathlib.Core.Path.{◌≡◌, refl, sym, ap, ◌∙◌}
use Prim.Native.Nat.{ℕ, ◌-◌}
use native.Mathlib.Omega.{arith}
use lib.ListN.{length}
use Rattle.reading.proofs.Exits.{handed_on}
use Rattle.loading.specs.Questions.{refused}
use Rattle.loading.proofs.RowsWeighed.{weighing_none, weighed_over, weighed_all, weighed_short, weighed_refused, weighed_more}
use borrow.Author.Rules.{rules}
use Rattle.loading.proofs.weigh.weigh_row.Goals as goal

pub loop-i-init : goal.loop-i-init
loop-i-init c =
    let a = c.args in
    (omega arith, weighing_none a.book.now a.at.now a.shapes.now a.lengths.now a.questions.now)

pub returns-then-questions-from : goal.returns-then-questions-from
returns-then-questions-from c rules of most =
    let a = c.args in
    let l = c.loop-i in
    let n = c.from-size in
    c.refused_bytes.ensures
    ∙ weighed_short a.book.now a.at.now a.shapes.now a.lengths.now a.questions.now l.invariant.1
    n.result (omega arith) n.ensures (omega arith)
    rules of most

pub returns-in_err-one : goal.returns-in_err-one
returns-in_err-one c =
    let a = c.args in
    let l = c.loop-i in
    let n = c.from-size in
    let one = c.in_err-one in
    rw (handed_on c.from_residual.result c.from_residual.ensures.1)
    (weighed_refused a.book.now a.at.now a.shapes.now a.lengths.now a.questions.now l.invariant.1
    n.result (omega arith) n.ensures (omega arith)
    _ c.part_of.ensures _ one.ensures _ _ _ refl)

pub loop-i-preserved : goal.loop-i-preserved
loop-i-preserved c =
    let a = c.args in
    let l = c.loop-i in
    let n = c.from-size in
    let one = c.in_ok-one in (
      omega arith,
      weighed_more a.book.now a.at.now a.shapes.now a.lengths.now a.questions.now l.invariant.1
          n.result (omega arith) n.ensures (omega arith)
          _ c.part_of.ensures _ one.ensures _ _ refl
          c.sum-nodes.result c.sum-choices.result c.sum-nodes.ensures c.sum-choices.ensures,
    )

pub returns-then-from-questions : goal.returns-then-from-questions
returns-then-from-questions c rules of most =
    let a = c.args in
    let l = c.loop-i in
    let all : l.i ≡ length a.lengths.now = omega arith in
    c.refused_bytes-then-from-questions.ensures
    ∙ ap (refused 11 0) c.between.ensures
    ∙ ap (λ (k : ℕ). refused 11 0 (k - 1)) (sym all)
    ∙ weighed_over a.book.now a.at.now a.shapes.now a.lengths.now a.questions.now l.invariant.1 (omega arith) (omega arith) (omega arith)
    rules of most

pub returns : goal.returns
returns c =
    let a = c.args in
    let l = c.loop-i in
    weighed_all a.book.now a.at.now a.shapes.now a.lengths.now a.questions.now l.invariant.1 (omega arith) (omega arith) (omega arith)
