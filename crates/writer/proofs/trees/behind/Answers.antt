-- `behind` meets its contract, one way for each number that can be due.
use mathlib.Core.Path.{ap, ◌∙◌}
use Prim.Native.Nat.{◌-◌}
use native.Mathlib.Omega.{arith}
use Rattle.writer.specs.Layout as Layout
use Rattle.writer.specs.InCode.{next_by, due_by}
use Rattle.writer.proofs.Dues.{tree-few, expr-few, behind-tree, behind-expr, behind-variable, behind-symbol}
use Rattle.writer.proofs.trees.behind.Goals as goal

pub returns-then-expressions-eq0 : goal.returns-then-expressions-eq0
returns-then-expressions-eq0 c =
    let a = c.args in
    let told = c.behind_tree.ensures in (
      told ∙ behind-tree a.arities.now (due_by a.d) a.n (ap next_by c.in-Code.is) c.if-expressions-eq0.true,
      omega (arith, tree-few a.n, ap (λ (d : Layout.Due). d.expressions) told),
    )

pub returns-else-expressions-eq0 : goal.returns-else-expressions-eq0
returns-else-expressions-eq0 c =
    let a = c.args in
    let told = c.behind_expr.ensures in (
      told ∙ behind-expr a.arities.now (due_by a.d) a.n (ap next_by c.in-Code.is) c.if-expressions-eq0.false,
      omega (arith, expr-few (a.d.expressions - 1) a.n, ap (λ (d : Layout.Due). d.expressions) told),
    )

pub returns-in-Variable : goal.returns-in-Variable
returns-in-Variable c =
    let a = c.args in
    (behind-variable a.arities.now (due_by a.d) a.n (ap next_by c.in-Variable.is), omega arith)

pub returns-in-Symbol : goal.returns-in-Symbol
returns-in-Symbol c =
    let a = c.args in (
      rw c.arity.ensures.0 (behind-symbol a.arities.now (due_by a.d) a.n (ap next_by c.in-Symbol.is)),
      omega (arith, c.arity.ensures),
    )
