-- `is_wrong` meets its contract: one of three tests.
use mathlib.Core.Path.{sym, ◌∙◌}
use native.Mathlib.Omega.{arith}
use borrow.Author.Tests.{lt-ltb, le-ltb}
use lib.Dec.{leb, ltb}
use Rattle.symbols.specs.Table.{symbols_in}
use Rattle.nodes.specs.Numbers.{kind_in}
use Rattle.accepted.specs.Read.{node_in}
use Rattle.accepted.specs.Faults.{some_of, arrows_of}
use Rattle.judging.specs.Sorts.{wrong_by}
use Rattle.judging.proofs.Wrong.{first_of, second_of_lem, third_of}
use Rattle.judging.proofs.lent.Judged.is_wrong.Goals as goal

pub returns-then-kind_at : goal.returns-then-kind_at
returns-then-kind_at c = first_of _ _ _ (lt-ltb 3 (kind_in c.args.self.nodes.now
    c.args.n) (omega (arith, c.kind_at.ensures, c.if-kind_at.true)))

pub returns-then-is_wrong_by : goal.returns-then-is_wrong_by
returns-then-is_wrong_by c =
    let a = c.args in
    let S = symbols_in a.self.book.now a.self.table.now in
    let x = node_in S a.self.nodes.now a.n in
    second_of_lem (ltb 3 (kind_in a.self.nodes.now a.n)) (wrong_by S a.choices a.met.now x) (some_of (leb a.self.used) (arrows_of x))
    (sym c.is_wrong_by.ensures ∙ c.if-is_wrong_by.true)

pub returns : goal.returns
returns c = c.leads_outside.ensures
    ∙ third_of _ _ _ (le-ltb 3 (kind_in c.args.self.nodes.now
    c.args.n)
    (omega (arith, c.kind_at.ensures, c.if-kind_at.false)))
    (sym c.is_wrong_by.ensures ∙ c.if-is_wrong_by.false)
