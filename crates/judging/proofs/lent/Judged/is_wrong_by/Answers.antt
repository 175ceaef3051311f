-- `is_wrong_by` meets its contract: by the kind of the node.
use mathlib.Core.Path.{◌∙◌}
use Rattle.judging.proofs.Wrong.{wrong_known, wrong_unknown, wrong_choice, wrong_other}
use Rattle.judging.proofs.lent.Judged.is_wrong_by.Goals as goal

pub returns-then-f-self : goal.returns-then-f-self
returns-then-f-self c = let a = c.args in
    let kind = c.kind_at-kind in
    let f = c.from-f in
    wrong_known a.self.book.now a.self.table.now a.self.nodes.now a.met.now a.choices a.n kind.result f.result c.has_unfit.result
    kind.ensures c.if-kind.true
    (f.ensures ∙ c.label_at.ensures) c.if-f-self.true c.has_unfit.ensures

pub returns-then-kind : goal.returns-then-kind
returns-then-kind c = let a = c.args in
    let kind = c.kind_at-kind in
    let f = c.from-f in
    wrong_unknown a.self.book.now a.self.table.now a.self.nodes.now a.met.now a.choices a.n kind.result f.result kind.ensures
    c.if-kind.true
    (f.ensures ∙ c.label_at.ensures) c.if-f-self.false

pub returns-then-kind-2 : goal.returns-then-kind-2
returns-then-kind-2 c = let a = c.args in
    let kind = c.kind_at-kind in
    let i = c.from in
    wrong_choice a.self.book.now a.self.table.now a.self.nodes.now a.met.now a.choices a.n kind.result i.result kind.ensures
    c.if-kind-2.true
    (i.ensures ∙ c.label_at-then-kind-2.ensures)

pub returns : goal.returns
returns c = let a = c.args in
    let kind = c.kind_at-kind in
    wrong_other a.self.book.now a.self.table.now a.self.nodes.now a.met.now a.choices a.n kind.result kind.ensures c.if-kind.false
    c.if-kind-2.false
