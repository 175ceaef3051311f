-- `is_bad` meets its contract: what the code sees, or a circle.
use mathlib.Core.Bool.{Bool, ◌||◌}
use mathlib.Core.Path.{sym, ap, ap₂, ◌∙◌}
use Rattle.symbols.specs.Table.{symbols_in}
use Rattle.accepted.specs.Read.{heap_in}
use Rattle.accepted.specs.Faults.{returns as returns_to}
use Rattle.judging.proofs.Unfit.{bad-node}
use Rattle.judging.proofs.lent.Judged.is_bad.Goals as goal

pub returns-then-is_wrong : goal.returns-then-is_wrong
returns-then-is_wrong c = let a = c.args in
    let S = symbols_in a.self.book.now a.self.table.now in
    let m = a.self.nodes.now in
    let is = bad-node S a.choices m a.self.used a.met.now c.requires.1 a.n c.requires.0 in
    sym (is ∙ ap (λ (b : Bool). b || returns_to (heap_in S m a.self.used) a.n) (sym c.is_wrong.ensures ∙ c.if-is_wrong.true))

pub is_on_circle-requires : goal.is_on_circle-requires
is_on_circle-requires c = (c.requires.0, c.requires.2)

pub returns : goal.returns
returns c = let a = c.args in
    let S = symbols_in a.self.book.now a.self.table.now in
    let m = a.self.nodes.now in
    let is = bad-node S a.choices m a.self.used a.met.now c.requires.1 a.n c.requires.0 in
    sym (is ∙ ap₂ ◌||◌ (sym c.is_wrong.ensures ∙ c.if-is_wrong.false) (sym c.is_on_circle.ensures))
