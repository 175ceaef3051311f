-- `is_on_circle` meets its contract.
use mathlib.Core.Path.{◌≡◌, sym, ap, ◌∙◌}
use Prim.Native.Nat.{ℕ}
use lib.ListN.{get_or}
use Rattle.nodes.specs.Nodes.{Node}
use Rattle.symbols.specs.Table.{symbols_in}
use Rattle.accepted.specs.Read.{node_in, heap_in}
use Rattle.accepted.specs.Faults.{some_of, arrows_of}
use Rattle.accepted.proofs.Judged.{heap-at}
use Rattle.judging.specs.Ranks.{ranked}
use Rattle.judging.proofs.Falls.{lower-returns}
use Rattle.judging.proofs.lent.Judged.is_on_circle.Goals as goal

pub returns-then-not-leads_up : goal.returns-then-not-leads_up
returns-then-not-leads_up c = let a = c.args in
    let S = symbols_in a.self.book.now a.self.table.now in
    let m = a.self.nodes.now in
    let h = heap_in S m a.self.used in
    let ranks = c.in-Some.ranks.now in
    let rank : get_or ranks a.n 0 ≡ c.from.result = sym
    (c.from.ensures ∙ c.number_of.ensures) in
    let none = ap (λ (x : Node). some_of (ranked ranks (get_or ranks a.n 0)) (arrows_of x)) (heap-at S m a.self.used a.n c.requires.0)
    ∙ ap (λ (v : ℕ). some_of (ranked ranks v) (arrows_of (node_in S m a.n))) rank ∙ sym c.leads_up.ensures ∙ c.if-not-leads_up.true in
    sym (lower-returns h ranks (rw c.in-Some.is at c.requires.1) a.n none)

pub leads_back-requires : goal.leads_back-requires
leads_back-requires c = c.requires.0
