-- `none_rises` meets its contract: no arrow of the nodes passed leads to a higher rank.
use mathlib.Core.Path.{◌≡◌, sym, ap, ◌∙◌}
use Prim.Native.Nat.{ℕ, ◌+◌, ◌<◌}
use native.Mathlib.Omega.{arith}
use borrow.Author.Count.{below_more}
use lib.ListN.{get_or}
use Rattle.nodes.specs.Nodes.{Node}
use Rattle.symbols.specs.Table.{symbols_in}
use Rattle.accepted.specs.Read.{node_in, heap_in}
use Rattle.accepted.specs.Faults.{some_of, arrows_of}
use Rattle.accepted.proofs.Judged.{heap-at, heap-sized}
use Rattle.judging.specs.Ranks.{ranked}
use Rattle.judging.proofs.Falls.{falling}
use Rattle.judging.proofs.lent.Judged.none_rises.Goals as goal

pub loop-n-preserved : goal.loop-n-preserved
loop-n-preserved c = let a = c.args in
    let l = c.loop-n in
    let xs = arrows_of (node_in (symbols_in a.self.book.now a.self.table.now) a.self.nodes.now l.n) in
    let rank : get_or a.ranks.now l.n 0 ≡ c.from.result = sym (c.from.ensures ∙ c.number_of.ensures) in
    below_more _ _ l.invariant (ap (λ (v : ℕ). some_of (ranked a.ranks.now (v + 1)) xs) rank ∙ sym c.leads_up.ensures ∙ c.if-leads_up.false)

pub returns : goal.returns
returns c = let a = c.args in
    let l = c.loop-n in
    let S = symbols_in a.self.book.now a.self.table.now in
    let m = a.self.nodes.now in
    let ranks = a.ranks.now in
    λ q. falling (heap_in S m a.self.used) ranks (λ k lt.
    let inside : k < a.self.used = omega (arith, heap-sized S m a.self.used) in
    ap (λ (x : Node). some_of (ranked ranks (get_or ranks k 0 + 1)) (arrows_of x)) (heap-at S m a.self.used k inside) ∙ l.invariant k
    (omega (arith, c.loop-n-test.false)))
