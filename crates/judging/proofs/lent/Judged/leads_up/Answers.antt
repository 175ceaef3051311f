-- `leads_up` meets its contract: what is left to look at is what there was at first.
use mathlib.Core.Path.{sym, ◌∙◌}
use Prim.Native.Nat.{◌<◌}
use native.Mathlib.Omega.{arith}
use lib.ListN.{length}
use Rattle.symbols.specs.Table.{symbols_in}
use Rattle.accepted.specs.Read.{node_in}
use Rattle.accepted.specs.Faults.{arrows_of}
use Rattle.judging.specs.Ranks.{ranked}
use Rattle.judging.proofs.Arrows.{nth-arrow, none_left, step-none, step-some}
use Rattle.judging.proofs.Falls.{is-ranked, not-ranked}
use Rattle.judging.proofs.lent.Judged.leads_up.Goals as goal

pub returns-then-least-from : goal.returns-then-least-from
returns-then-least-from c = let a = c.args in
    let l = c.loop-j in
    let xs = arrows_of (node_in (symbols_in a.self.book.now a.self.table.now) a.self.nodes.now a.n) in
    let inside : l.j < length xs = omega (arith, c.arrows_at-j-end.ensures) in
    let x = c.arrow_at in
    let arrow = nth-arrow a.self.book.now a.self.table.now a.self.nodes.now a.n l.j inside ∙ sym x.ensures in
    let rank = c.from.ensures ∙ c.number_of.ensures in
    sym (l.invariant ∙ step-some (ranked a.ranks.now a.least) xs l.j x.result inside arrow
    (is-ranked a.ranks.now a.least x.result (omega (arith, rank, c.if-least-from.true))))

pub loop-j-preserved : goal.loop-j-preserved
loop-j-preserved c = let a = c.args in
    let l = c.loop-j in
    let xs = arrows_of (node_in (symbols_in a.self.book.now a.self.table.now) a.self.nodes.now a.n) in
    let inside : l.j < length xs = omega (arith, c.arrows_at-j-end.ensures) in
    let x = c.arrow_at in
    let arrow = nth-arrow a.self.book.now a.self.table.now a.self.nodes.now a.n l.j inside ∙ sym x.ensures in
    let rank = c.from.ensures ∙ c.number_of.ensures in
    l.invariant ∙ step-none (ranked a.ranks.now a.least) xs l.j x.result inside arrow
    (not-ranked a.ranks.now a.least x.result (omega (arith, rank, c.if-least-from.false)))

pub returns : goal.returns
returns c = let a = c.args in
    let l = c.loop-j in
    let xs = arrows_of (node_in (symbols_in a.self.book.now a.self.table.now) a.self.nodes.now a.n) in
    sym (l.invariant ∙ none_left (ranked a.ranks.now a.least) xs l.j (omega (arith, c.arrows_at-j-end.ensures)))
