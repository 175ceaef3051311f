-- `leads_outside` meets its contract: what is left to look at is what there was at first.
use mathlib.Core.Path.{sym, ◌∙◌}
use Prim.Native.Nat.{◌<◌}
use native.Mathlib.Omega.{arith}
use borrow.Author.Tests.{le-leb, lt-leb}
use lib.ListN.{length}
use Rattle.symbols.specs.Table.{symbols_in}
use Rattle.accepted.specs.Read.{node_in}
use Rattle.accepted.specs.Faults.{arrows_of}
use lib.Dec.{leb}
use Rattle.judging.proofs.Arrows.{nth-arrow, none_left, step-none, step-some}
use Rattle.judging.proofs.lent.Judged.leads_outside.Goals as goal

pub returns-then-self-from : goal.returns-then-self-from
returns-then-self-from c = let a = c.args in
    let l = c.loop-j in
    let xs = arrows_of (node_in (symbols_in a.self.book.now a.self.table.now) a.self.nodes.now a.n) in
    let inside : l.j < length xs = omega (arith, c.arrows_at-j-end.ensures) in
    let x = c.from in
    let arrow = nth-arrow a.self.book.now a.self.table.now a.self.nodes.now a.n l.j inside ∙ sym c.arrow_at.ensures ∙ sym
    x.ensures in
    sym (l.invariant ∙ step-some (leb a.self.used) xs l.j x.result inside arrow (le-leb a.self.used x.result c.if-self-from.true))

pub loop-j-preserved : goal.loop-j-preserved
loop-j-preserved c = let a = c.args in
    let l = c.loop-j in
    let xs = arrows_of (node_in (symbols_in a.self.book.now a.self.table.now) a.self.nodes.now a.n) in
    let inside : l.j < length xs = omega (arith, c.arrows_at-j-end.ensures) in
    let x = c.from in
    let arrow = nth-arrow a.self.book.now a.self.table.now a.self.nodes.now a.n l.j inside ∙ sym c.arrow_at.ensures ∙ sym
    x.ensures in
    l.invariant ∙ step-none (leb a.self.used) xs l.j x.result inside arrow (lt-leb a.self.used x.result c.if-self-from.false)

pub returns : goal.returns
returns c = let a = c.args in
    let l = c.loop-j in
    let xs = arrows_of (node_in (symbols_in a.self.book.now a.self.table.now) a.self.nodes.now a.n) in
    sym (l.invariant ∙ none_left (leb a.self.used) xs l.j (omega (arith, c.arrows_at-j-end.ensures)))
