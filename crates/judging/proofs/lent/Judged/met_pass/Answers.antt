-- `met_pass` meets its contract: nothing new is met from the nodes passed, or something is said anew.
use mathlib.Core.Bool.{false}
use mathlib.Core.Path.{◌≡◌, sym, ap, subst, ◌∙◌}
use Prim.Native.Nat.{suc, ◌-◌, ◌<◌}
use native.Mathlib.Omega.{arith}
use lib.ListN.{length, get_or}
use Rattle.nodes.specs.Nodes.{Node}
use Rattle.symbols.specs.Table.{symbols_in}
use Rattle.accepted.specs.Read.{heap_in}
use Rattle.accepted.proofs.Judged.{heap-at, heap-sized}
use Rattle.judging.specs.declared.said.Said.TheVariants.{Nothing}
use Rattle.judging.specs.Sorts.{met_by}
use borrow.Author.Rules.{rules}
use Rattle.judging.proofs.Meeting.{Meeting, meeting_first, meeting_on, meeting_mark, meeting_last}
use Rattle.judging.proofs.lent.Judged.met_pass.Goals as goal

pub loop-n-init : goal.loop-n-init
loop-n-init c =
    let a = c.args in
    let S = symbols_in a.self.book.now a.self.table.now in
    let h = heap_in S a.self.nodes.now a.self.used in
    let sized : length h ≡ a.self.used = heap-sized S a.self.nodes.now a.self.used in
    subst (Meeting S h a.met.now a.met.now false) sized (meeting_first S h a.met.now (omega (arith, sized, c.requires.0)) c.requires.1)

pub loop-n-preserved-then-ne : goal.loop-n-preserved-then-ne
loop-n-preserved-then-ne c =
    let a = c.args in
    let l = c.loop-n in
    let S = symbols_in a.self.book.now a.self.table.now in
    let h = heap_in S a.self.nodes.now a.self.used in
    let one : l.n ≡ suc (l.n - 1) = omega (arith, c.loop-n-test.true) in
    let meeting = subst (Meeting S h a.met.now l.met l.changed) one l.invariant in
    let inside : l.n - 1 < a.self.used = omega arith in
    let new = c.met_at-new in
    let said = new.ensures ∙ ap (λ (x : Node). met_by S l.met (get_or l.met (l.n - 1) Nothing) x)
    (sym (heap-at S a.self.nodes.now a.self.used (l.n - 1) inside)) in
    let other : new.result ≡ get_or l.met (l.n - 1) Nothing → ⊥ = λ e. search rules in
    meeting_mark S meeting new.result said other

pub loop-n-preserved : goal.loop-n-preserved
loop-n-preserved c =
    let a = c.args in
    let l = c.loop-n in
    let S = symbols_in a.self.book.now a.self.table.now in
    let h = heap_in S a.self.nodes.now a.self.used in
    let one : l.n ≡ suc (l.n - 1) = omega (arith, c.loop-n-test.true) in
    let meeting = subst (Meeting S h a.met.now l.met l.changed) one l.invariant in
    let inside : l.n - 1 < a.self.used = omega arith in
    let new = c.met_at-new in
    let said = new.ensures ∙ ap (λ (x : Node). met_by S l.met (get_or l.met (l.n - 1) Nothing) x)
    (sym (heap-at S a.self.nodes.now a.self.used (l.n - 1) inside)) in
    let same : new.result ≡ get_or l.met (l.n - 1) Nothing = search rules in
    meeting_on S meeting (sym said ∙ same)

pub returns : goal.returns
returns c =
    let a = c.args in
    let l = c.loop-n in
    let S = symbols_in a.self.book.now a.self.table.now in
    let h = heap_in S a.self.nodes.now a.self.used in
    let none_left : l.n ≡ 0 = omega arith in
    meeting_last (subst (Meeting S h a.met.now l.met l.changed) none_left l.invariant)
