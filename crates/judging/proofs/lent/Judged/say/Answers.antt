-- `say` meets its contract.
use mathlib.Core.Path.{◌≡◌, sym, ap, ◌∙◌}
use Prim.Native.Nat.{ℕ, ◌<◌}
use native.Mathlib.Omega.{arith}
use lib.ListN.{length, get_or}
use Rattle.symbols.specs.Table.{symbols_in}
use Rattle.accepted.specs.Read.{node_in, heap_in}
use Rattle.accepted.proofs.Judged.{heap-at, heap-sized}
use Rattle.judging.specs.declared.said.Said.TheVariants.{Nothing}
use Rattle.judging.specs.Sorts.{met_by}
use borrow.Author.Rules.{rules}
use Rattle.judging.proofs.Meeting.{more-first, more_mark}
use Rattle.judging.proofs.lent.Judged.say.Goals as goal

pub returns-then-ne : goal.returns-then-ne
returns-then-ne c = let a = c.args in
    let S = symbols_in a.self.book.now a.self.table.now in
    let m = a.self.nodes.now in
    let h = heap_in S m a.self.used in
    let met = a.met.now in
    let i = c.from-i in
    let new = c.met_at-new in
    let lt : i.result < a.self.used = c.if-i-self.true in
    let is : new.result ≡ met_by S met (get_or met i.result Nothing) (node_in S m i.result) =
    new.ensures ∙ ap (λ (x : ℕ). met_by S met (get_or met x Nothing) (node_in S m x)) (sym i.ensures) in
    let said = is ∙ ap (met_by S met (get_or met i.result Nothing)) (sym (heap-at S m a.self.used i.result lt)) in
    let sized : length h ≡ a.self.used = heap-sized S m a.self.used in
    let other : new.result ≡ get_or met i.result Nothing → ⊥ = λ e. search rules in
    more_mark S i.result new.result (more-first S h met c.requires.1) (omega (arith, lt, sized))
    (omega (arith, lt, c.requires.0)) said other
