-- `met_at` meets its contract.
use mathlib.Core.Path.{◌≡◌, ap, subst, ◌∙◌}
use native.Mathlib.Omega.{arith}
use Prim.Native.Nat.{ℕ}
use lib.ListN.{get_or}
use Rattle.symbols.specs.Table.{symbols_in}
use Rattle.accepted.specs.Read.{node_in}
use Rattle.judging.specs.declared.said.Said.{Said}
use Rattle.judging.specs.declared.said.Said.TheVariants.{Nothing, Several}
use Rattle.judging.specs.Sorts.{met_by}
use borrow.Author.Rules.{rules}
use Rattle.judging.proofs.MetAt.{said_several, said_known, said_unknown, said_choice, said_forward, said_other}
use Rattle.judging.proofs.lent.Judged.met_at.Goals as goal

pub returns-then-eq : goal.returns-then-eq
returns-then-eq c =
    let a = c.args in
    let own = c.said_of-own in
    let bs = a.self.book.now in
    let table = a.self.table.now in
    let m = a.self.nodes.now in
    let met = a.met.now in
    let several : own.result ≡ Several = search rules in
    subst (λ (o : Said). own.result ≡ met_by (symbols_in bs table) met o (node_in (symbols_in bs table) m a.n)) own.ensures
    (said_several bs table m met a.n own.result several)

pub returns-then-f-self : goal.returns-then-f-self
returns-then-f-self c =
    let a = c.args in
    let own = c.said_of-own in
    let bs = a.self.book.now in
    let table = a.self.table.now in
    let m = a.self.nodes.now in
    let met = a.met.now in
    let kind = c.kind_at-kind in
    let f = c.from-f in
    subst (λ (o : Said). c.joined.result ≡ met_by (symbols_in bs table) met o (node_in (symbols_in bs table) m a.n)) own.ensures
    (said_known bs table m met a.n own.result kind.result f.result c.sort_of.result c.joined.result kind.ensures
    c.if-kind.true
    (f.ensures ∙ c.label_at.ensures) (omega arith)
    c.sort_of.ensures c.joined.ensures)

pub returns-then-kind : goal.returns-then-kind
returns-then-kind c =
    let a = c.args in
    let own = c.said_of-own in
    let bs = a.self.book.now in
    let table = a.self.table.now in
    let m = a.self.nodes.now in
    let met = a.met.now in
    let kind = c.kind_at-kind in
    let f = c.from-f in
    subst (λ (o : Said). own.result ≡ met_by (symbols_in bs table) met o (node_in (symbols_in bs table) m a.n)) own.ensures
    (said_unknown bs table m met a.n own.result kind.result f.result kind.ensures c.if-kind.true
    (f.ensures ∙ c.label_at.ensures) (omega arith))

pub returns-then-kind-2 : goal.returns-then-kind-2
returns-then-kind-2 c =
    let a = c.args in
    let own = c.said_of-own in
    let bs = a.self.book.now in
    let table = a.self.table.now in
    let m = a.self.nodes.now in
    let met = a.met.now in
    let kind = c.kind_at-kind in
    let left = c.said_of-left in
    let right = c.said_of-right in
    subst (λ (o : Said). c.joined-then-kind-2-2.result ≡ met_by (symbols_in bs table) met o (node_in (symbols_in bs table) m a.n)) own.ensures
    (said_choice bs table m met a.n own.result kind.result left.result right.result c.joined-then-kind-2.result c.joined-then-kind-2-2.result
    kind.ensures c.if-kind-2.true
    (left.ensures ∙ ap (λ (x : ℕ). get_or met x Nothing) c.arrow_at.ensures)
    (right.ensures ∙ ap (λ (x : ℕ). get_or met x Nothing) c.arrow_at-then-kind-2.ensures)
    c.joined-then-kind-2.ensures c.joined-then-kind-2-2.ensures)

pub returns-then-kind-3 : goal.returns-then-kind-3
returns-then-kind-3 c =
    let a = c.args in
    let own = c.said_of-own in
    let bs = a.self.book.now in
    let table = a.self.table.now in
    let m = a.self.nodes.now in
    let met = a.met.now in
    let kind = c.kind_at-kind in
    let to = c.said_of in
    subst (λ (o : Said). c.joined-then-kind-3.result ≡ met_by (symbols_in bs table) met o (node_in (symbols_in bs table) m a.n)) own.ensures
    (said_forward bs table m met a.n own.result kind.result to.result c.joined-then-kind-3.result kind.ensures c.if-kind-3.true
    (to.ensures ∙ ap (λ (x : ℕ). get_or met x Nothing) c.arrow_at-then-kind-3.ensures) c.joined-then-kind-3.ensures)

pub returns : goal.returns
returns c =
    let a = c.args in
    let own = c.said_of-own in
    let bs = a.self.book.now in
    let table = a.self.table.now in
    let m = a.self.nodes.now in
    let met = a.met.now in
    let kind = c.kind_at-kind in
    subst (λ (o : Said). own.result ≡ met_by (symbols_in bs table) met o (node_in (symbols_in bs table) m a.n)) own.ensures
    (said_other bs table m met a.n own.result kind.result kind.ensures c.if-kind.false c.if-kind-2.false c.if-kind-3.false)
