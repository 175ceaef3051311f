-- `read_expr`, `read_row`, `read_shared` and `read_body` meet their contracts: at whatever depth is enough, each is one level of the definition over the
-- others; `read_shared` as many levels as shared parts stand directly in each other, whose codes it reads inward and whose bodies outward.
use Prim.Native.Nat.{◌+◌, ◌-◌, ◌<◌}
use mathlib.Core.Path.{◌≡◌, sym, ap, ◌∙◌}
use native.Mathlib.Numerals.{add-one}
use native.Mathlib.Omega.{arith}
use lib.ListN.{length, get_or}
use Rattle.reading.proofs.Exits.{handed_on}
use Rattle.reading.specs.Answer.{base_of}
use Rattle.expressions.specs.Codes.{number_of}
use Rattle.expressions.specs.Items.{symbols_of, expr_in}
use Rattle.expressions.proofs.Ways.{expr-past, expr-variable, expr-shared, expr-refused, expr-fail, expr-choice, expr-not-applied, expr-applied, expr_onward, applied-arguments, applied-behind}
use Rattle.expressions.proofs.Ways.{shared-first-edition, shared-many, shared-past, shared-sort}
use Rattle.expressions.proofs.Nested.{is-there, inward_none, inward_refused, inward_within, within_inward, within-read, outward_refused, outward_more, outward_last}
use Rattle.expressions.proofs.Ways.{row-none, row-refused, row_more}
use Rattle.expressions.proofs.Item.+reading.Goals as goal

pub read_expr-returns-then-e-p : goal.read_expr-returns-then-e-p
read_expr-returns-then-e-p t c =
    let a = c.args in
    let i = a.self.now in
    λ f h. rw c.at.ensures (expr-past i.s.now (base_of i.who) (symbols_of i) (length i.s.now) a.vars.now a.sort a.left a.p f h c.if-e-p.true)

pub read_expr-returns-in_default : goal.read_expr-returns-in_default
read_expr-returns-in_default t c =
    let a = c.args in
    let i = a.self.now in
    let above : 4 < get_or i.s.now a.p 0 = rw (sym c.byte.ensures) c.in_default.ensures in
    λ f h. rw c.at-in_default.ensures (expr-refused i.s.now (base_of i.who) (symbols_of i) (length i.s.now) a.vars.now a.sort a.left a.p f h c.if-e-p.false
    (omega (arith, above)) (omega (arith, above)) (λ known. omega (arith, above)))

pub read_expr-returns-in-Variable : goal.read_expr-returns-in-Variable
read_expr-returns-in-Variable t c =
    let a = c.args in
    let i = a.self.now in
    let is : get_or i.s.now a.p 0 ≡ 0 = sym c.byte.ensures ∙ c.in-Some.ensures ∙ ap number_of c.in-Variable.is in
    λ f h. expr-variable i.s.now (base_of i.who) (symbols_of i) (length i.s.now) a.vars.now a.sort a.left a.p f h c.if-e-p.false is c.read_variable.ensures

pub read_expr-returns-in-Shared : goal.read_expr-returns-in-Shared
read_expr-returns-in-Shared t c =
    let a = c.args in
    let i = a.self.now in
    let is : get_or i.s.now a.p 0 ≡ 4 = sym c.byte.ensures ∙ c.in-Some.ensures ∙ ap number_of c.in-Shared.is in
    λ f h. expr-shared i.s.now (base_of i.who) (symbols_of i) (length i.s.now) a.vars.now a.sort a.left a.p f h c.if-e-p.false is c.read_shared.ensures

pub read_expr-returns-in_err-take_node-in-Fail : goal.read_expr-returns-in_err-take_node-in-Fail
read_expr-returns-in_err-take_node-in-Fail t c =
    let a = c.args in
    let i = a.self.now in
    let is : get_or i.s.now a.p 0 ≡ 3 = sym c.byte.ensures ∙ c.in-Some.ensures ∙ ap number_of c.in-Fail.is in
    let none = c.in_err-take_node-in-Fail.ensures in
    let r = handed_on c.from_residual-in_err-take_node-in-Fail.result c.from_residual-in_err-take_node-in-Fail.ensures.1 in
    λ f h. rw (r, none.1, none.2) (expr-refused i.s.now (base_of i.who) (symbols_of i) (length i.s.now) a.vars.now a.sort a.left a.p f h c.if-e-p.false
    (omega arith) (omega arith) (λ known. none.0))

pub read_expr-returns-in_ok-take_node-in-Fail : goal.read_expr-returns-in_ok-take_node-in-Fail
read_expr-returns-in_ok-take_node-in-Fail t c =
    let a = c.args in
    let i = a.self.now in
    let is : get_or i.s.now a.p 0 ≡ 3 = sym c.byte.ensures ∙ c.in-Some.ensures ∙ ap number_of c.in-Fail.is in
    λ f h. expr-fail i.s.now (base_of i.who) (symbols_of i) (length i.s.now) a.vars.now a.sort a.left a.p f h c.if-e-p.false _
    c.in_ok-take_node-in-Fail.ensures is

pub read_expr-returns-in_err-left-in-Choice : goal.read_expr-returns-in_err-left-in-Choice
read_expr-returns-in_err-left-in-Choice t c =
    let a = c.args in
    let i = a.self.now in
    let is : get_or i.s.now a.p 0 ≡ 2 = sym c.byte.ensures ∙ c.in-Some.ensures ∙ ap number_of c.in-Choice.is in
    let none = c.in_err-left-in-Choice.ensures in
    let r = handed_on c.from_residual-in_err-left-in-Choice.result c.from_residual-in_err-left-in-Choice.ensures.1 in
    λ f h. rw (r, none.1, none.2) (expr-refused i.s.now (base_of i.who) (symbols_of i) (length i.s.now) a.vars.now a.sort a.left a.p f h c.if-e-p.false
    (omega arith) (omega arith) (λ known. none.0))

pub read_expr-returns-in_ok-left-in-Choice : goal.read_expr-returns-in_ok-left-in-Choice
read_expr-returns-in_ok-left-in-Choice t c =
    let a = c.args in
    let i = a.self.now in
    let is : get_or i.s.now a.p 0 ≡ 2 = sym c.byte.ensures ∙ c.in-Some.ensures ∙ ap number_of c.in-Choice.is in
    λ f h. expr-choice i.s.now (base_of i.who) (symbols_of i) (length i.s.now) a.vars.now a.sort a.left a.p f h c.if-e-p.false _
    c.in_ok-left-in-Choice.ensures is c.read_row-in-Choice.ensures

pub read_expr-returns-in_err-left-in-Apply : goal.read_expr-returns-in_err-left-in-Apply
read_expr-returns-in_err-left-in-Apply t c =
    let a = c.args in
    let i = a.self.now in
    let is : get_or i.s.now a.p 0 ≡ 1 = sym c.byte.ensures ∙ c.in-Some.ensures ∙ ap number_of c.in-Apply.is in
    let none = c.in_err-left-in-Apply.ensures in
    let r = handed_on c.from_residual.result c.from_residual.ensures.1 in
    λ f h. rw (r, none.1, none.2) (expr-refused i.s.now (base_of i.who) (symbols_of i) (length i.s.now) a.vars.now a.sort a.left a.p f h c.if-e-p.false
    (omega arith) (omega arith) (λ known. none.0))

pub read_expr-read_row-requires : goal.read_expr-read_row-requires
read_expr-read_row-requires t c =
    let a = c.args in
    let i = a.self.now in
    let behind = applied-behind i.s.now (base_of i.who) (symbols_of i) (length i.s.now) a.sort a.p c.in_ok-f-in-Apply.ensures in
    (omega (arith, behind), tt)

pub read_expr-returns-in_err-f-in-Apply : goal.read_expr-returns-in_err-f-in-Apply
read_expr-returns-in_err-f-in-Apply t c =
    let a = c.args in
    let i = a.self.now in
    let is : get_or i.s.now a.p 0 ≡ 1 = sym c.byte.ensures ∙ c.in-Some.ensures ∙ ap number_of c.in-Apply.is in
    let r = handed_on c.from_residual-in_err-f-in-Apply.result c.from_residual-in_err-f-in-Apply.ensures.1 in
    λ f h. rw r (expr-not-applied i.s.now (base_of i.who) (symbols_of i) (length i.s.now) a.vars.now a.sort a.left a.p f h c.if-e-p.false _
    c.in_ok-left-in-Apply.ensures is c.in_err-f-in-Apply.ensures)

pub read_expr-returns-in_ok-f-in-Apply : goal.read_expr-returns-in_ok-f-in-Apply
read_expr-returns-in_ok-f-in-Apply t c =
    let a = c.args in
    let i = a.self.now in
    let is : get_or i.s.now a.p 0 ≡ 1 = sym c.byte.ensures ∙ c.in-Some.ensures ∙ ap number_of c.in-Apply.is in
    let applied = c.in_ok-f-in-Apply.ensures in
    let arguments = applied-arguments i.book.now i.at.now i.s.now (base_of i.who) (length i.s.now) a.sort a.p applied in
    λ f h. expr-applied i.s.now (base_of i.who) (symbols_of i) (length i.s.now) a.vars.now a.sort a.left a.p f h c.if-e-p.false _
    c.in_ok-left-in-Apply.ensures is applied (c.arguments_of.ensures.0 ∙ arguments) c.read_row.ensures

pub read_row-returns-in_err-rest : goal.read_row-returns-in_err-rest
read_row-returns-in_err-rest t c =
    let a = c.args in
    let i = a.self.now in
    let l = c.loop-sort in
    let r = handed_on c.from_residual.result c.from_residual.ensures.1 in
    λ f h. rw r (row-refused (expr_in i f a.vars.now) a.sorts.now l.sort-index l.rest l.next c.loop-sort-test.true
    (c.in_err-rest.ensures f (omega (arith, l.invariant.0))) ∙ sym (l.invariant.1 f h))

pub read_row-loop-sort-preserved : goal.read_row-loop-sort-preserved
read_row-loop-sort-preserved t c =
    let a = c.args in
    let i = a.self.now in
    let l = c.loop-sort in
    let read = c.in_ok-rest.ensures in
    let onward = expr_onward i.s.now (base_of i.who) (symbols_of i) (length i.s.now) a.vars.now (get_or a.sorts.now l.sort-index 0) l.rest l.next
    (length i.s.now) (read (length i.s.now) (omega arith)) in (
      omega (arith, l.invariant.0, onward.1),
      λ f h. l.invariant.1 f h ∙ rw add-one (row_more (expr_in i f a.vars.now) a.sorts.now l.sort-index l.rest l.next c.loop-sort-test.true
          (read f (omega (arith, l.invariant.0)))),
    )

pub read_row-returns : goal.read_row-returns
read_row-returns t c =
    let a = c.args in
    let i = a.self.now in
    let l = c.loop-sort in
    λ f h. row-none (expr_in i f a.vars.now) a.sorts.now l.sort-index l.rest l.next c.loop-sort-test.false ∙ sym (l.invariant.1 f h)

pub read_shared-returns-then-byte-ne2 : goal.read_shared-returns-then-byte-ne2
read_shared-returns-then-byte-ne2 t c =
    let a = c.args in
    let i = a.self.now in
    λ f h. rw c.at.ensures (shared-first-edition i.s.now (base_of i.who) (symbols_of i) (length i.s.now) (expr_in i f) a.vars.now a.sort a.left a.p
    (omega arith))

pub read_shared-returns-then-vars-ge-VARIABLES : goal.read_shared-returns-then-vars-ge-VARIABLES
read_shared-returns-then-vars-ge-VARIABLES t c =
    let a = c.args in
    let i = a.self.now in
    λ f h. rw c.at-then-vars-ge-VARIABLES.ensures (shared-many i.s.now (base_of i.who) (symbols_of i) (length i.s.now) (expr_in i f) a.vars.now a.sort a.left
    a.p (omega arith) (omega arith))

pub read_shared-inward-init : goal.read_shared-inward-init
read_shared-inward-init t c =
    let a = c.args in
    let i = a.self.now in
    inward_none i.s.now (base_of i.who) (symbols_of i) (length i.s.now) a.vars.now a.sort a.left a.p

pub read_shared-returns-then-between-lt2 : goal.read_shared-returns-then-between-lt2
read_shared-returns-then-between-lt2 t c =
    let a = c.args in
    let i = a.self.now in
    let l = c.inward in
    λ f h. rw c.at-then-between-lt2.ensures (inward_refused i.s.now (base_of i.who) (symbols_of i) (length i.s.now) a.vars.now a.sort a.left a.p l.invariant
    (λ expr s. shared-past i.s.now (base_of i.who) (symbols_of i) (length i.s.now) expr a.vars.now s a.left l.q (omega arith) (omega arith) (omega arith)) f h)

pub read_shared-returns-then-byte-gt-LAST_SORT : goal.read_shared-returns-then-byte-gt-LAST_SORT
read_shared-returns-then-byte-gt-LAST_SORT t c =
    let a = c.args in
    let i = a.self.now in
    let l = c.inward in
    λ f h. rw c.at-then-byte-gt-LAST_SORT.ensures (inward_refused i.s.now (base_of i.who) (symbols_of i) (length i.s.now) a.vars.now a.sort a.left a.p
    l.invariant (λ expr s. shared-sort i.s.now (base_of i.who) (symbols_of i) (length i.s.now) expr a.vars.now s a.left l.q (omega arith) (omega arith)
    c.byte-in-inward.ensures (omega arith) (omega arith)) f h)

pub read_shared-inward-preserved : goal.read_shared-inward-preserved
read_shared-inward-preserved t c =
    let a = c.args in
    let i = a.self.now in
    let l = c.inward in
    let within = inward_within i.s.now (base_of i.who) (symbols_of i) (length i.s.now) a.vars.now a.sort a.left a.p l.invariant (omega arith) (omega arith)
    c.byte-in-inward.ensures (omega arith) (omega arith) in
    let code : get_or i.s.now (l.q + 2) 0 ≡ 4 = omega arith in
    within_inward i.s.now (base_of i.who) (symbols_of i) (length i.s.now) a.vars.now a.sort a.left a.p within code (is-there i.s.now (l.q + 2) code)

pub read_shared-returns-in_err-rest : goal.read_shared-returns-in_err-rest
read_shared-returns-in_err-rest t c =
    let a = c.args in
    let i = a.self.now in
    let l = c.inward in
    let r = handed_on c.from_residual.result c.from_residual.ensures.1 in
    let within = inward_within i.s.now (base_of i.who) (symbols_of i) (length i.s.now) a.vars.now a.sort a.left a.p l.invariant (omega arith) (omega arith)
    c.byte-in-inward.ensures (omega arith) (omega arith) in
    let refused = within-read i.s.now (base_of i.who) (symbols_of i) (length i.s.now) a.vars.now a.sort a.left a.p {k = within.count + 1} within
    (omega (arith, within.place)) (omega arith) c.byte-2.ensures c.in_err-rest.ensures in
    λ f h. rw r (outward_refused i.s.now (base_of i.who) (symbols_of i) (length i.s.now) a.vars.now a.sort a.left a.p refused f h)

pub read_shared-loop-k-init : goal.read_shared-loop-k-init
read_shared-loop-k-init t c =
    let a = c.args in
    let i = a.self.now in
    let l = c.inward in
    let within = inward_within i.s.now (base_of i.who) (symbols_of i) (length i.s.now) a.vars.now a.sort a.left a.p l.invariant (omega arith) (omega arith)
    c.byte-in-inward.ensures (omega arith) (omega arith) in
    within-read i.s.now (base_of i.who) (symbols_of i) (length i.s.now) a.vars.now a.sort a.left a.p within (omega (arith, within.place)) (omega arith)
    c.byte-2.ensures c.in_ok-rest.ensures

pub read_shared-returns-in_err-rest-2 : goal.read_shared-returns-in_err-rest-2
read_shared-returns-in_err-rest-2 t c =
    let a = c.args in
    let i = a.self.now in
    let l = c.loop-k in
    let r = handed_on c.from_residual-in_err-rest-2.result c.from_residual-in_err-rest-2.ensures.1 in
    let refused = outward_more i.s.now (base_of i.who) (symbols_of i) (length i.s.now) a.vars.now a.sort a.left a.p {k = l.k - 1} l.invariant (omega arith)
    (omega arith) c.byte-t.ensures c.byte-around.ensures c.in_err-rest-2.ensures in
    λ f h. rw r (outward_refused i.s.now (base_of i.who) (symbols_of i) (length i.s.now) a.vars.now a.sort a.left a.p refused f h)

pub read_shared-loop-k-preserved : goal.read_shared-loop-k-preserved
read_shared-loop-k-preserved t c =
    let a = c.args in
    let i = a.self.now in
    let l = c.loop-k in
    outward_more i.s.now (base_of i.who) (symbols_of i) (length i.s.now) a.vars.now a.sort a.left a.p {k = l.k - 1} l.invariant (omega arith) (omega arith)
    c.byte-t.ensures c.byte-around.ensures c.in_ok-rest-2.ensures

pub read_shared-returns : goal.read_shared-returns
read_shared-returns t c =
    let a = c.args in
    let i = a.self.now in
    let l = c.loop-k in
    outward_last i.s.now (base_of i.who) (symbols_of i) (length i.s.now) a.vars.now a.sort a.left a.p l.invariant c.loop-k-test.false c.byte-3.ensures
    c.read_body-2.ensures
