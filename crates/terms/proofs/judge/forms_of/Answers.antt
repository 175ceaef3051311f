-- `forms_of` meets its contract: the lines passed are good, and those still to come decide.
use mathlib.Core.Path.{◌≡◌, sym}
use Prim.Native.Nat.{◌+◌, ◌-◌, ◌≤◌}
use native.Mathlib.Omega.{arith}
use borrow.Author.Rules.{rules}
use lib.ListN.{length}
use Rattle.terms.specs.Judging.{worth, line_at}
use Rattle.terms.proofs.LineWays.{end_after}
use Rattle.terms.proofs.JudgeWays.{worth-small, forms_start, forms_end, forms_cut, forms_bad, forms_on}
use Rattle.terms.proofs.judge.forms_of.Goals as goal

pub loop-at-init : goal.loop-at-init
loop-at-init c =
    let a = c.args in
    (omega arith, omega arith, forms_start a.s.now)

pub returns-then-s-to : goal.returns-then-s-to
returns-then-s-to c =
    let loop = c.loop-at in
    let a = c.args in
    let to = c.line_end-to.ensures in
    forms_cut a.s.now loop.lines loop.headings loop.at loop.invariant.2 (omega arith) (omega arith)

pub added_at-requires : goal.added_at-requires
added_at-requires c =
    omega arith

pub returns-in_default : goal.returns-in_default
returns-in_default c =
    let loop = c.loop-at in
    let a = c.args in
    let to = c.line_end-to.ensures in
    forms_bad a.s.now loop.lines loop.headings loop.at loop.invariant.2 (omega arith) (sym c.in_default.ensures)

pub overflow_add-headings : goal.overflow_add-headings
overflow_add-headings c =
    let loop = c.loop-at in
    let a = c.args in
    let w = c.in-Some.ensures in
    let small = worth-small loop.headings (line_at a.s.now loop.at) in
    let fits : loop.headings + c.in-Some.added ≤ length a.s.now + 1 = omega (arith, loop.invariant.0, loop.invariant.1) in
    search rules

pub overflow_add-lines : goal.overflow_add-lines
overflow_add-lines c =
    let loop = c.loop-at in
    let a = c.args in
    let fits : loop.lines + 1 ≤ length a.s.now + 1 = omega (arith, loop.invariant.1) in
    search rules

pub loop-at-smaller : goal.loop-at-smaller
loop-at-smaller c =
    let loop = c.loop-at in
    let a = c.args in
    let later = end_after a.s.now loop.at in
    let to = c.line_end-to.ensures in
    omega arith

pub loop-at-preserved : goal.loop-at-preserved
loop-at-preserved c =
    let loop = c.loop-at in
    let a = c.args in
    let s = a.s.now in
    let later = end_after s loop.at in
    let to = c.line_end-to.ensures in
    let w = c.in-Some.ensures in
    let small = worth-small loop.headings (line_at s loop.at) in
    let less : c.in-Some.added ≡ worth loop.headings (line_at s loop.at) - 1 = omega (arith, w) in
    (omega (arith, loop.invariant.0), omega (arith, loop.invariant.1), rw (to, less) (forms_on s loop.lines loop.headings loop.at loop.invariant.2 (omega arith) (λ e. omega (arith, w, e))))

pub returns : goal.returns
returns c =
    let loop = c.loop-at in
    let a = c.args in
    forms_end a.s.now loop.lines loop.headings loop.at loop.invariant.2 (omega arith)
