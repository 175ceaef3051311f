-- `is_mirror` meets its contract.
use mathlib.Core.Path.{◌≡◌, sym, ◌∙◌}
use Prim.Native.Nat.{◌+◌}
use native.Mathlib.Omega.{arith}
use Rattle.terms.specs.Judging.{kind_of, name_at, line_at}
use Rattle.terms.proofs.JudgeWays.{end-within}
use Rattle.terms.proofs.MirrorWays.{mirror_not, mirror_there, mirror_other-name}
use Rattle.terms.proofs.judge.is_mirror.Goals as goal

pub same-requires : goal.same-requires
same-requires c =
    let a = c.args in
    let s = a.s.now in
    let h-end = c.line_end-h_end.ensures in
    let q-end = c.line_end-q_end.ensures in
    let h-in = end-within s a.h (omega arith) in
    let q-in = end-within s a.q (omega arith) in
    (omega arith, omega arith)

pub returns-then-not-are_opposite : goal.returns-then-not-are_opposite
returns-then-not-are_opposite c =
    let a = c.args in
    let s = a.s.now in
    let no = c.are_opposite.ensures.1 c.if-not-are_opposite.true in
    mirror_not (name_at s a.h) (name_at s a.g) (line_at s a.p) (line_at s a.q) (λ e. no (omega (arith, e, c.form_at.ensures, c.form_at-then-same.ensures)))

pub same-requires-then-same : goal.same-requires-then-same
same-requires-then-same c =
    let a = c.args in
    let s = a.s.now in
    let g_end = c.line_end-g_end.ensures in
    let p-end = c.line_end-p_end.ensures in
    let g-in = end-within s a.g (omega arith) in
    let p-in = end-within s a.p (omega arith) in
    (omega arith, omega arith)

pub returns-then-same : goal.returns-then-same
returns-then-same c =
    let a = c.args in
    let s = a.s.now in
    let g_end = c.line_end-g_end.ensures in
    let p-end = c.line_end-p_end.ensures in
    let h-end = c.line_end-h_end.ensures in
    let q-end = c.line_end-q_end.ensures in
    let five : kind_of (line_at s a.p) + kind_of (line_at s a.q) ≡ 5 = omega (arith, c.form_at.ensures, c.form_at-then-same.ensures, c.are_opposite.ensures.0 c.if-not-are_opposite.false) in
    let back = rw (q-end, h-end) at (sym c.same.ensures ∙ c.if-same.true) in
    let there = rw (g_end, p-end) at c.same-then-same.ensures in
    there ∙ mirror_there s a.h a.p a.g a.q (omega arith) (omega arith) five back

pub returns : goal.returns
returns c =
    let a = c.args in
    let s = a.s.now in
    let h-end = c.line_end-h_end.ensures in
    let q-end = c.line_end-q_end.ensures in
    let back = rw (q-end, h-end) at (sym c.same.ensures ∙ c.if-same.false) in
    mirror_other-name s a.h a.p a.g a.q (omega arith) (omega arith) back
