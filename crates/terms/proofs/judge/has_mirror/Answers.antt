-- `has_mirror` meets its contract: no line passed is the mirror, and those still to come decide.
use mathlib.Core.Path.{refl, sym, ◌∙◌}
use native.Mathlib.Omega.{arith}
use Rattle.terms.specs.Judging.{name_at, line_at}
use Rattle.terms.proofs.LineWays.{end_after, line-at, line-cut-at, lines_past}
use Rattle.terms.proofs.JudgeWays.{lines_all, name-past}
use Rattle.terms.proofs.MirrorWays.{found_here, found-later, found_none, found-cut}
use Rattle.terms.proofs.judge.has_mirror.Goals as goal

pub loop-at-init : goal.loop-at-init
loop-at-init c =
    let a = c.args in
    let s = a.s.now in
    (omega arith, rw (lines_all s, name-past s) refl)

pub returns-then-s-to : goal.returns-then-s-to
returns-then-s-to c =
    let loop = c.loop-at in
    let a = c.args in
    let s = a.s.now in
    let to = c.line_end-to.ensures in
    sym (loop.invariant.1 ∙ rw (line-cut-at s loop.at (omega arith) (omega arith)) (found-cut (name_at s a.h) (line_at s a.p) (name_at s loop.g)))

pub is_mirror-requires : goal.is_mirror-requires
is_mirror-requires c =
    (omega arith, omega arith, omega arith, omega arith)

pub returns-then-is_mirror : goal.returns-then-is_mirror
returns-then-is_mirror c =
    let loop = c.loop-at in
    let a = c.args in
    let s = a.s.now in
    let to = c.line_end-to.ensures in
    let is = sym c.is_mirror.ensures ∙ c.if-is_mirror.true in
    sym (loop.invariant.1 ∙ rw (line-at s loop.at (omega arith)) (found_here (name_at s a.h) (line_at s a.p) (name_at s loop.g) (line_at s loop.at) _ is))

pub next_heading-g-requires : goal.next_heading-g-requires
next_heading-g-requires c =
    (omega arith, omega arith)

pub loop-at-smaller : goal.loop-at-smaller
loop-at-smaller c =
    let loop = c.loop-at in
    let a = c.args in
    let later = end_after a.s.now loop.at in
    let to = c.line_end-to.ensures in
    omega arith

pub loop-at-preserved : goal.loop-at-preserved
loop-at-preserved c =
    let loop = c.loop-at in
    let a = c.args in
    let s = a.s.now in
    let to = c.line_end-to.ensures in
    let is = sym c.is_mirror.ensures ∙ c.if-is_mirror.false in
    let next = c.next_heading-g.ensures in
    (next.0, rw (to, next.1) (loop.invariant.1 ∙ rw (line-at s loop.at (omega arith)) (found-later (name_at s a.h) (line_at s a.p) (name_at s loop.g) (line_at s loop.at) _ is)))

pub returns : goal.returns
returns c =
    let loop = c.loop-at in
    let a = c.args in
    let s = a.s.now in
    sym (loop.invariant.1 ∙ rw (lines_past s loop.at (omega arith)) (found_none (name_at s a.h) (line_at s a.p) (name_at s loop.g)))
