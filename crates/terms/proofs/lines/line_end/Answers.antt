-- `line_end` meets its contract: the line ends where it ends from here on.
use mathlib.Core.Path.{◌≡◌, refl, sym, ◌∙◌}
use lib.ListN.{length}
use native.Mathlib.Omega.{arith}
use Rattle.terms.proofs.LineWays.{end-here, end_later, end-past}
use Rattle.terms.proofs.lines.line_end.Goals as goal

pub loop-i-init : goal.loop-i-init
loop-i-init c = refl

pub returns-then-s-i-eq10 : goal.returns-then-s-i-eq10
returns-then-s-i-eq10 c =
    let loop = c.loop-i in
    let a = c.args in
    sym (loop.invariant ∙ end-here a.s.now loop.i (omega arith) c.if-s-i-eq10.true)

pub loop-i-preserved : goal.loop-i-preserved
loop-i-preserved c =
    let loop = c.loop-i in
    let a = c.args in
    loop.invariant ∙ end_later a.s.now loop.i (omega arith) c.if-s-i-eq10.false

pub returns : goal.returns
returns c =
    let loop = c.loop-i in
    let s = c.args.s.now in
    let at-end : length s ≡ loop.i = omega arith in
    at-end ∙ sym (loop.invariant ∙ end-past s loop.i (omega arith))
