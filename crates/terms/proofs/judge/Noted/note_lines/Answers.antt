-- `note_lines` is safe, and ends.
use native.Mathlib.Omega.{arith}
use Rattle.terms.proofs.LineWays.{end_after}
use Rattle.terms.proofs.judge.Noted.note_lines.Goals as goal

pub note_line-requires : goal.note_line-requires
note_line-requires c = (omega arith, omega arith, omega arith)

pub next_heading-g-requires : goal.next_heading-g-requires
next_heading-g-requires c = (omega arith, omega arith)

pub loop-p-smaller : goal.loop-p-smaller
loop-p-smaller c =
    let loop = c.loop-p in
    let a = c.args in
    let later = end_after a.s.now loop.p in
    let to = c.line_end-to.ensures in
    omega arith

pub loop-p-preserved : goal.loop-p-preserved
loop-p-preserved c = c.next_heading-g.ensures.0
