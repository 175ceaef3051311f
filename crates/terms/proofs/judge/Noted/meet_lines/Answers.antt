-- `meet_lines` meets its contract: each line stands in the listing, so what it meets has its mirror.
use native.Mathlib.Omega.{arith}
use Rattle.terms.proofs.LineWays.{end_after}
use Rattle.terms.proofs.MeetWays.{behind-start, under-here, behind-on}
use Rattle.terms.proofs.judge.Noted.meet_lines.Goals as goal

pub loop-at-init : goal.loop-at-init
loop-at-init c = (omega arith, behind-start c.args.s.now, c.requires)

pub returns-then-s-to : goal.returns-then-s-to
returns-then-s-to c = c.loop-at.invariant.2

pub meet_line-requires : goal.meet_line-requires
meet_line-requires c =
    let loop = c.loop-at in
    let s = c.args.s.now in
    let to = c.line_end-to.ensures in
    record {
      under = under-here s loop.g loop.at loop.invariant.1 (omega arith) loop.invariant.0 (omega arith);
      mirrored = loop.invariant.2;
    }

pub next_heading-g-requires : goal.next_heading-g-requires
next_heading-g-requires c = (omega arith, omega arith)

pub loop-at-smaller : goal.loop-at-smaller
loop-at-smaller c =
    let loop = c.loop-at in
    let later = end_after c.args.s.now loop.at in
    let to = c.line_end-to.ensures in
    omega arith

pub loop-at-preserved : goal.loop-at-preserved
loop-at-preserved c =
    let loop = c.loop-at in
    let s = c.args.s.now in
    let to = c.line_end-to.ensures in
    let next = c.next_heading-g in
    (next.ensures.0, rw to (behind-on s loop.g loop.at loop.invariant.1 (omega arith) next.result next.ensures.1), c.meet_line.ensures)

pub returns : goal.returns
returns c = c.loop-at.invariant.2
