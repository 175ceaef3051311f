-- `first_unmirrored` meets its contract: the lines passed have their mirrors, and those still to come decide.
use mathlib.Core.Path.{sym, ap, ◌∙◌}
use Prim.Native.Nat.{ℕ, ◌+◌, ◌≤◌}
use native.Mathlib.Omega.{arith}
use borrow.Author.Rules.{rules}
use lib.ListN.{length, replicate}
use Rattle.tagged.specs.Lines.{lines_of}
use Rattle.terms.specs.Judging.{line_told, unmirrored_from, name_at, line_at}
use Rattle.terms.proofs.LineWays.{end_after, line-at, line-cut-at, lines_past}
use Rattle.terms.proofs.JudgeWays.{name-past}
use Rattle.terms.proofs.MirrorWays.{unmirrored_here, unmirrored_later, unmirrored_none, unmirrored_cut, unmirrored_all}
use Rattle.terms.proofs.MeetWays.{met_start}
use Rattle.terms.proofs.TwicePairs.{line-some}
use Rattle.terms.proofs.judge.first_unmirrored.Goals as goal

pub loop-at-init : goal.loop-at-init
loop-at-init c =
    let s = c.args.s.now in
    let zeros = replicate {A = ℕ} 8192 0 in
    (omega arith, omega arith, omega arith, rw (name-past s) (unmirrored_all s), met_start s zeros zeros, omega arith)

pub returns-then-s-to : goal.returns-then-s-to
returns-then-s-to c =
    let loop = c.loop-at in
    let s = c.args.s.now in
    let to = c.line_end-to.ensures in
    let rest = ap (unmirrored_from (lines_of s) (name_at s loop.h) loop.line) (line-cut-at s loop.at (omega arith) (omega arith)) in
    ap line_told (sym (loop.invariant.3 ∙ rest ∙ unmirrored_cut (lines_of s) (name_at s loop.h) loop.line))

pub entry_at-e-requires : goal.entry_at-e-requires
entry_at-e-requires c = record { places = (omega arith, omega arith); mirrored = c.loop-at.invariant.4 }

pub lacks_mirror-requires : goal.lacks_mirror-requires
lacks_mirror-requires c = record { places = (omega arith, omega arith); mirrored = c.entry_at-e.ensures.mirrored }

pub returns-then-lacks_mirror : goal.returns-then-lacks_mirror
returns-then-lacks_mirror c =
    let loop = c.loop-at in
    let s = c.args.s.now in
    let to = c.line_end-to.ensures in
    let is = sym c.lacks_mirror.ensures ∙ c.if-lacks_mirror.true in
    let rest = ap (unmirrored_from (lines_of s) (name_at s loop.h) loop.line) (line-at s loop.at (omega arith)) in
    line-some loop.line loop.invariant.5
    ∙ ap line_told (sym (loop.invariant.3 ∙ rest ∙ unmirrored_here (lines_of s) (name_at s loop.h) loop.line (line_at s loop.at) _ is))

pub next_heading-h-requires : goal.next_heading-h-requires
next_heading-h-requires c = (omega arith, omega arith)

pub overflow_add-line : goal.overflow_add-line
overflow_add-line c =
    let loop = c.loop-at in
    let fits : loop.line + 1 ≤ length c.args.s.now + 1 = omega (arith, loop.invariant.1) in
    search rules

pub overflow_add-k : goal.overflow_add-k
overflow_add-k c =
    let loop = c.loop-at in
    let e = c.entry_at-e in
    let fits : e.result + 1 ≤ length c.args.s.now + 1 = omega (arith, loop.invariant.2, e.ensures.low) in
    search rules

pub loop-at-smaller : goal.loop-at-smaller
loop-at-smaller c =
    let loop = c.loop-at in
    let later = end_after c.args.s.now loop.at in
    let to = c.line_end-to.ensures in
    omega arith

pub loop-at-preserved : goal.loop-at-preserved
loop-at-preserved c =
    let loop = c.loop-at in
    let s = c.args.s.now in
    let later = end_after s loop.at in
    let to = c.line_end-to.ensures in
    let e = c.entry_at-e.ensures in
    let is = sym c.lacks_mirror.ensures ∙ c.if-lacks_mirror.false in
    let next = c.next_heading-h.ensures in
    let here = loop.invariant.3 ∙ ap (unmirrored_from (lines_of s) (name_at s loop.h) loop.line) (line-at s loop.at (omega arith)) in (
      next.0,
      omega (arith, loop.invariant.1),
      omega (arith, loop.invariant.2, e.low),
      rw (to, next.1) (here ∙ unmirrored_later (lines_of s) (name_at s loop.h) loop.line (line_at s loop.at) _ is),
      e.mirrored,
      omega arith,
    )

pub returns : goal.returns
returns c =
    let loop = c.loop-at in
    let s = c.args.s.now in
    let rest = ap (unmirrored_from (lines_of s) (name_at s loop.h) loop.line) (lines_past s loop.at (omega arith)) in
    ap line_told (sym (loop.invariant.3 ∙ rest ∙ unmirrored_none (lines_of s) (name_at s loop.h) loop.line))
