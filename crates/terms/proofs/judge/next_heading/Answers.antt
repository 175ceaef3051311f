-- `next_heading` meets its contract.
use mathlib.Core.Path.{sym}
use native.Mathlib.Omega.{arith}
use Rattle.terms.specs.Judging.{name_at, line_at}
use Rattle.terms.proofs.JudgeWays.{told-not-1, heading-next, heading_stays, spaced}
use Rattle.terms.proofs.judge.next_heading.Goals as goal

pub returns-then-s-at-eq32 : goal.returns-then-s-at-eq32
returns-then-s-at-eq32 c =
    let a = c.args in
    (omega arith, heading_stays (name_at a.s.now a.g) (line_at a.s.now a.at) (spaced a.s.now a.at c.if-at-s.true c.if-s-at-eq32.true))

pub returns-in-Heading : goal.returns-in-Heading
returns-in-Heading c =
    let a = c.args in
    (omega arith, heading-next (name_at a.s.now a.g) (name_at a.s.now a.at) (sym c.in-Heading.ensures))

pub returns-in_default : goal.returns-in_default
returns-in_default c =
    let a = c.args in
    (omega arith, heading_stays (name_at a.s.now a.g) (line_at a.s.now a.at) (told-not-1 _ c.form_at.ensures c.in_default.not-Heading))
