-- `lacks_mirror` meets its contract.
use mathlib.Core.Path.{sym, ◌∙◌}
use Rattle.tagged.specs.Lines.{lines_of}
use Rattle.terms.specs.Judging.{name_at, line_at}
use Rattle.terms.proofs.JudgeWays.{told-related}
use Rattle.terms.proofs.MirrorWays.{wants-has, wants-lacks}
use Rattle.terms.proofs.judge.Noted.lacks_mirror.Goals as goal

pub returns-then-is_met : goal.returns-then-is_met
returns-then-is_met c =
    let a = c.args in
    let s = a.s.now in
    let m = c.is_met.ensures c.if-is_met.true in
    wants-has (lines_of s) (name_at s a.h) (line_at s a.p) (rw (m.0, m.1) at (c.requires.mirrored a.k m.2))

pub returns-then-has_mirror : goal.returns-then-has_mirror
returns-then-has_mirror c =
    let a = c.args in
    let s = a.s.now in
    wants-has (lines_of s) (name_at s a.h) (line_at s a.p) (sym c.has_mirror.ensures ∙ c.if-has_mirror.true)

pub returns : goal.returns
returns c =
    let a = c.args in
    let s = a.s.now in
    wants-lacks (lines_of s) (name_at s a.h) (line_at s a.p) (told-related _ c.form_at.ensures c.in_default.not-Heading c.in_default.not-Other) (sym c.has_mirror.ensures ∙ c.if-has_mirror.false)
