-- `judged` meets its contract: the three walks together are the definition's one.
use mathlib.Core.Path.{refl, sym, ap, ◌∙◌}
use Prim.Native.Nat.{◌+◌, ◌≤◌}
use native.Mathlib.Omega.{arith}
use lib.ListN.{length}
use Rattle.std.specs.Prelude.{is_none}
use Rattle.tagged.specs.Lines.{lines_of}
use Rattle.tagged.specs.Listing.{headings_of}
use Rattle.terms.proofs.JudgeWhole.{rows-many, lines_few, good-most, whole, judge-empty, judge-twice, judge-bad, judge_unmirrored, judge-good}
use Rattle.terms.proofs.TwicePairs.{line-zero, line-never, line-is}
use Rattle.terms.proofs.judge.judged.Goals as goal

pub returns-then-s-eq0 : goal.returns-then-s-eq0
returns-then-s-eq0 c =
    rw c.at.ensures (rw (judge-empty c.args.s.now c.if-s-eq0.true) (refl, refl))

pub returns-in-Some : goal.returns-in-Some
returns-in-Some c =
    let s = c.args.s.now in
    let told = line-is _ _ (rw c.forms_of-f.ensures.good at c.in-Some.ensures) in
    rw c.at-in-Some.ensures (rw (judge-twice s c.if-s-eq0.false told.1) (refl, told.0))

pub overflow_add-f : goal.overflow_add-f
overflow_add-f c =
    let s = c.args.s.now in
    let f = c.forms_of-f.ensures in
    let fits : c.forms_of-f.result.lines + 1 ≤ length s + 2 = omega (arith, f.good, good-most 0 (lines_of s), lines_few s) in
    omega arith

pub returns-in-Some-first_unmirrored : goal.returns-in-Some-first_unmirrored
returns-in-Some-first_unmirrored c =
    let s = c.args.s.now in
    let f = c.forms_of-f.ensures in
    let once = line-never _ _ (rw f.good at c.first_twice.ensures) c.in_default.not-Some in
    let told = line-is _ _ c.in-Some-first_unmirrored.ensures in
    rw c.at-in-Some-first_unmirrored.ensures (rw (judge_unmirrored s c.if-s-eq0.false once (sym f.bad ∙ ap is_none c.in-Some-headings.is) told.1) (refl, told.0))

pub returns-in-None-first_unmirrored : goal.returns-in-None-first_unmirrored
returns-in-None-first_unmirrored c =
    let s = c.args.s.now in
    let f = c.forms_of-f.ensures in
    let once = line-never _ _ (rw f.good at c.first_twice.ensures) c.in_default.not-Some in
    let is = c.in-Some-headings.is in
    rw (judge-good s c.if-s-eq0.false once (sym f.bad ∙ ap is_none is) (line-zero _ c.in-None-first_unmirrored.ensures))
    (f.headings _ is ∙ sym (rows-many (whole s c.if-s-eq0.false) (length (headings_of (lines_of s))) 0))

pub returns-in-None : goal.returns-in-None
returns-in-None c =
    let s = c.args.s.now in
    let f = c.forms_of-f.ensures in
    let once = line-never _ _ (rw f.good at c.first_twice.ensures) c.in_default.not-Some in
    rw c.at-in-None.ensures (rw (judge-bad s c.if-s-eq0.false once (sym f.bad ∙ ap is_none c.in-None.is)) (refl, omega (arith, f.good)))
