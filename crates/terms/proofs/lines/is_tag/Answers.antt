-- `is_tag` meets its contract: the first byte that differs decides.
use mathlib.Core.Path.{sym}
use native.Mathlib.Omega.{arith}
use Rattle.terms.proofs.TagWays.{tag_short, tag_1, tag_2, tag_3, tag_4, tag_5}
use Rattle.terms.proofs.lines.is_tag.Goals as goal

pub returns-then-to-at-lt5 : goal.returns-then-to-at-lt5
returns-then-to-at-lt5 c =
    let a = c.args in
    sym (tag_short a.s.now a.at a.to (omega arith) a.letter c.if-to-at-lt5.true)

pub returns-then-s-at-ne32 : goal.returns-then-s-at-ne32
returns-then-s-at-ne32 c =
    let a = c.args in
    sym (tag_1 a.s.now a.at a.to (omega arith) (omega arith) a.letter c.if-s-at-ne32.true)

pub returns-then-s-at-ne32-2 : goal.returns-then-s-at-ne32-2
returns-then-s-at-ne32-2 c =
    let a = c.args in
    sym (tag_2 a.s.now a.at a.to (omega arith) (omega arith) a.letter c.if-s-at-ne32.false c.if-s-at-ne32-2.true)

pub returns-then-s-at : goal.returns-then-s-at
returns-then-s-at c =
    let a = c.args in
    sym (tag_3 a.s.now a.at a.to (omega arith) (omega arith) a.letter c.if-s-at-ne32.false c.if-s-at-ne32-2.false c.if-s-at.true)

pub returns-then-s-at-ne84 : goal.returns-then-s-at-ne84
returns-then-s-at-ne84 c =
    let a = c.args in
    sym (tag_4 a.s.now a.at a.to (omega arith) (omega arith) a.letter c.if-s-at-ne32.false c.if-s-at-ne32-2.false c.if-s-at.false c.if-s-at-ne84.true)

pub returns : goal.returns
returns c =
    let a = c.args in
    sym (tag_5 a.s.now a.at a.to (omega arith) (omega arith) a.letter c.if-s-at-ne32.false c.if-s-at-ne32-2.false c.if-s-at.false c.if-s-at-ne84.false)
