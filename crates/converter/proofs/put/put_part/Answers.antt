-- `put_part` meets its contract: after i turns the first i bytes are put.
use mathlib.Core.Path.{refl, ◌∙◌}
use native.Mathlib.Omega.{arith}
use Rattle.writer.proofs.Making.{put-more, put_all}
use Rattle.converter.proofs.put.put_part.Goals as goal

pub loop-i-preserved : goal.loop-i-preserved
loop-i-preserved c =
    let a = c.args in
    let turn = c.loop-i in
    c.put_byte.ensures ∙ put-more a.made.now a.from.now turn.made a.q turn.i turn.invariant _ 0 (omega arith) refl

pub returns : goal.returns
returns c =
    let a = c.args in
    let turn = c.loop-i in
    put_all a.made.now a.from.now turn.made a.q turn.i turn.invariant (omega arith)
