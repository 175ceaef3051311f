-- `is_name` meets its contract.
use mathlib.Core.Path.{sym, ◌∙◌}
use native.Mathlib.Omega.{arith}
use Rattle.terms.proofs.NameWays.{name-none, name-space, name-printed}
use Rattle.terms.proofs.lines.is_name.Goals as goal

pub returns-then-to-from : goal.returns-then-to-from
returns-then-to-from c =
    let a = c.args in
    sym (name-none a.s.now a.from a.to c.if-to-from.true)

pub returns-then-s-from-eq32 : goal.returns-then-s-from-eq32
returns-then-s-from-eq32 c =
    let a = c.args in
    sym (name-space a.s.now a.from a.to (omega arith) (omega arith) c.if-s-from-eq32.true)

pub returns : goal.returns
returns c =
    let a = c.args in
    c.is_printed.ensures ∙ sym (name-printed a.s.now a.from a.to (omega arith) (omega arith) c.if-s-from-eq32.false)
