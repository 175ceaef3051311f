-- `form_at` meets its contract.
use native.Mathlib.Omega.{arith}
use Rattle.terms.specs.Judging.{name_at}
use Rattle.terms.proofs.LineWays.{end_after}
use Rattle.terms.proofs.JudgeWays.{end-within, kind-told}
use Rattle.terms.proofs.judge.form_at.Goals as goal

pub form_of-requires : goal.form_of-requires
form_of-requires c =
    let a = c.args in
    let s = a.s.now in
    let to = c.line_end.ensures in
    let later = end_after s a.at in
    let within = end-within s a.at (omega arith) in
    (omega arith, omega arith)

pub returns : goal.returns
returns c = kind-told c.form_of.result (name_at c.args.s.now c.args.at) (rw c.line_end.ensures at c.form_of.ensures)
