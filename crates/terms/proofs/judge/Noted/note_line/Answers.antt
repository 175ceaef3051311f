-- `note_line` is safe: what is noted is only a hint.
use native.Mathlib.Omega.{arith}
use Rattle.terms.proofs.JudgeWays.{end-within}
use Rattle.terms.proofs.judge.Noted.note_line.Goals as goal

pub key_of-key-requires : goal.key_of-key-requires
key_of-key-requires c =
    let a = c.args in
    let s = a.s.now in
    let p-end = c.line_end-p_end.ensures in
    let g_end = c.line_end-g_end.ensures in
    (omega (arith, p-end, end-within s a.p (omega arith)), omega (arith, g_end, end-within s a.g (omega arith)))
