-- `number` meets its contract: where the first byte is not there, neither is the second.
use native.Mathlib.Omega.{arith}
use Rattle.reading.proofs.AtPlace.{number-none}
use Rattle.reading.proofs.number.Goals as goal

pub returns-else-p-s : goal.returns-else-p-s
returns-else-p-s c =
    let a = c.args in
    (number-none a.s.now a.p c.if-p-s.false, omega arith)
