-- `byte_at` meets its contract: it refuses where the place is not before the end, and gives the byte else.
use mathlib.Core.Path.{refl}
use Rattle.reading.specs.Answer.{base_of}
use Rattle.reading.proofs.AtPlace.{byte_past, byte_got}
use Rattle.reading.proofs.byte_at.Goals as goal

pub returns-then-e-p : goal.returns-then-e-p
returns-then-e-p c =
    let a = c.args in
    rw c.at.ensures (byte_past a.s.now (base_of a.who) a.e a.p refl c.if-e-p.true)

pub returns : goal.returns
returns c =
    let a = c.args in
    byte_got a.s.now (base_of a.who) a.e a.p c.wide_byte.ensures.0 c.if-e-p.false
