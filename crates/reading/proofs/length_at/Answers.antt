-- `length_at` meets its contract: it refuses where the number is not there or what it opens runs past the end, and gives that end else.
use mathlib.Core.Path.{refl}
use native.Mathlib.Omega.{arith}
use Rattle.reading.specs.Answer.{base_of}
use Rattle.reading.proofs.AtPlace.{length-past, length-far, length_got}
use Rattle.reading.proofs.length_at.Goals as goal

pub returns-then-room-lt2 : goal.returns-then-room-lt2
returns-then-room-lt2 c =
    let a = c.args in
    rw c.at.ensures (length-past a.s.now (base_of a.who) a.e a.p refl (omega arith))

pub returns-then-room-n : goal.returns-then-room-n
returns-then-room-n c =
    let a = c.args in
    rw c.at-then-room-n.ensures (length-far a.s.now (base_of a.who) a.e a.p refl c.number-n.ensures.0 (omega arith) (omega arith))

pub returns : goal.returns
returns c =
    let a = c.args in
    length_got a.s.now (base_of a.who) a.e a.p c.number-n.ensures.0 (omega arith)
