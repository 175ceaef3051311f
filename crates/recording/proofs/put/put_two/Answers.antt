-- `put_two` meets its contract: where there is room, its two stores are the two bytes of the number.
use native.Mathlib.Omega.{arith}
use lib.ListN.{length-set}
use mathlib.Core.Path.{refl}
use Rattle.recording.proofs.RowBegun.{number_stored}
use Rattle.recording.proofs.put.put_two.Goals as goal

pub returns-then-room-p : goal.returns-then-room-p
returns-then-room-p c = λ fits. absurd (omega arith)

pub returns-then-room-p-lt2 : goal.returns-then-room-p-lt2
returns-then-room-p-lt2 c = λ fits. absurd (omega arith)

pub bounds-bytes-p-2 : goal.bounds-bytes-p-2
bounds-bytes-p-2 c = simp length-set (omega arith)

pub returns : goal.returns
returns c =
    let a = c.args in
    λ fits. (refl, number_stored a.bytes.now a.p a.n fits)
