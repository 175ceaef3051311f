-- What the loop of `put_word` keep.
use Prim.Native.Nat.{◌+◌, ◌-◌, ◌*◌, ◌≤◌}
use lib.ListN.{length}
use Rattle.recording.specs.RecordContracts.{bits_from}
use Rattle.recording.proofs.RowBegun.{Begun}
use Rattle.recording.proofs.put.put_word.Given as goal

abbrev pub invariant-loop-i : goal.invariant-loop-i
invariant-loop-i l =
    l.from + 2 * length (bits_from l.first l.word 64) ≤ length l.initial.bytes
    → Begun l.initial.bytes l.from (bits_from l.first l.word 64) l.bytes l.p (bits_from l.i l.w (l.first + 64 - l.i))
