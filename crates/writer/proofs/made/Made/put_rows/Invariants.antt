-- What the loop of `put_rows` keeps.
use mathlib.Core.List.{map}
use mathlib.Core.Path.{◌≡◌}
use Prim.Native.Nat.{◌+◌}
use lib.ListN.{take}
use lib.Seq.{sets}
use Rattle.writer.specs.Layout.{byte_of}
use Rattle.writer.proofs.made.Made.put_rows.Given as goal

abbrev pub invariant-loop-n : goal.invariant-loop-n
invariant-loop-n l =
    let was = l.initial.self in
    (l.self.size ≡ was.size + l.n-index) × (l.self.bytes ≡ sets was.bytes was.size (take l.n-index (map byte_of l.rows)))
