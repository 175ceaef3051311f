-- What the loop of `put_numbers` keeps.
use mathlib.Core.Path.{◌≡◌}
use Prim.Native.Nat.{◌+◌, ◌*◌, ◌≤◌}
use lib.ListN.{length, drop}
use lib.Seq.{sets}
use Rattle.writer.specs.Layout.{numbers_bytes, tree_row_bytes}
use Rattle.writer.specs.InCode.{due_by}
use Rattle.writer.proofs.made.Made.put_numbers.Given as goal

abbrev pub invariant-loop-n : goal.invariant-loop-n
invariant-loop-n l =
    let i = l.n-index in
    let was = l.initial.self in
    let all = tree_row_bytes l.arities l.row in
    let rest = numbers_bytes l.arities (due_by l.d) (drop i l.row) in
    (l.d.expressions ≤ 255 * i) × (l.self.size ≤ was.size + 2 * i) × (l.self.size + length rest ≡ was.size + length all) × (sets l.self.bytes l.self.size rest ≡ sets was.bytes was.size all)
