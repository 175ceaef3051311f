-- `put_trees` meets its contract: the bytes of the rows are put first, then their length in front of them.
use mathlib.Core.Path.{◌≡◌}
use Prim.Native.Nat.{◌+◌, ◌-◌}
use native.Mathlib.Omega.{arith}
use lib.ListN.{length}
use Rattle.writer.specs.Rows.{rows_in}
use Rattle.writer.specs.Layout.{items_bytes, part_bytes, tree_part_bytes}
use Rattle.writer.proofs.Putting.{front-put, front_length}
use Rattle.writer.proofs.made.Made.put_trees.Goals as goal

pub returns : goal.returns
unfolding tree_part_bytes part_bytes
returns c =
    let a = c.args in
    let was = a.self.now in
    let bytes = items_bytes a.arities.now (rows_in a.rows.now) in
    let put = c.put_items.ensures in
    let said : c.put_items.new.self.size - (was.size + 2) ≡ length bytes = omega (arith, put.size) in
    record {
      size = omega (arith, put.size, front_length (length bytes) bytes);
      bytes = λ fits. front-put was.bytes was.size (length bytes) bytes _ _ (put.bytes fits) (rw said at (c.put_two.ensures.number (omega (arith, put.size))));
    }
