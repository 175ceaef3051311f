-- `put_item` meets its contract: the bytes of the row are put first, then their length in front of them.
use mathlib.Core.List.{◌++◌}
use mathlib.Core.Path.{◌≡◌}
use Prim.Native.Nat.{◌<◌}
use native.Mathlib.Omega.{arith}
use Rattle.reading.specs.Bytes.{two_bytes}
use Rattle.writer.specs.Layout.{tree_row_bytes, item_bytes}
use Rattle.writer.proofs.Putting.{front-put}
use Rattle.writer.proofs.Splitting.{row}
use Rattle.writer.proofs.Leftover.{item-missing, item-whole, item-length}
use Rattle.writer.proofs.made.Made.put_item.Goals as goal
use Rattle.writer.proofs.made.Made.put_item.Goals.{then-row-n, else-row-n}

pub returns : goal.returns
returns c =
    let a = c.args in
    let was = a.self.now in
    let arities = a.arities.now in
    let its = row a.n a.row.now in
    let joined = c.if-row-n in
    let said = joined.length in
    let put = c.put_numbers.ensures in
    record {
      put = record {
        size = omega (arith, put.put.size, item-length arities its);
        bytes = λ fits.
            let is : (item_bytes arities its ≡ two_bytes said ++ tree_row_bytes arities a.row.now) × (said < 65536) =
            elim joined.branch [
              | then-row-n w ↦ (item-missing arities its said w.if-row-n.true w.length-is, omega arith)
              | else-row-n w ↦ (item-whole arities its said w.if-row-n.false (omega (arith, put.put.size)), omega (arith, put.put.size))
            ] in
            rw is.0 (front-put was.bytes was.size said (tree_row_bytes arities a.row.now) _ _ put.put.bytes (c.put_two.ensures.number is.1));
      };
      near = omega (arith, put.near);
    }
