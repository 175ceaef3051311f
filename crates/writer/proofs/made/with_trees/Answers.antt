-- `with_trees` meets its contract: the trees are put behind the front, and the bytes are judged.
use mathlib.Core.List.{◌++◌}
use mathlib.Core.Path.{sym, ap, ◌∙◌}
use Prim.Native.Nat.{◌≤◌}
use native.Mathlib.Omega.{arith}
use Rattle.std.proofs.Common.{length-take-le}
use lib.ListN.{length, take}
use lib.Seq.{length-sets}
use Rattle.reading.specs.Answer.{reading_of}
use Rattle.writer.specs.Layout.{tree_part_bytes}
use Rattle.writer.specs.Write.{made}
use Rattle.writer.proofs.Making.{tree-part-long, whole_long, whole-put, too_large_lem, at_fault, admitted}
use Rattle.writer.proofs.made.with_trees.Goals as goal

pub returns-then-trees-gt-BOOK : goal.returns-then-trees-gt-BOOK
returns-then-trees-gt-BOOK c =
    let a = c.args in
    let trees = tree_part_bytes a.arities.now a.trees.now in
    let large = tree-part-long a.arities.now a.trees.now in
    too_large_lem a.count (take a.made.size a.made.bytes ++ trees) (omega (arith, whole_long a.made.bytes a.made.size trees (omega arith)))

pub returns-then-size-gt-BOOK : goal.returns-then-size-gt-BOOK
returns-then-size-gt-BOOK c =
    let a = c.args in
    let trees = tree_part_bytes a.arities.now a.trees.now in
    too_large_lem a.count (take a.made.size a.made.bytes ++ trees) (omega (arith, c.put_trees.ensures.size, whole_long a.made.bytes a.made.size trees (omega arith)))

pub slice_bounds-index_book-end : goal.slice_bounds-index_book-end
slice_bounds-index_book-end c =
    let a = c.args in
    let put = ap length (c.put_trees.ensures.bytes (omega arith)) in
    let long = length-sets a.made.bytes a.made.size (tree_part_bytes a.arities.now a.trees.now) in
    sym (length-take-le c.put_trees.new.self.size c.put_trees.new.self.bytes (omega (arith, put, long)))

pub slice_bounds-rows_read-end : goal.slice_bounds-rows_read-end
slice_bounds-rows_read-end c =
    let a = c.args in
    let put = ap length (c.put_trees.ensures.bytes (omega arith)) in
    let long = length-sets a.made.bytes a.made.size (tree_part_bytes a.arities.now a.trees.now) in
    sym (length-take-le c.put_trees.new.self.size c.put_trees.new.self.bytes (omega (arith, put, long)))

pub returns-in-Err : goal.returns-in-Err
returns-in-Err c =
    let a = c.args in
    let trees = tree_part_bytes a.arities.now a.trees.now in
    let put = c.put_trees.ensures in
    let whole = take a.made.size a.made.bytes ++ trees in
    let small : length whole ≤ 32768 = omega (arith, put.size, whole_long a.made.bytes a.made.size trees (omega arith)) in
    let there = whole-put a.made.bytes a.made.size trees (omega arith) c.put_trees.new.self.bytes c.put_trees.new.self.size put.size (omega arith) (put.bytes (omega arith)) in
    at_fault a.count whole small (ap reading_of (sym c.in-Err.is) ∙ (rw there at c.index_book-index.ensures).0) (rw there at c.rows_read.ensures.0)

pub returns-in-Ok : goal.returns-in-Ok
returns-in-Ok c =
    let a = c.args in
    let trees = tree_part_bytes a.arities.now a.trees.now in
    let put = c.put_trees.ensures in
    let whole = take a.made.size a.made.bytes ++ trees in
    let small : length whole ≤ 32768 = omega (arith, put.size, whole_long a.made.bytes a.made.size trees (omega arith)) in
    let there = whole-put a.made.bytes a.made.size trees (omega arith) c.put_trees.new.self.bytes c.put_trees.new.self.size put.size (omega arith) (put.bytes (omega arith)) in
    let reading = ap reading_of (sym c.in-Ok.is) ∙ (rw there at c.index_book-index.ensures).0 in
    (ap made there ∙ admitted a.count whole small reading, omega (arith, ap length (put.bytes (omega arith)), length-sets a.made.bytes a.made.size trees))
