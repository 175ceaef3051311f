-- `record_back` meets its contract: the symbols that the record counts are taken off.
use Prim.Native.Nat.{◌+◌, ◌*◌}
use native.Mathlib.Omega.{arith}
use Rattle.figures.proofs.Moved.{moved_back}
use Rattle.figures.proofs.back.record_back.Goals as goal

pub shape_of-totals : goal.shape_of-totals
shape_of-totals c = c.take_back.ensures.long

pub returns : goal.returns
returns c =
    let counted = c.number.ensures.0 in
    let part = c.part_of-symbols in
    let a = c.args in
    let back = moved_back a.books.now (a.p + 2 * a.version + 2) part.result.now part.ensures _ c.take_back.ensures in
    (omega (arith, c.number-2.ensures.0), rw (← counted) back)
