-- `read_whole` meets its contract: the reader of an expression over the part up to the item's end, with all nodes left.
use Prim.Native.Nat.{◌-◌}
use native.Mathlib.Omega.{arith}
use lib.ListN.{length}
use Rattle.expressions.specs.ExpressionAt.{whole_at}
use Rattle.expressions.proofs.read_whole.Goals as goal

pub returns : goal.returns
unfolding whole_at
returns c =
    let s = c.part-s.result.now in
    simp c.part-s.ensures at (c.read_expr.ensures (length s - c.args.p) (omega arith))
