-- What the loops of `fill` keep.
use Prim.Native.Nat.{◌+◌, ◌-◌, ◌≤◌}
use lib.ListN.{length}
use Rattle.terms.specs.Blocks.{Block, Begins, table_size}
use Rattle.terms.proofs.judge.Names.fill.Given as goal

abbrev pub invariant-loop-p : goal.invariant-loop-p
invariant-loop-p l = Begins l.s l.p l.n × Block l.s (l.line - 1) (l.n - 1) l.self.place l.self.before l.self.last l.count × (l.line ≤ l.n) × (l.count + l.at ≤ l.p) × (l.count ≤ table_size)

abbrev pub decreases-loop-p : goal.decreases-loop-p
decreases-loop-p l = length l.s - l.p
