-- What the loops of `put_rules` keep.
use Prim.Native.Nat.{◌-◌, ◌≤◌}
use Rattle.terms.specs.TermRows.{broader_rows}
use Rattle.listings.specs.Putting.{rules_laid}
use Rattle.listings.proofs.PutWays.{Left}
use Rattle.listings.proofs.write.Rows.put_rules.Given as goal

abbrev pub invariant-loop-x : goal.invariant-loop-x
invariant-loop-x l =
    (l.x ≤ l.self.n) × Left l.initial.room l.at (rules_laid l.above l.self.n (broader_rows l.self.from.now l.self.to.now l.self.n 0)) l.room l.p (rules_laid l.above l.self.n (broader_rows l.self.from.now l.self.to.now (l.self.n - l.x) l.x))
