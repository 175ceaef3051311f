-- What the loop of `tally` keeps: after i turns the other symbols are left.
use Rattle.std.proofs.Common.{[], ◌-◌, ◌*◌}
use Rattle.tallies.specs.Tallied.{tallied}
use Rattle.tallies.proofs.TallyWays.{Left}
use Rattle.tallies.proofs.tally.Given as goal

abbrev pub invariant-loop-i : goal.invariant-loop-i
invariant-loop-i l = Left l.symbols l.initial.totals 0 (tallied l.symbols l.initial.totals [] l.count 0) l.i (l.count - l.i) (2 * l.i) l.totals
