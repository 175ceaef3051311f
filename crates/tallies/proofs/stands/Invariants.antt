-- What the loop of `stands` keeps: f is looked for among the first i.
use Rattle.std.proofs.Common.{◌≡◌}
use Rattle.book.specs.TreeAt.{is_in}
use Rattle.tallies.specs.Tallied.{symbols_at}
use Rattle.tallies.proofs.stands.Given as goal

abbrev pub invariant-loop-i : goal.invariant-loop-i
invariant-loop-i l = is_in l.f (symbols_at l.symbols l.k 0) ≡ is_in l.f (symbols_at l.symbols l.i 0)
