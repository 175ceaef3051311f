-- `hand_all` meets its contract: what is said stays so, and no more is left to change.
use native.Mathlib.Omega.{arith}
use Rattle.judging.specs.Judged.{symbols_of, heap_of}
use Rattle.judging.proofs.Meeting.{more-first, more-on}
use Rattle.judging.proofs.lent.Judged.hand_all.Goals as goal

pub loop-init : goal.loop-init
loop-init c = let j = c.args.self in more-first (symbols_of j) (heap_of j) c.args.met.now c.requires.1

pub step-requires : goal.step-requires
step-requires c = let l = c.loop.invariant in (omega (arith, l.long, c.requires.0), l.says)

pub loop-preserved : goal.loop-preserved
loop-preserved c = more-on c.loop.invariant c.step.ensures
