-- `mark_met` meets its contract: what is said stays so, and once a pass changes nothing it is all.
use mathlib.Core.Path.{refl, ◌∙◌}
use native.Mathlib.Omega.{arith}
use Rattle.judging.specs.Judged.{symbols_of, heap_of}
use Rattle.judging.proofs.Meeting.{all-met}
use Rattle.judging.proofs.lent.Judged.mark_met.Goals as goal

pub loop-init : goal.loop-init
loop-init c = (refl, c.hand_all.ensures.says)

pub met_pass-requires : goal.met_pass-requires
met_pass-requires c = let l = c.loop in
    (omega (arith, l.invariant.0, c.hand_all.ensures.long, c.requires.0), l.invariant.1)

pub loop-smaller : goal.loop-smaller
loop-smaller c = c.met_pass.ensures.fewer c.loop-test.true

pub loop-preserved : goal.loop-preserved
loop-preserved c = let p = c.met_pass.ensures in (p.long ∙ c.loop.invariant.0, p.says)

pub returns : goal.returns
returns c = let j = c.args.self in
    let p = c.met_pass in
    all-met (symbols_of j) (heap_of j) p.new.met p.ensures.says (p.ensures.closed c.loop-test.false)
