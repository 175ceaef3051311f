-- `mix_of` meets its contract.
use native.Mathlib.Omega.{arith}
use Rattle.terms.proofs.judge.mix_of.Goals as goal

pub loop-i-init : goal.loop-i-init
loop-i-init c = omega arith

pub loop-i-preserved : goal.loop-i-preserved
loop-i-preserved c = omega arith

pub returns : goal.returns
returns c = omega arith
