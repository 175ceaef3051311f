-- `hash_of` meets its contract.
use mathlib.Core.Path.{ap, sym, ◌∙◌}
use Prim.Native.Nat.{◌%◌}
use native.Mathlib.Omega.{arith}
use Rattle.terms.specs.Blocks.{hash_of}
use Rattle.terms.proofs.TwiceChains.{hash_more, hash_none}
use Rattle.terms.proofs.judge.hash_of.Goals as goal

pub loop-i-preserved : goal.loop-i-preserved
loop-i-preserved c =
    let loop = c.loop-i in
    let a = c.args in
    let w = c.from.ensures in
    (omega arith, rw w (loop.invariant.1 ∙ hash_more a.s.now loop.h loop.i a.until (omega arith) (omega arith)))

pub returns : goal.returns
unfolding hash_of
returns c =
    let loop = c.loop-i in
    let a = c.args in
    (ap (λ n. n % 8192) (sym (loop.invariant.1 ∙ hash_none a.s.now loop.h loop.i a.until (omega arith))), omega arith)
