-- `put_decisions` meets its contract: after i turns the numbers of the first i words' choices stand there.
use native.Mathlib.Omega.{arith}
use Rattle.machine.specs.Answers.{decision_numbers}
use Rattle.standing.proofs.DecidedNumbers.{numbers-count}
use Rattle.recording.proofs.RowBegun.{begun-none, begun_more, begun_all}
use Rattle.recording.proofs.BitNumbers.{word_next, words-end}
use Rattle.recording.proofs.put.put_decisions.Goals as goal

pub loop-i-init : goal.loop-i-init
loop-i-init c =
    let a = c.args in
    λ sides means fits. begun-none a.bytes.now a.from (decision_numbers 0 sides) (omega (arith, numbers-count 0 sides))

pub loop-i-preserved : goal.loop-i-preserved
loop-i-preserved c =
    let loop = c.loop-i in
    λ sides means fits. begun_more (loop.invariant sides means fits) _ _ _ _ (word_next means loop.i (omega arith)) c.put_word-p.ensures

pub returns : goal.returns
returns c =
    let loop = c.loop-i in
    λ sides means fits. (begun_all (loop.invariant sides means fits) (words-end means loop.i (omega arith))).1
