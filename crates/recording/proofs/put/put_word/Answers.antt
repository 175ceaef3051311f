-- `put_word` meets its contract: the numbers of the lowest bits stand there, and w has the bits that are left.
use mathlib.Core.Path.{◌≡◌, ap, ◌∙◌}
use Prim.Native.Nat.{◌+◌, ◌-◌}
use native.Mathlib.Omega.{arith}
use Rattle.recording.specs.RecordContracts.{bits_from}
use Rattle.recording.proofs.RowBegun.{begun-none, begun-same, begun-one, begun_all}
use Rattle.recording.proofs.BitNumbers.{bits_none, next-set, next_unset}
use Rattle.recording.proofs.put.put_word.Goals as goal
use Rattle.recording.proofs.put.put_word.Goals.{then-w-eq1, else-w-eq1}

pub loop-i-init : goal.loop-i-init
loop-i-init c =
    let a = c.args in
    let all : 64 ≡ a.first + 64 - a.first = omega arith in
    rw (← all) (begun-none a.bytes.now a.from (bits_from a.first a.word 64))

pub returns-then-w-eq0 : goal.returns-then-w-eq0
returns-then-w-eq0 c =
    let loop = c.loop-i in
    let left = c.args.first + 64 - loop.i in
    let none_left = ap (λ w. bits_from loop.i w left) c.if-w-eq0.true ∙ bits_none loop.i left in
    λ fits. begun_all (loop.invariant fits) none_left

pub loop-i-preserved : goal.loop-i-preserved
loop-i-preserved c =
    let loop = c.loop-i in
    let end = c.args.first + 64 in
    λ fits. elim c.if-w-eq1.branch [
      | then-w-eq1 w ↦
          rw (w.bytes-is, w.p-is) (begun-one (loop.invariant fits) loop.i _ _ _ (next-set loop.i end loop.w (omega arith) w.if-w-eq1.true) w.put_two-p.ensures)
      | else-w-eq1 w ↦
          rw (w.bytes-is, w.p-is) (begun-same (loop.invariant fits) _ (next_unset loop.i end loop.w (omega arith) w.if-w-eq1.false))
    ]

pub returns : goal.returns
unfolding bits_from
returns c =
    let loop = c.loop-i in
    let none_left : c.args.first + 64 - loop.i ≡ 0 = omega arith in
    λ fits. begun_all (loop.invariant fits) (ap (bits_from loop.i loop.w) none_left)
