-- `put_numbers` meets its contract: what was put, with what the numbers from i on will be, are the bytes of the row.
use mathlib.Core.List.{◌++◌}
use mathlib.Core.Path.{◌≡◌, refl, ap, ◌∙◌}
use Prim.Native.Nat.{◌+◌}
use native.Mathlib.Omega.{arith}
use lib.ListN.{length, get_or, drop}
use Rattle.writer.specs.Layout.{number_bytes, numbers_bytes, tree_row_bytes}
use Rattle.writer.specs.InCode.{next_by, due_by}
use Rattle.writer.proofs.Putting.{left-length, left-put}
use Rattle.writer.proofs.Leftover.{numbers-one, numbers-none}
use Rattle.writer.proofs.made.Made.put_numbers.Goals as goal

pub loop-n-init : goal.loop-n-init
unfolding tree_row_bytes
loop-n-init c = (omega arith, omega arith, refl, refl)

pub loop-n-preserved : goal.loop-n-preserved
loop-n-preserved c =
    let a = c.args in
    let l = c.loop-n in
    let i = l.n-index in
    let n = get_or a.row.now i 0 in
    let now = number_bytes (next_by l.d.next) n in
    let then = numbers_bytes a.arities.now (due_by c.behind-d.result) (drop (i + 1) a.row.now) in
    let split : numbers_bytes a.arities.now (due_by l.d) (drop i a.row.now) ≡ now ++ then =
    numbers-one a.arities.now (due_by l.d) a.row.now i (omega arith) ∙ rw c.behind-d.ensures.0 in
    let put = c.put_number.ensures in (
      omega (arith, c.behind-d.ensures.1),
      omega (arith, put.near),
      omega (arith, put.put.size, left-length _ now then split),
      left-put _ now then split l.self.bytes l.self.size _ _ put.put.bytes put.put.size ∙ l.invariant.3,
    )

pub returns : goal.returns
returns c =
    let a = c.args in
    let l = c.loop-n in
    let none = numbers-none a.arities.now (due_by l.d) a.row.now l.n-index (omega arith) in
    record { put = record { size = omega (arith, ap length none); bytes = rw none at l.invariant.3 }; near = omega arith }
