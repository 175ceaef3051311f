-- `put_record` meets its contract: length, symbol count, symbols and decisions stand one behind the other, and are the record.
use Prim.Native.Nat.{suc}
use native.Mathlib.Omega.{arith}
use Rattle.limits.specs.Sizes.{most_depth}
use Rattle.machine.specs.Answers.{symbols_from}
use Rattle.standing.proofs.HeldOnce.{one-heap, one_meaning}
use Rattle.standing.proofs.RecordRows.{record_written}
use Rattle.run.proofs.answers.put_record.Goals as goal

pub put_symbols-q-requires : goal.put_symbols-q-requires
put_symbols-q-requires c =
    let pre = c.requires in
    let one = c.put_two in
    let two = c.put_two-2 in
    (pre.0, pre.2, pre.4, omega (arith, pre.5, pre.6, pre.8, two.auto.bytes, one.auto.bytes))

pub put_decisions-requires : goal.put_decisions-requires
put_decisions-requires c =
    let pre = c.requires in
    let one = c.put_two in
    let two = c.put_two-2 in
    let three = c.put_symbols-q in
    (pre.1, pre.3, omega (arith, pre.5, pre.6, pre.8, (three.ensures pre.0 pre.2).0, three.auto.bytes, two.auto.bytes, one.auto.bytes))

pub returns : goal.returns
returns c =
    let a = c.args in
    let pre = c.requires in
    let row = symbols_from (suc most_depth) pre.0 a.root in
    let one = c.put_two in
    let two = c.put_two-2 in
    let three = c.put_symbols-q in
    let four = c.put_decisions in
    λ h sides held means. rw (one-heap held pre.2, one_meaning means pre.3)
    (record_written row pre.1 a.symbols a.size pre.5 pre.6 a.bytes.now a.p one.new.bytes two.new.bytes three.new.bytes four.new.bytes
    three.result pre.8 one.ensures two.ensures (three.ensures pre.0 pre.2) (four.ensures pre.1 pre.3))
