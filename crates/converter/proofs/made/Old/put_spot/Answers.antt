-- `put_spot` meets its contract, by the code that stands at p.
use mathlib.Core.Path.{sym, ◌∙◌}
use Prim.Native.Nat.{◌+◌}
use native.Mathlib.Omega.{arith}
use Rattle.converter.proofs.ScanWays.{part-short, exempt-put, rule-put, branch-put}
use Rattle.converter.proofs.made.Old.put_spot.Goals as goal

pub returns-in-0 : goal.returns-in-0
returns-in-0 c =
    let a = c.args in
    exempt-put a.self.book.now a.self.ends.now a.p a.made.now.bytes a.made.now.size (sym c.byte.ensures ∙ c.in-0.is) c.put_byte.ensures c.put_byte-in-0.ensures

pub put_part-requires : goal.put_part-requires
put_part-requires c =
    let a = c.args in
    let rule = c.part_of-rule.ensures in
    (omega arith, rw rule (omega (arith, part-short a.self.book.now (a.p + 1) c.end_of.result)))

pub returns-in-1 : goal.returns-in-1
returns-in-1 c =
    let a = c.args in
    let rule = rw c.end_of.ensures at c.part_of-rule.ensures in
    rule-put a.self.book.now a.self.ends.now a.p a.made.now.bytes a.made.now.size _ (sym c.byte.ensures ∙ c.in-1.is) rule c.put_byte-in-1.ensures c.put_part.ensures

pub returns-in_default : goal.returns-in_default
returns-in_default c =
    let a = c.args in
    branch-put a.self.book.now a.self.ends.now a.p a.made.now.bytes a.made.now.size (λ is. omega arith) (λ is. omega arith)
    c.byte-in_default.ensures c.put_byte-in_default.ensures c.put_byte-in_default-2.ensures
