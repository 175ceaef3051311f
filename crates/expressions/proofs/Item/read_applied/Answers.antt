-- `read_applied` meets its contract: it refuses where the number is not there, there is no such symbol or its sort is wrong.
use native.Mathlib.Omega.{arith}
use lib.ListN.{length}
use Rattle.reading.specs.Answer.{base_of}
use Rattle.expressions.proofs.Ways.{applied-past, applied_absent, applied-other, applied-got}
use Rattle.expressions.proofs.Item.read_applied.Goals as goal

pub returns-then-between-lt3 : goal.returns-then-between-lt3
returns-then-between-lt3 c =
    let a = c.args in
    let i = a.self.now in
    rw c.at.ensures (applied-past i.book.now i.at.now i.s.now (base_of i.who) (length i.s.now) a.sort a.p (omega arith))

pub returns-then-self-f : goal.returns-then-self-f
returns-then-self-f c =
    let a = c.args in
    let i = a.self.now in
    rw c.at-then-self-f.ensures (applied_absent i.book.now i.at.now i.s.now (base_of i.who) (length i.s.now) a.sort a.p
    c.number-f.ensures.0 (omega arith) c.if-self-f.true)

pub returns-then-sort_of-sort : goal.returns-then-sort_of-sort
returns-then-sort_of-sort c =
    let a = c.args in
    let i = a.self.now in
    rw c.at-then-sort_of-sort.ensures (applied-other i.book.now i.at.now i.s.now (base_of i.who) (length i.s.now) a.sort a.p
    c.number-f.ensures.0 (omega arith) c.sort_of.ensures c.if-self-f.false c.if-sort_of-sort.true)

pub returns : goal.returns
returns c =
    let a = c.args in
    let i = a.self.now in
    applied-got i.book.now i.at.now i.s.now (base_of i.who) (length i.s.now) a.sort a.p
    c.number-f.ensures.0 (omega arith) c.sort_of.ensures c.if-self-f.false c.if-sort_of-sort.false
