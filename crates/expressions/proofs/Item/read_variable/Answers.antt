-- `read_variable` meets its contract: it refuses where the byte is not there, the variable is not bound or its sort is wrong.
use native.Mathlib.Omega.{arith}
use lib.ListN.{length}
use Rattle.reading.specs.Answer.{base_of}
use Rattle.expressions.proofs.Ways.{variable-past, variable_unbound, variable-other, variable-got}
use Rattle.expressions.proofs.Item.read_variable.Goals as goal

pub returns-then-between-lt2 : goal.returns-then-between-lt2
returns-then-between-lt2 c =
    let a = c.args in
    let i = a.self.now in
    rw c.at.ensures (variable-past i.s.now (base_of i.who) (length i.s.now) a.vars.now a.sort a.left a.p (omega arith))

pub returns-then-vars-x : goal.returns-then-vars-x
returns-then-vars-x c =
    let a = c.args in
    let i = a.self.now in
    rw c.at-then-vars-x.ensures (variable_unbound i.s.now (base_of i.who) (length i.s.now) a.vars.now a.sort a.left a.p
    c.wide_byte-x.ensures.0 (omega arith) c.if-vars-x.true)

pub returns-then-vars-x-2 : goal.returns-then-vars-x-2
returns-then-vars-x-2 c =
    let a = c.args in
    let i = a.self.now in
    rw c.at-then-vars-x-2.ensures (variable-other i.s.now (base_of i.who) (length i.s.now) a.vars.now a.sort a.left a.p
    c.wide_byte-x.ensures.0 (omega arith) c.if-vars-x.false c.if-vars-x-2.true)

pub returns : goal.returns
returns c =
    let a = c.args in
    let i = a.self.now in
    variable-got i.s.now (base_of i.who) (length i.s.now) a.vars.now a.sort a.left a.p
    c.wide_byte-x.ensures.0 (omega arith) c.if-vars-x.false c.if-vars-x-2.false
