-- `part_of` meets its contract: the code gives the empty part behind the end where there is none, and brings the end inside.
use Rattle.reading.proofs.AtPlace.{part-past, part_none, part_cut}
use Rattle.reading.proofs.part_of.Goals as goal

pub returns-then-n-from : goal.returns-then-n-from
returns-then-n-from c =
    let a = c.args in
    part-past a.s.now a.from a.to c.if-n-from.true

pub returns-then-to-from : goal.returns-then-to-from
returns-then-to-from c =
    let a = c.args in
    part_none a.s.now a.from a.to c.if-to-from.true

pub returns-then-n-to : goal.returns-then-n-to
returns-then-n-to c =
    let a = c.args in
    part_cut a.s.now a.from a.to c.if-n-to.true
