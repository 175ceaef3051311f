-- `put_trees` meets its contract.
use native.Mathlib.Omega.{arith}
use Rattle.reading.specs.Bytes.{two_bytes}
use Rattle.terms.specs.TermRows.{broader_rows}
use Rattle.listings.proofs.WriteWays.{part-long, part-put}
use Rattle.listings.proofs.write.Rows.put_trees.Goals as goal

pub put_two-p-requires : goal.put_two-p-requires
unfolding two_bytes
put_two-p-requires c = (omega arith, omega arith)

pub put_rules-p-requires : goal.put_rules-p-requires
unfolding two_bytes
put_rules-p-requires c =
    let a = c.args in
    let pre = c.requires in
    let long = part-long a.self.n (broader_rows a.self.from.now a.self.to.now a.self.n 0) in
    (omega (arith, pre.0, pre.1, c.put_two-p.ensures.behind))

pub put_rules-requires : goal.put_rules-requires
unfolding two_bytes
put_rules-requires c =
    let a = c.args in
    let pre = c.requires in
    let long = part-long a.self.n (broader_rows a.self.from.now a.self.to.now a.self.n 0) in
    (omega (arith, pre.0, pre.1, c.put_two-p.ensures.behind, c.put_rules-p.ensures.behind))

pub returns : goal.returns
returns c =
    let a = c.args in
    let broader = broader_rows a.self.from.now a.self.to.now a.self.n 0 in
    part-put a.self.n broader c.put_two-p.ensures c.put_rules-p.ensures c.put_rules.ensures
