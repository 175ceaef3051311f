-- `known_at` meets its contract.
use mathlib.Core.Path.{sym}
use native.Mathlib.Omega.{arith}
use Rattle.terms.specs.Blocks.{table_size}
use Rattle.terms.proofs.JudgeWays.{end-within}
use Rattle.terms.proofs.TwiceChains.{asked, known_by}
use Rattle.terms.proofs.judge.Names.known_at.Goals as goal

pub hash_of-h-requires : goal.hash_of-h-requires
hash_of-h-requires c =
    let a = c.args in
    let to = c.line_end-to.ensures in
    let within = end-within a.s.now a.at (omega arith) in
    omega arith

pub in_table-requires : goal.in_table-requires
in_table-requires c =
    let a = c.args in
    let s = a.s.now in
    let to = c.line_end-to in
    let within = end-within s a.at (omega arith) in
    let sought = asked s a.self.now.place a.self.now.before a.self.now.last table_size c.requires.table a.at to.result c.hash_of-h.result to.ensures c.hash_of-h.ensures.0
    (omega arith) (omega (arith, to.ensures)) in
    record { inside = sought.0; chained = sought.1.0; same_hash = sought.1.1.0; bounds = sought.1.1.1 }

pub returns : goal.returns
returns c =
    let a = c.args in
    let s = a.s.now in
    let to = c.line_end-to in
    let h = c.hash_of-h in
    known_by s a.self.now.place a.self.now.before a.self.now.last c.requires.table a.at to.result h.result to.ensures h.ensures.0
    (sym c.in-Heading.ensures) c.in_table.result c.in_table.ensures
