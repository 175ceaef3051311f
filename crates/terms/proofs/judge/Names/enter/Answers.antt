-- `enter` meets its contract.
use mathlib.Core.Path.{sym}
use native.Mathlib.Omega.{arith}
use Rattle.terms.proofs.JudgeWays.{end-within}
use Rattle.terms.proofs.TwiceChains.{asked, entered_given, entered_new}
use Rattle.terms.proofs.judge.Names.enter.Goals as goal

pub hash_of-h-requires : goal.hash_of-h-requires
hash_of-h-requires c =
    let a = c.args in
    let to = c.line_end-to.ensures in
    let within = end-within a.s.now a.at (omega arith) in
    omega arith

pub in_table-requires : goal.in_table-requires
in_table-requires c =
    let a = c.args in
    let s = a.s.now in
    let to = c.line_end-to in
    let within = end-within s a.at (omega arith) in
    let sought = asked s a.self.now.place a.self.now.before a.self.now.last a.count c.requires.table a.at to.result c.hash_of-h.result to.ensures c.hash_of-h.ensures.0
    (omega (arith, c.requires.bounds)) (omega (arith, to.ensures)) in
    record { inside = sought.0; chained = sought.1.0; same_hash = sought.1.1.0; bounds = sought.1.1.1 }

pub returns-then-in_table : goal.returns-then-in_table
returns-then-in_table c =
    let a = c.args in
    let s = a.s.now in
    let to = c.line_end-to in
    let h = c.hash_of-h in
    let found = c.in_table in
    entered_given s a.self.now.place a.self.now.before a.self.now.last a.count c.requires.table a.at to.result h.result to.ensures h.ensures.0
    (sym c.in-Heading.ensures) found.result found.ensures c.if-in_table.true

pub returns : goal.returns
returns c =
    let a = c.args in
    let s = a.s.now in
    let to = c.line_end-to in
    let h = c.hash_of-h in
    let found = c.in_table in
    entered_new s a.self.now.place a.self.now.before a.self.now.last a.count c.requires.table a.at to.result h.result to.ensures h.ensures.0
    (sym c.in-Heading.ensures) found.result found.ensures c.if-in_table.false
