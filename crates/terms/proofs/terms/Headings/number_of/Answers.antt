-- `number_of` meets its contract: the headings passed have other names, and those still to come decide.
use mathlib.Core.Path.{sym, ap, ◌∙◌}
use Prim.Native.Nat.{◌<◌}
use native.Mathlib.Omega.{arith}
use lib.ListN.{length}
use Rattle.tagged.specs.Lines.{same, lines_of}
use Rattle.tagged.specs.Listing.{headings_of}
use Rattle.terms.specs.Places.{bytes_of}
use Rattle.terms.proofs.TermsNoted.{among_none, among-here, among_later}
use Rattle.terms.proofs.terms.Headings.number_of.Goals as goal

pub loop-x-init : goal.loop-x-init
loop-x-init c = omega arith

pub same-requires : goal.same-requires
same-requires c =
    let loop = c.loop-x in
    (c.requires, c.args.self.now.noted.noted.inside loop.x (omega arith))

pub returns-then-same : goal.returns-then-same
returns-then-same c =
    let a = c.args in
    let loop = c.loop-x in
    let s = a.self.now.s.now in
    let names = headings_of (lines_of s) in
    let name = bytes_of s a.from a.until in
    let all = c.args.self.now.noted in
    let low : loop.x < length names = omega (arith, all.all) in
    let here = ap (same name) (all.noted.stand loop.x (omega arith)) in
    let found = among-here name names loop.x low (sym here ∙ sym c.same.ensures ∙ c.if-same.true) in
    omega (arith, loop.invariant, found)

pub loop-x-preserved : goal.loop-x-preserved
loop-x-preserved c =
    let a = c.args in
    let loop = c.loop-x in
    let s = a.self.now.s.now in
    let names = headings_of (lines_of s) in
    let name = bytes_of s a.from a.until in
    let all = c.args.self.now.noted in
    let low : loop.x < length names = omega (arith, all.all) in
    let here = ap (same name) (all.noted.stand loop.x (omega arith)) in
    let later = among_later name names loop.x low (sym here ∙ sym c.same.ensures ∙ c.if-same.false) in
    omega (arith, loop.invariant, later)

pub returns : goal.returns
returns c =
    let a = c.args in
    let loop = c.loop-x in
    let s = a.self.now.s.now in
    let names = headings_of (lines_of s) in
    let name = bytes_of s a.from a.until in
    let all = c.args.self.now.noted in
    omega (arith, loop.invariant, among_none name names loop.x (omega (arith, all.all)))
