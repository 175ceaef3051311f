-- `take_line` meets its contract, by the form of the line.
use mathlib.Core.Path.{refl, sym, ap, ◌∙◌}
use native.Mathlib.Omega.{arith}
use lib.ListN.{set}
use Rattle.tagged.specs.Lines.{lines_of}
use Rattle.tagged.specs.Listing.{number_of, headings_of}
use Rattle.terms.specs.Places.{bytes_of}
use Rattle.terms.proofs.TermWays.{behind_tag, room-heading, room-broader, taken_heading, taken_broader, taken_narrower, taken_other}
use Rattle.terms.proofs.terms.Listed.take_line.Goals as goal

pub open_row-requires : goal.open_row-requires
open_row-requires c =
    let a = c.args in
    let found = c.form_of in
    let bs = bytes_of a.known.now.s.now a.at a.end in
    let names = headings_of (lines_of a.known.now.s.now) in
    let room = room-heading found.result bs found.ensures names a.self.now.sum c.in-Heading.is c.requires.3 in
    (c.requires.2, room)

pub add_term-requires : goal.add_term-requires
add_term-requires c =
    let a = c.args in
    let s = a.known.now.s.now in
    let found = c.form_of in
    let bs = bytes_of s a.at a.end in
    let names = headings_of (lines_of s) in
    let room = room-broader found.result bs found.ensures names a.self.now.sum c.in-Broader.is c.requires.3 in
    let name = ap (λ l. number_of l names) (behind_tag s a.at a.end) in
    (c.requires.2, omega (arith, room, name, c.number_of.ensures))

pub returns-in-Heading : goal.returns-in-Heading
returns-in-Heading c =
    let a = c.args in
    let found = c.form_of in
    let bs = bytes_of a.known.now.s.now a.at a.end in
    let now = c.open_row.ensures in
    taken_heading found.result bs found.ensures (headings_of (lines_of a.known.now.s.now)) a.self.now.sum c.in-Heading.is now.sums now.row_opens now.same_terms

pub returns-in-Broader : goal.returns-in-Broader
returns-in-Broader c =
    let a = c.args in
    let s = a.known.now.s.now in
    let found = c.form_of in
    let bs = bytes_of s a.at a.end in
    let names = headings_of (lines_of s) in
    let added = c.add_term.ensures in
    let name = ap (λ l. number_of l names) (behind_tag s a.at a.end) in
    let term = ap (set a.self.now.to a.self.now.sum.terms) (c.number_of.ensures ∙ sym name) in
    taken_broader found.result bs found.ensures names a.self.now.sum c.in-Broader.is added.added added.row_ends (added.term_noted ∙ term)

pub returns-in-Narrower : goal.returns-in-Narrower
returns-in-Narrower c =
    let a = c.args in
    let found = c.form_of in
    let bs = bytes_of a.known.now.s.now a.at a.end in
    taken_narrower found.result bs found.ensures (headings_of (lines_of a.known.now.s.now)) a.self.now.sum c.in-Narrower.is refl refl refl

pub returns-in-Other : goal.returns-in-Other
returns-in-Other c =
    let a = c.args in
    let found = c.form_of in
    let bs = bytes_of a.known.now.s.now a.at a.end in
    taken_other found.result bs found.ensures (headings_of (lines_of a.known.now.s.now)) a.self.now.sum c.in-Other.is refl refl refl
