-- `note_line` meets its contract, by the form of the line.
use borrow.Author.Rules.{rules}
use Rattle.terms.specs.Places.{bytes_of}
use Rattle.terms.proofs.TermsNoted.{note_room, noted-heading, noted-broader, noted-narrower, noted_other}
use Rattle.terms.proofs.terms.note_line.Goals as goal

pub offset_bounds-opens-count : goal.offset_bounds-opens-count
offset_bounds-opens-count c =
    let a = c.args in
    let found = c.form_of-f in
    let room = note_room found.result (bytes_of a.s.now a.at a.end) found.ensures a.count c.in-Heading.is c.requires.2 in
    search rules

pub bounds-opens-count : goal.bounds-opens-count
bounds-opens-count c =
    let a = c.args in
    let found = c.form_of-f in
    let room = note_room found.result (bytes_of a.s.now a.at a.end) found.ensures a.count c.in-Heading.is c.requires.2 in
    search rules

pub offset_bounds-ends-count : goal.offset_bounds-ends-count
offset_bounds-ends-count c =
    let a = c.args in
    let found = c.form_of-f in
    let room = note_room found.result (bytes_of a.s.now a.at a.end) found.ensures a.count c.in-Heading.is c.requires.2 in
    search rules

pub bounds-ends-count : goal.bounds-ends-count
bounds-ends-count c =
    let a = c.args in
    let found = c.form_of-f in
    let room = note_room found.result (bytes_of a.s.now a.at a.end) found.ensures a.count c.in-Heading.is c.requires.2 in
    search rules

pub overflow_add-result : goal.overflow_add-result
overflow_add-result c =
    let a = c.args in
    let found = c.form_of-f in
    let room = note_room found.result (bytes_of a.s.now a.at a.end) found.ensures a.count c.in-Heading.is c.requires.2 in
    search rules

pub returns-in-Heading : goal.returns-in-Heading
returns-in-Heading c =
    let a = c.args in
    let found = c.form_of-f in
    let bs = bytes_of a.s.now a.at a.end in
    noted-heading found.result bs found.ensures a.count a.at a.end a.opens.now a.ends.now c.in-Heading.is

pub returns-in-Broader : goal.returns-in-Broader
returns-in-Broader c =
    let a = c.args in
    let found = c.form_of-f in
    let bs = bytes_of a.s.now a.at a.end in
    noted-broader found.result bs found.ensures a.count a.at a.end a.opens.now a.ends.now c.in-Broader.is

pub returns-in-Narrower : goal.returns-in-Narrower
returns-in-Narrower c =
    let a = c.args in
    let found = c.form_of-f in
    let bs = bytes_of a.s.now a.at a.end in
    noted-narrower found.result bs found.ensures a.count a.at a.end a.opens.now a.ends.now c.in-Narrower.is

pub returns-in-Other : goal.returns-in-Other
returns-in-Other c =
    let a = c.args in
    let found = c.form_of-f in
    let bs = bytes_of a.s.now a.at a.end in
    noted_other found.result bs found.ensures a.count a.at a.end a.opens.now a.ends.now c.in-Other.is
