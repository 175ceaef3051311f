-- `form_of` meets its contract: the tag, then the name behind it; else the whole line's name.
use mathlib.Core.Path.{sym, ap, ◌∙◌}
use native.Mathlib.Omega.{arith}
use borrow.Author.Rules.{rules}
use Rattle.tagged.specs.Lines.{is_name}
use Rattle.terms.specs.Places.{bytes_of}
use Rattle.terms.proofs.TagWays.{tag_long, name-behind, line-broader, line_no_broader, line-narrower, line_no_narrower, line-heading, line_other}
use Rattle.terms.proofs.lines.form_of.Goals as goal

pub overflow_add-at : goal.overflow_add-at
overflow_add-at c =
    let a = c.args in
    let room = tag_long a.s.now a.at a.to (omega arith) 66 (sym c.is_tag.ensures ∙ c.if-is_tag.true) in
    search rules

pub returns-then-is_name : goal.returns-then-is_name
returns-then-is_name c =
    let a = c.args in
    let tag = sym c.is_tag.ensures ∙ c.if-is_tag.true in
    let name = ap is_name (name-behind a.s.now a.at a.to (omega arith) (tag_long a.s.now a.at a.to (omega arith) 66 tag)) ∙ sym c.is_name.ensures in
    line-broader (bytes_of a.s.now a.at a.to) tag (name ∙ c.if-is_name.true)

pub returns-then-is_tag : goal.returns-then-is_tag
returns-then-is_tag c =
    let a = c.args in
    let tag = sym c.is_tag.ensures ∙ c.if-is_tag.true in
    let name = ap is_name (name-behind a.s.now a.at a.to (omega arith) (tag_long a.s.now a.at a.to (omega arith) 66 tag)) ∙ sym c.is_name.ensures in
    line_no_broader (bytes_of a.s.now a.at a.to) tag (name ∙ c.if-is_name.false)

pub overflow_add-at-then-is_tag-2 : goal.overflow_add-at-then-is_tag-2
overflow_add-at-then-is_tag-2 c =
    let a = c.args in
    let room = tag_long a.s.now a.at a.to (omega arith) 78 (sym c.is_tag-2.ensures ∙ c.if-is_tag-2.true) in
    search rules

pub returns-then-is_name-2 : goal.returns-then-is_name-2
returns-then-is_name-2 c =
    let a = c.args in
    let no-tag = sym c.is_tag.ensures ∙ c.if-is_tag.false in
    let tag = sym c.is_tag-2.ensures ∙ c.if-is_tag-2.true in
    let name = ap is_name (name-behind a.s.now a.at a.to (omega arith) (tag_long a.s.now a.at a.to (omega arith) 78 tag)) ∙ sym c.is_name-then-is_tag-2.ensures in
    line-narrower (bytes_of a.s.now a.at a.to) no-tag tag (name ∙ c.if-is_name-2.true)

pub returns-then-is_tag-2 : goal.returns-then-is_tag-2
returns-then-is_tag-2 c =
    let a = c.args in
    let no-tag = sym c.is_tag.ensures ∙ c.if-is_tag.false in
    let tag = sym c.is_tag-2.ensures ∙ c.if-is_tag-2.true in
    let name = ap is_name (name-behind a.s.now a.at a.to (omega arith) (tag_long a.s.now a.at a.to (omega arith) 78 tag)) ∙ sym c.is_name-then-is_tag-2.ensures in
    line_no_narrower (bytes_of a.s.now a.at a.to) no-tag tag (name ∙ c.if-is_name-2.false)

pub returns-then-is_name-3 : goal.returns-then-is_name-3
returns-then-is_name-3 c =
    let a = c.args in
    let no-tag = sym c.is_tag.ensures ∙ c.if-is_tag.false in
    let no-tag-2 = sym c.is_tag-2.ensures ∙ c.if-is_tag-2.false in
    line-heading (bytes_of a.s.now a.at a.to) no-tag no-tag-2 (sym c.is_name-2.ensures ∙ c.if-is_name-3.true)

pub returns : goal.returns
returns c =
    let a = c.args in
    let no-tag = sym c.is_tag.ensures ∙ c.if-is_tag.false in
    let no-tag-2 = sym c.is_tag-2.ensures ∙ c.if-is_tag-2.false in
    line_other (bytes_of a.s.now a.at a.to) no-tag no-tag-2 (sym c.is_name-2.ensures ∙ c.if-is_name-3.false)
