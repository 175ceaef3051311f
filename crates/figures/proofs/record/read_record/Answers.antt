-- `read_record` meets its contract: the tests in the order of the definition.
use mathlib.Core.Path.{◌≡◌, ◌∙◌}
use Rattle.figures.specs.AnswerBook.{record_at}
use Rattle.figures.proofs.RecordWays.{length_cut, record_cut, no_count, count-there, counted, no_symbol_lem, symbols-cut, decision_cut, record_read, refused_as_lem, read_as}
use Rattle.figures.proofs.record.read_record.Goals as goal
use Rattle.figures.proofs.record.read_record.Goals.{After-number-count}

-- the record, once it is known to have a symbol count
at_count : (c : After-number-count)
    → let a = c.args in
    record_at a.books.now a.version a.e a.p ≡ counted a.version a.p c.number.result c.number-count.result
at_count c =
    let a = c.args in
    count-there a.books.now a.version a.e a.p c.number.result c.number.ensures.0 c.if-e-p.false c.if-e-end.false c.if-end-at.false
    c.number-count.result c.number-count.ensures.0

pub returns-then-e-p : goal.returns-then-e-p
returns-then-e-p c =
    let a = c.args in
    refused_as_lem c.at.result c.at.ensures
    (length_cut a.books.now a.version a.e a.p c.if-e-p.true)

pub returns-then-e-end : goal.returns-then-e-end
returns-then-e-end c =
    let a = c.args in
    refused_as_lem c.at-then-e-end.result c.at-then-e-end.ensures
    (record_cut a.books.now a.version a.e a.p c.number.result c.number.ensures.0 c.if-e-p.false c.if-e-end.true)

pub returns-then-end-at : goal.returns-then-end-at
returns-then-end-at c =
    let a = c.args in
    refused_as_lem c.at-then-end-at.result c.at-then-end-at.ensures
    (no_count a.books.now a.version a.e a.p c.number.result c.number.ensures.0 c.if-e-p.false c.if-e-end.false c.if-end-at.true)

pub returns-then-count-eq0 : goal.returns-then-count-eq0
returns-then-count-eq0 c =
    let a = c.args in
    refused_as_lem c.at-then-count-eq0.result c.at-then-count-eq0.ensures
    (at_count (goal.at.returns-then-count-eq0 c).After-number-count ∙ no_symbol_lem a.version a.p c.number.result c.number-count.result c.if-count-eq0.true)

pub returns-then-end-decisions : goal.returns-then-end-decisions
returns-then-end-decisions c =
    let a = c.args in
    refused_as_lem c.at-then-end-decisions.result c.at-then-end-decisions.ensures
    (at_count (goal.at.returns-then-end-decisions c).After-number-count ∙ symbols-cut a.version a.p c.number.result c.number-count.result c.if-count-eq0.false c.if-end-decisions.true)

pub returns-then-left-eq1 : goal.returns-then-left-eq1
returns-then-left-eq1 c =
    let a = c.args in
    refused_as_lem c.at-then-left-eq1.result c.at-then-left-eq1.ensures
    (at_count (goal.at.returns-then-left-eq1 c).After-number-count ∙ decision_cut a.version a.p c.number.result c.number-count.result c.if-count-eq0.false c.if-end-decisions.false c.if-left-eq1.true)

pub returns : goal.returns
returns c =
    let a = c.args in
    read_as _ _ (at_count (goal.at.returns c).After-number-count ∙ record_read a.version a.p c.number.result c.number-count.result c.if-count-eq0.false c.if-end-decisions.false c.if-left-eq1.false)
