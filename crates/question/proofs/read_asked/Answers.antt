-- `read_asked` meets its contract: it refuses where there is no sort, the expression is refused or something is left over.
use Rattle.reading.proofs.Exits.{handed_on}
use Rattle.symbols.specs.Table.{symbols_in}
use Rattle.question.proofs.Questions.{asked-past, asked_no_sort, asked-refused, asked-left-over, question-left-over, asked-read}
use Rattle.question.proofs.read_asked.Goals as goal

pub returns-in_err-next : goal.returns-in_err-next
returns-in_err-next c =
    let a = c.args in
    let r = handed_on c.from_residual.result c.from_residual.ensures.1 in
    rw r (asked-past (symbols_in a.book.now a.at.now) a.question.now a.e a.q c.in_err-next.ensures)

pub returns-then-sort-gt-LAST_SORT : goal.returns-then-sort-gt-LAST_SORT
returns-then-sort-gt-LAST_SORT c =
    let a = c.args in
    rw c.at.ensures
    (asked_no_sort (symbols_in a.book.now a.at.now) a.question.now a.e a.q c.in_ok-next.ensures c.byte-sort.ensures c.if-sort-gt-LAST_SORT.true)

pub returns-in_err-t : goal.returns-in_err-t
returns-in_err-t c =
    let a = c.args in
    let r = handed_on c.from_residual-in_err-t.result c.from_residual-in_err-t.ensures.1 in
    rw r (asked-refused (symbols_in a.book.now a.at.now) a.question.now a.e a.q c.in_ok-next.ensures
    c.byte-sort.ensures c.if-sort-gt-LAST_SORT.false c.requires c.in_err-t.ensures)

pub returns-then-t-e : goal.returns-then-t-e
returns-then-t-e c =
    let a = c.args in
    rw c.at-then-t-e.ensures (asked-left-over (symbols_in a.book.now a.at.now) a.question.now a.e a.q c.in_ok-next.ensures
    c.byte-sort.ensures c.if-sort-gt-LAST_SORT.false c.requires c.in_ok-t.ensures c.if-t-e.true)

pub returns-then-t-question : goal.returns-then-t-question
returns-then-t-question c =
    let a = c.args in
    rw c.at-then-t-question.ensures (question-left-over (symbols_in a.book.now a.at.now) a.question.now a.e a.q c.in_ok-next.ensures
    c.byte-sort.ensures c.if-sort-gt-LAST_SORT.false c.requires c.in_ok-t.ensures c.if-t-e.false c.if-t-question.true)

pub returns : goal.returns
returns c =
    let a = c.args in
    asked-read (symbols_in a.book.now a.at.now) a.question.now a.e a.q c.in_ok-next.ensures
    c.byte-sort.ensures c.if-sort-gt-LAST_SORT.false c.requires c.in_ok-t.ensures c.if-t-e.false c.if-t-question.false
