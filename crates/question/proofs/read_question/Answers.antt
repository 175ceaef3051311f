-- `read_question` meets its contract: it reads what was asked where the question was opened, and refuses else.
use Rattle.reading.proofs.Exits.{handed_on}
use Rattle.symbols.specs.Table.{symbols_in}
use Rattle.question.proofs.Questions.{question_unopened, question-inside, question-asked}
use Rattle.question.proofs.read_question.Goals as goal

pub read_asked-requires : goal.read_asked-requires
read_asked-requires c =
    let a = c.args in
    question-inside (symbols_in a.book.now a.at.now) a.question.now c.in_ok-e.ensures

pub returns-in_err-e : goal.returns-in_err-e
returns-in_err-e c =
    let a = c.args in
    let r = handed_on c.from_residual.result c.from_residual.ensures.1 in
    rw r (question_unopened (symbols_in a.book.now a.at.now) a.question.now c.in_err-e.ensures)

pub returns : goal.returns
returns c =
    let a = c.args in
    question-asked (symbols_in a.book.now a.at.now) a.question.now c.in_ok-e.ensures c.read_asked.ensures
