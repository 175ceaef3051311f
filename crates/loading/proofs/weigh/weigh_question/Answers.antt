-- `weigh_question` meets its contract: what was read stands in the question from place 4 on, and its size is told there.
use Rattle.loading.proofs.QuestionsRead.{refused_weighed, read_weighed}
use Rattle.loading.proofs.weigh.weigh_question.Goals as goal

pub returns-in-Err : goal.returns-in-Err
returns-in-Err c rules of =
    let a = c.args in
    refused_weighed of a.question.now a.number c.in-Err.ensures

pub returns-in-Ok : goal.returns-in-Ok
returns-in-Ok c rules of =
    let a = c.args in
    read_weighed of a.question.now a.number c.in-Ok.ensures c.size_expr-size.result c.size_expr-size.ensures
