-- `open_question` meets its contract: it refuses a question that is too long or of another version, and reads the length else.
use Rattle.reading.proofs.Exits.{handed_on}
use Rattle.question.proofs.Questions.{opened_too_long, opened-empty, opened-zero, opened-above, opened-length}
use Rattle.question.proofs.open_question.Goals as goal

pub returns-then-question-gt-QUESTION : goal.returns-then-question-gt-QUESTION
returns-then-question-gt-QUESTION c = rw c.at.ensures (opened_too_long c.args.question.now c.if-question-gt-QUESTION.true)

pub returns-in_err-version : goal.returns-in_err-version
returns-in_err-version c =
    let r = handed_on c.from_residual.result c.from_residual.ensures.1 in
    rw r (opened-empty c.args.question.now c.if-question-gt-QUESTION.false c.in_err-version.ensures)

pub returns-then-version-eq0 : goal.returns-then-version-eq0
returns-then-version-eq0 c =
    rw c.at-then-version-eq0.ensures (opened-zero c.args.question.now c.if-question-gt-QUESTION.false c.in_ok-version.ensures c.if-version-eq0.true)

pub returns-then-version-gt2 : goal.returns-then-version-gt2
returns-then-version-gt2 c =
    rw c.at-then-version-gt2.ensures
    (opened-above c.args.question.now c.if-question-gt-QUESTION.false c.in_ok-version.ensures c.if-version-eq0.false c.if-version-gt2.true)

pub returns : goal.returns
returns c =
    opened-length c.args.question.now c.if-question-gt-QUESTION.false c.in_ok-version.ensures c.if-version-eq0.false c.if-version-gt2.false c.length_at.ensures
