-- `rising` meets its contract: after i turns the other numbers are left, of choices past the last.
use Rattle.std.proofs.Common.{◌≡◌, ℕ, ◌+◌, ◌-◌, ◌*◌, ◌/◌, sym, ap, ◌∙◌, arith}
use Rattle.figures.specs.AnswerBook.{rising}
use Rattle.figures.proofs.RecordWays.{too_low, too_high, rises}
use Rattle.figures.proofs.record.rising.Goals as goal

pub returns-then-choice-least : goal.returns-then-choice-least
returns-then-choice-least c =
    let loop = c.loop-i in
    let a = c.args in
    sym (loop.invariant ∙ too_low a.books.now loop.least (a.from + 2 * loop.i) _ (ap (λ (n : ℕ). n / 2) c.number-choice.ensures.0) (a.k - loop.i) (omega arith) c.if-choice-least.true)

pub returns-then-choice-ge-CHOICES : goal.returns-then-choice-ge-CHOICES
returns-then-choice-ge-CHOICES c =
    let loop = c.loop-i in
    let a = c.args in
    sym (loop.invariant
    ∙ too_high a.books.now loop.least (a.from + 2 * loop.i) _ (ap (λ (n : ℕ). n / 2) c.number-choice.ensures.0) c.if-choice-least.false (a.k - loop.i) (omega arith) c.if-choice-ge-CHOICES.true)

pub loop-i-preserved : goal.loop-i-preserved
loop-i-preserved c =
    let loop = c.loop-i in
    let a = c.args in
    let next : a.from + 2 * (loop.i + 1) ≡ a.from + 2 * loop.i + 2 = omega arith in
    rw next (loop.invariant
    ∙ rises a.books.now loop.least (a.from + 2 * loop.i) _ (ap (λ (n : ℕ). n / 2) c.number-choice.ensures.0) c.if-choice-least.false (a.k - loop.i) (a.k - (loop.i + 1)) (omega arith)
    c.if-choice-ge-CHOICES.false)

pub returns : goal.returns
unfolding rising
returns c =
    let loop = c.loop-i in
    let a = c.args in
    let none : a.k - loop.i ≡ 0 = omega arith in
    sym (loop.invariant ∙ ap (λ (left : ℕ). rising a.books.now left loop.least (a.from + 2 * loop.i)) none)
