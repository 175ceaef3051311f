-- `save_listing` meets its contract: what is told is what the definition says.
use mathlib.Core.Path.{refl}
use borrow.Author.Rules.{rules}
use Rattle.std.specs.Prelude.{Ok, Err}
use Rattle.std.proofs.lemmas.Result.{err_from_is_err_and}
use Rattle.terms.specs.TermRows.{told_of}
use Rattle.terms.proofs.Refusals.{number-some}
use Rattle.circles.proofs.SavingWays.{saved-refused, saved-short, saved-hold, saved_answer}
use Rattle.circles.proofs.circle.save_listing.Goals as goal

pub returns-in_err-t : goal.returns-in_err-t
returns-in_err-t c =
    let refused = err_from_is_err_and c.from_residual.result c.from_residual.ensures.1 in
    let e = c.in_err-t.field-0.0 in
    rw (refused.1, refused.2) (saved-refused (told_of (Err e)) c.args.s.now c.args.row.now c.in_err-t.ensures.1 (number-some e.fault))

pub returns-then-row-headings : goal.returns-then-row-headings
returns-then-row-headings c =
    let t = told_of (Ok c.in_ok-t.t) in
    rw c.at.ensures (saved-short t c.args.s.now c.args.row.now c.in_ok-t.ensures.1 refl c.if-row-headings.true)

pub invariant_of-rows : goal.invariant_of-rows
invariant_of-rows c =
    let t = told_of (Ok c.in_ok-t.t) in
    record { holding = record { terms = saved-hold t c.args.s.now c.args.row.now c.in_ok-t.ensures.1 refl; places = search rules } }

pub answer-circle-requires : goal.answer-circle-requires
answer-circle-requires c = c.if-row-headings.false

pub returns : goal.returns
returns c =
    let t = told_of (Ok c.in_ok-t.t) in
    let answer = c.answer-circle in
    saved_answer t c.args.s.now c.args.row.now c.in_ok-t.ensures.1 refl answer.result _ c.if-row-headings.false answer.ensures
