-- `terms_of` meets its contract.
use Rattle.std.proofs.lemmas.Result.{err_from_is_err_and}
use Rattle.tagged.specs.Listing.{broader_in}
use Rattle.terms.proofs.TermsTold.{told-refused, told-many, few-told}
use Rattle.terms.proofs.terms.terms_of.Goals as goal

pub returns-in_err-headings : goal.returns-in_err-headings
returns-in_err-headings c =
    let refused = err_from_is_err_and c.from_residual.result c.from_residual.ensures.1 in
    rw (refused.1, refused.2) (told-refused (broader_in c.args.s.now) _ c.in_err-headings.ensures)

pub returns-then-headings-gt-HEADINGS : goal.returns-then-headings-gt-HEADINGS
returns-then-headings-gt-HEADINGS c =
    rw c.at.ensures (told-many (broader_in c.args.s.now) _ c.in_ok-headings.ensures c.if-headings-gt-HEADINGS.true)

pub gathered-requires : goal.gathered-requires
gathered-requires c = few-told (broader_in c.args.s.now) _ c.in_ok-headings.ensures c.if-headings-gt-HEADINGS.false
