-- The exit of a `?`: what the call refused is handed on as it is.
use Rattle.std.specs.Prelude.{◌≡◌, Result, Err, IsErrAnd}
use Rattle.std.proofs.lemmas.Result.{err_from_is_err_and}
use mathlib.Core.Path.{◌∙◌, ap}

pub handed_on : {A E : Type 0} {e : E} (r : Result A E) → IsErrAnd r (λ y. y ≡ e) → r ≡ Err e
handed_on r is =
    let p = err_from_is_err_and r is in
    p.1 ∙ ap Err p.2
