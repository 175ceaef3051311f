-- ONE ANSWER: what is told of a saved listing, and the row, come from one result and one row.
use mathlib.Core.Path.{◌≡◌, refl, sym, ap, ◌∙◌}
use mathlib.Core.List.{List}
use Prim.Native.Nat.{ℕ}
use Rattle.std.specs.Prelude.{Result, Ok, Err}
use Rattle.tagged.specs.Saved.{Outcome}
use Rattle.terms.specs.declared.faults.Refusal.{Refusal}
use Rattle.terms.proofs.Refusals.{told-back, back-good, back-refused}
use Rattle.circles.specs.declared.circle.Saved.{Saved}
use Rattle.circles.specs.Saving.{outcome_of}

back : Outcome → Result Saved Refusal
back o = told-back o.result.number o.result.line (record { headings = o.result.headings; circle = o.result.circle })

back-is : (r : Result Saved Refusal) (row : List ℕ) → back (outcome_of r row) ≡ r
unfolding back
back-is (Ok told) row = back-good told
back-is (Err e) row = back-refused e _

row-is : (r : Result Saved Refusal) (row : List ℕ) → (outcome_of r row).row ≡ row
row-is (Ok told) row = refl
row-is (Err e) row = refl

pub one-answer : (r q : Result Saved Refusal) (row after : List ℕ) → outcome_of r row ≡ outcome_of q after → (r ≡ q) × (row ≡ after)
one-answer r q row after same = (sym (back-is r row) ∙ ap back same ∙ back-is q after, sym (row-is r row) ∙ ap (λ (o : Outcome). o.row) same ∙ row-is q after)
