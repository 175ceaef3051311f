-- What is handed back, with the row after it, tells which answer it is, and which row.
use Rattle.std.specs.Prelude.{◌≡◌, ℕ, List, Result, Ok, Err}
use mathlib.Core.Path.{refl, ap}
use native.Mathlib.Omega.{arith}
use Rattle.tallies.specs.declared.Refusal.{Refusal}
use Rattle.tallies.proofs.Told.{some_number, same_refusal}
use Rattle.figures.specs.Figures.{Outcome}
use Rattle.figures.specs.InCode.{after}

pub same_figured : (r r' : Result (Unit {0}) Refusal) (row row' : List ℕ) → after r row ≡ after r' row' → (r ≡ r') × (row ≡ row')
same_figured (Ok done) (Ok done') row row' same = (refl, ap (λ (o : Outcome). o.row) same)
same_figured (Ok done) (Err r) row row' same = absurd (omega (arith, ap (λ (o : Outcome). o.number) same, some_number r.fault))
same_figured (Err r) (Ok done) row row' same = absurd (omega (arith, ap (λ (o : Outcome). o.number) same, some_number r.fault))
same_figured (Err r) (Err r') row row' same =
    (ap Err (same_refusal r r' (ap (λ (o : Outcome). o.number) same) (ap (λ (o : Outcome). o.place) same)), ap (λ (o : Outcome). o.row) same)
