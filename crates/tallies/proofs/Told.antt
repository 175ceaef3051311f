-- What an answer says tells which answer it is: no two refusals have one number and place, and no two answers mean the same.
use Rattle.std.specs.Prelude.{◌≡◌, ℕ, ◌≤◌, true, false, eqb, Result, Ok, Err}
use mathlib.Core.Path.{refl, sym, ap, ◌∙◌}
use native.Mathlib.Omega.{arith}
use Rattle.tallies.specs.declared.Refusal.{Refusal}
use Rattle.tallies.specs.declared.Fault.{Fault}
use Rattle.tallies.specs.declared.Fault.TheVariants.{Layout, PastRow, PastBits}
use Rattle.tallies.specs.InCode.{number_of, reading_of}

-- the fault of a number
abbrev fault_of : ℕ → Fault
fault_of n = elim (eqb n 60) [ true ↦ Layout | false ↦ elim (eqb n 61) [ true ↦ PastRow | false ↦ PastBits ] ]

fault_back : (f : Fault) → fault_of (number_of f) ≡ f
fault_back Layout = refl
fault_back PastRow = refl
fault_back PastBits = refl

same_fault : (f f' : Fault) → number_of f ≡ number_of f' → f ≡ f'
same_fault f f' e = sym (fault_back f) ∙ ap fault_of e ∙ fault_back f'

-- none is 0
pub some_number : (f : Fault) → 60 ≤ number_of f
some_number Layout = omega arith
some_number PastRow = omega arith
some_number PastBits = omega arith

pub same_refusal : (r r' : Refusal) → number_of r.fault ≡ number_of r'.fault → r.place ≡ r'.place → r ≡ r'
same_refusal r r' number place =
    let fault = same_fault r.fault r'.fault number in
    rw (fault, place) refl

-- so an answer is what it tells
pub same_told : (r r' : Result ℕ Refusal) → reading_of r ≡ reading_of r' → r ≡ r'
same_told (Ok next) (Ok next') same = cc
same_told (Ok next) (Err r) same = cc
same_told (Err r) (Ok next) same = cc
same_told (Err r) (Err r') same =
    let number : number_of r.fault ≡ number_of r'.fault = cc in
    let place : r.place ≡ r'.place = cc in
    ap Err (same_refusal r r' number place)
