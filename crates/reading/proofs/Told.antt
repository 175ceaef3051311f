-- What an answer says tells which answer it is: no two refusals have one number and place, and no two answers mean the same.
use Rattle.std.specs.Prelude.{◌≡◌, ℕ, ◌+◌, ◌≤◌, true, false, eqb, Result, Ok, Err, IfOk}
use mathlib.Core.Path.{refl, sym, ap, ◌∙◌}
use native.Mathlib.Omega.{arith}
use Rattle.reading.specs.declared.Refusal.{Refusal}
use Rattle.reading.specs.declared.Fault.{Fault}
use Rattle.reading.specs.declared.Fault.TheVariants.{Extent, Version, Symbol, Code, Sort}
use Rattle.reading.specs.declared.Asker.{Asker}
use Rattle.reading.specs.declared.Asker.TheVariants.{Book, Question}
use Rattle.reading.specs.Answer.{base_of, number_of, refusal_number, reading_of, reading_by}

-- the fault of a number
abbrev fault_of : ℕ → Fault
fault_of n =
    elim (eqb n 1) [
      | true ↦ Extent
      | false ↦ elim (eqb n 2) [ true ↦ Version | false ↦ elim (eqb n 3) [ true ↦ Symbol | false ↦ elim (eqb n 4) [ true ↦ Code | false ↦ Sort ] ] ]
    ]

fault_back : (f : Fault) → fault_of (number_of f) ≡ f
fault_back Extent = refl
fault_back Version = refl
fault_back Symbol = refl
fault_back Code = refl
fault_back Sort = refl

same_fault : (f f' : Fault) → number_of f ≡ number_of f' → f ≡ f'
same_fault f f' e = sym (fault_back f) ∙ ap fault_of e ∙ fault_back f'

-- the numbers of the book are 1 to 5
in_the_book : (f : Fault) → (1 ≤ number_of f) × (number_of f ≤ 5)
in_the_book Extent = (omega arith, omega arith)
in_the_book Version = (omega arith, omega arith)
in_the_book Symbol = (omega arith, omega arith)
in_the_book Code = (omega arith, omega arith)
in_the_book Sort = (omega arith, omega arith)

-- so those of the question are others
same_who : (w w' : Asker) (f f' : Fault) → base_of w + number_of f ≡ base_of w' + number_of f' → (w ≡ w') × (f ≡ f')
same_who Book Book f f' e = (refl, same_fault f f' (omega arith))
same_who Question Question f f' e = (refl, same_fault f f' (omega arith))
same_who Book Question f f' e = absurd (omega (arith, in_the_book f, in_the_book f'))
same_who Question Book f f' e = absurd (omega (arith, in_the_book f, in_the_book f'))

pub same_refusal : (r r' : Refusal) → refusal_number r ≡ refusal_number r' → r.place ≡ r'.place → r ≡ r'
same_refusal r r' number place =
    let (who, fault) = same_who r.who r'.who r.fault r'.fault number in
    rw (who, fault, place) refl

-- no two answers tell the same, if what is read is fixed by the two numbers that are told and by what holds of it
pub same_told : {A : Type 0} (told : A → ℕ × ℕ) (P : A → Type 0)
    → ((a b : A) → P a → P b → (told a).0 ≡ (told b).0 → (told a).1 ≡ (told b).1 → a ≡ b)
    → (r r' : Result A Refusal) → IfOk r P → IfOk r' P → reading_by told r ≡ reading_by told r' → r ≡ r'
same_told told P one (Ok a) (Ok b) p q same =
    let value : (told a).0 ≡ (told b).0 = cc in
    let next : (told a).1 ≡ (told b).1 = cc in
    ap Ok (one a b p q value next)
same_told told P one (Ok a) (Err r) p q same = cc
same_told told P one (Err r) (Ok b) p q same = cc
same_told told P one (Err r) (Err r') p q same =
    let number : refusal_number r ≡ refusal_number r' = cc in
    let place : r.place ≡ r'.place = cc in
    ap Err (same_refusal r r' number place)

-- so a reading is what it tells
pub same_reading : (r r' : Result (ℕ × ℕ) Refusal) → reading_of r ≡ reading_of r' → r ≡ r'
same_reading (Ok (value, next)) (Ok (value', next')) same = cc
same_reading (Ok (value, next)) (Err r) same = cc
same_reading (Err r) (Ok (value, next)) same = cc
same_reading (Err r) (Err r') same =
    let number : refusal_number r ≡ refusal_number r' = cc in
    let place : r.place ≡ r'.place = cc in
    ap Err (same_refusal r r' number place)
