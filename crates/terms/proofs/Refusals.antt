-- Refusals by their numbers: none has the number 0, and number and line tell which it is.
use mathlib.Core.Bool.{true, false}
use mathlib.Core.Path.{◌≡◌, refl, sym, ap, ◌∙◌}
use Prim.Native.Nat.{ℕ}
use native.Mathlib.Omega.{arith}
use lib.Dec.{eqb}
use Rattle.std.specs.Prelude.{Result, Ok, Err}
use Rattle.terms.specs.Refusals.{number_of}
use Rattle.terms.specs.declared.faults.Fault.{Fault}
use Rattle.terms.specs.declared.faults.Fault.TheVariants.{BadLine, HeadingTwice, NoMirror, Size, ShortRow}
use Rattle.terms.specs.declared.faults.Refusal.{Refusal}
use Rattle.terms.specs.declared.terms.Terms.{Terms as Rows}
use Rattle.terms.specs.TermRows.{Terms, told_of}

pub number-some : (f : Fault) → number_of f ≡ 0 → ⊥
number-some BadLine is = absurd (omega arith)
number-some HeadingTwice is = absurd (omega arith)
number-some NoMirror is = absurd (omega arith)
number-some Size is = absurd (omega arith)
number-some ShortRow is = absurd (omega arith)

-- the fault with a number
fault_of : ℕ → Fault
fault_of n = elim (eqb n 40) [
  | true ↦ BadLine
  | false ↦ elim (eqb n 41) [
    | true ↦ HeadingTwice
    | false ↦ elim (eqb n 42) [ true ↦ NoMirror | false ↦ elim (eqb n 43) [ true ↦ Size | false ↦ ShortRow ] ]
  ]
]

-- what was told, back from its number: a refusal, or what is told behind 0
pub told-back : {A : Type 0} → ℕ → ℕ → A → Result A Refusal
told-back number line a = elim (eqb number 0) [ true ↦ Ok a | false ↦ Err (record { fault = fault_of number; line = line }) ]

pub back-good : {A : Type 0} (a : A) → told-back 0 0 a ≡ Ok a
unfolding told-back
back-good a = refl

pub back-refused : {A : Type 0} (r : Refusal) (a : A) → told-back (number_of r.fault) r.line a ≡ Err r
unfolding told-back fault_of
back-refused r a = by r.fault r.line
  where
    by : (f : Fault) (line : ℕ) → told-back (number_of f) line a ≡ Err (record { fault = f; line = line })
    by BadLine line = refl
    by HeadingTwice line = refl
    by NoMirror line = refl
    by Size line = refl
    by ShortRow line = refl

-- ONE ANSWER to what is told of the terms
terms-back : (r : Result Rows Refusal)
    → told-back (told_of r).number (told_of r).line (record { headings = (told_of r).headings; size = (told_of r).size; from = (told_of r).from; to = (told_of r).to }) ≡ r
terms-back (Ok t) = back-good t
terms-back (Err e) = back-refused e _

pub one-terms : (r q : Result Rows Refusal) → told_of r ≡ told_of q → r ≡ q
one-terms r q same =
    let back : Terms → Result Rows Refusal = λ t. told-back t.number t.line (record { headings = t.headings; size = t.size; from = t.from; to = t.to }) in
    sym (terms-back r) ∙ ap back same ∙ terms-back q
