-- `put_number` meets its contract: a symbol is put in two bytes, any other number in one.
use mathlib.Core.List.{[], ◌∷◌}
use mathlib.Core.Path.{◌≡◌, refl, ◌∙◌}
use Prim.Native.Nat.{ℕ}
use native.Mathlib.Omega.{arith}
use Rattle.reading.specs.Bytes.{two_bytes}
use Rattle.writer.specs.Layout.{byte_of, number_bytes}
use Rattle.writer.specs.InCode.{next_by}
use Rattle.writer.specs.declared.trees.Next.{Next}
use Rattle.writer.specs.declared.trees.Next.TheVariants.{Code, Variable, Symbol}
use Rattle.writer.proofs.made.Made.put_number.Goals as goal

-- a number that is no symbol is one byte
one_byte : (next : Next) (n : ℕ) → (next ≡ Symbol → ⊥) → number_bytes (next_by next) n ≡ byte_of n ∷ []
unfolding number_bytes
one_byte Code n is = refl
one_byte Variable n is = refl
one_byte Symbol n is = absurd (is refl)

pub returns-in-Symbol-clause-put : goal.returns-in-Symbol-clause-put
unfolding number_bytes two_bytes
returns-in-Symbol-clause-put c =
    let is = c.in-Symbol.is in
    record { size = rw is refl; bytes = rw is (c.put_two.ensures.number (omega arith)) }

pub returns-in_default-clause-put : goal.returns-in_default-clause-put
returns-in_default-clause-put c =
    let a = c.args in
    let one = one_byte a.next a.n c.in_default.not-Symbol in
    record { size = rw one refl; bytes = rw one (c.put_byte.ensures ∙ rw c.byte_of.ensures) }
