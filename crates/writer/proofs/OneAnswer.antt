-- ONE ANSWER: what is told of a written book, and the room, come from one result and one room.
use mathlib.Core.Bool.{true, false}
use mathlib.Core.List.{List}
use mathlib.Core.Path.{◌≡◌, refl, sym, ap, ◌∙◌}
use Prim.Native.Nat.{ℕ, zero, suc}
use lib.Dec.{eqb}
use Rattle.std.specs.Prelude.{Result, Ok, Err}
use Rattle.writer.specs.Write.{Outcome}
use Rattle.writer.specs.InCode.{after}
use Rattle.writer.specs.declared.Refusal.{Refusal}
use Rattle.writer.specs.declared.Refusal.TheVariants.{NotABook, NoRoom}

-- by its number it is a book's size, a row at fault, or want of room
told_back : ℕ → ℕ → ℕ → Result ℕ Refusal
told_back zero row bytes = Ok bytes
told_back (suc n) row bytes = Err (elim (eqb n 49) [ true ↦ NotABook row | false ↦ NoRoom ])

back : Outcome → Result ℕ Refusal
back o = told_back o.result.number o.result.row o.result.bytes

back-is : (r : Result ℕ Refusal) (room : List ℕ) → back (after r room) ≡ r
unfolding back told_back
back-is (Ok bytes) room = refl
back-is (Err (NotABook row)) room = refl
back-is (Err NoRoom) room = refl

pub one-answer : (r q : Result ℕ Refusal) (room left : List ℕ) → after r room ≡ after q left → (r ≡ q) × (room ≡ left)
one-answer r q room left same = (sym (back-is r room) ∙ ap back same ∙ back-is q left, ap (λ (o : Outcome). o.room) same)
