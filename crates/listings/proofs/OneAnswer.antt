-- ONE ANSWER: what is told of a written book, and the room, come from one result and one room.
use mathlib.Core.Path.{◌≡◌, refl, sym, ap, ◌∙◌}
use mathlib.Core.List.{List}
use Prim.Native.Nat.{ℕ}
use Rattle.std.specs.Prelude.{Result, Ok, Err}
use Rattle.tagged.specs.Write.{Outcome}
use Rattle.terms.specs.declared.faults.Refusal.{Refusal}
use Rattle.terms.proofs.Refusals.{told-back, back-good, back-refused}
use Rattle.listings.specs.Putting.{outcome_of}

back : Outcome → Result ℕ Refusal
back o = told-back o.result.number o.result.line o.result.bytes

back-is : (r : Result ℕ Refusal) (room : List ℕ) → back (outcome_of r room) ≡ r
unfolding back
back-is (Ok bytes) room = back-good bytes
back-is (Err e) room = back-refused e 0

room-is : (r : Result ℕ Refusal) (room : List ℕ) → (outcome_of r room).room ≡ room
room-is (Ok bytes) room = refl
room-is (Err e) room = refl

pub one-answer : (r q : Result ℕ Refusal) (room after : List ℕ) → outcome_of r room ≡ outcome_of q after → (r ≡ q) × (room ≡ after)
one-answer r q room after same = (sym (back-is r room) ∙ ap back same ∙ back-is q after, sym (room-is r room) ∙ ap (λ (o : Outcome). o.room) same ∙ room-is q after)
