-- ONE ANSWER: what is told of a converted book, and the room, come from one result and one room.
use mathlib.Core.List.{List}
use mathlib.Core.Path.{◌≡◌, refl, sym, ap, ◌∙◌}
use Prim.Native.Nat.{ℕ, ◌+◌, ◌≤◌}
use native.Mathlib.Omega.{arith}
use Rattle.std.specs.Prelude.{Result, Ok, Err}
use Rattle.reading.specs.declared.Refusal.{Refusal as Unanswered}
use Rattle.reading.specs.declared.Asker.{Asker}
use Rattle.reading.specs.declared.Asker.TheVariants.{Book, Question}
use Rattle.reading.specs.declared.Fault.{Fault}
use Rattle.reading.specs.declared.Fault.TheVariants.{Extent, Version, Symbol, Code, Sort}
use Rattle.reading.specs.Answer.{base_of, number_of}
use Rattle.reading.proofs.Told.{same_refusal}
use Rattle.converter.specs.Convert.{Outcome}
use Rattle.converter.specs.InCode.{after}
use Rattle.converter.specs.declared.Refusal.{Refusal}
use Rattle.converter.specs.declared.Refusal.TheVariants.{Unread, NoRoom}

-- a refusal of the reader has a number from 1 to 15
numbered : (who : Asker) (fault : Fault) → (1 ≤ base_of who + number_of fault) × (base_of who + number_of fault ≤ 15)
numbered Book Extent = (omega arith, omega arith)
numbered Book Version = (omega arith, omega arith)
numbered Book Symbol = (omega arith, omega arith)
numbered Book Code = (omega arith, omega arith)
numbered Book Sort = (omega arith, omega arith)
numbered Question Extent = (omega arith, omega arith)
numbered Question Version = (omega arith, omega arith)
numbered Question Symbol = (omega arith, omega arith)
numbered Question Code = (omega arith, omega arith)
numbered Question Sort = (omega arith, omega arith)

same_result : (r q : Result ℕ Refusal) (room left : List ℕ) → after r room ≡ after q left → r ≡ q
same_result (Ok bytes) (Ok bytes') room left same = ap Ok (ap (λ (o : Outcome). o.bytes) same)
same_result (Ok bytes) (Err (Unread r)) room left same = absurd (omega (arith, numbered r.who r.fault, ap (λ (o : Outcome). o.number) same))
same_result (Ok bytes) (Err NoRoom) room left same = absurd (omega (arith, ap (λ (o : Outcome). o.number) same))
same_result (Err (Unread r)) (Ok bytes) room left same = absurd (omega (arith, numbered r.who r.fault, ap (λ (o : Outcome). o.number) same))
same_result (Err NoRoom) (Ok bytes) room left same = absurd (omega (arith, ap (λ (o : Outcome). o.number) same))
same_result (Err (Unread r)) (Err (Unread q)) room left same =
    ap (λ (u : Unanswered). Err (Unread u)) (same_refusal r q (ap (λ (o : Outcome). o.number) same) (ap (λ (o : Outcome). o.place) same))
same_result (Err (Unread r)) (Err NoRoom) room left same = absurd (omega (arith, numbered r.who r.fault, ap (λ (o : Outcome). o.number) same))
same_result (Err NoRoom) (Err (Unread r)) room left same = absurd (omega (arith, numbered r.who r.fault, ap (λ (o : Outcome). o.number) same))
same_result (Err NoRoom) (Err NoRoom) room left same = refl

room-is : (r : Result ℕ Refusal) (room : List ℕ) → (after r room).room ≡ room
room-is (Ok bytes) room = refl
room-is (Err refusal) room = refl

pub one-answer : (r q : Result ℕ Refusal) (room left : List ℕ) → after r room ≡ after q left → (r ≡ q) × (room ≡ left)
one-answer r q room left same = (same_result r q room left same, sym (room-is r room) ∙ ap (λ (o : Outcome). o.room) same ∙ room-is q left)
