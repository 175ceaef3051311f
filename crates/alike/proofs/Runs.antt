-- RUNS beside one another: whatever the shared run's fuel and room, each question's own run, with room enough, comes by some number of turns to a
-- state that is alike what the shared run holds of the question.
use mathlib.Core.Bool.{Bool}
use mathlib.Core.Path.{◌≡◌, refl, sym, ap, subst, ◌∙◌}
use mathlib.Core.List.{List, [], ◌∷◌}
use Prim.Native.Nat.{ℕ, zero, suc, ◌+◌, ◌≤◌}
use native.Mathlib.Omega.{arith}
use native.Mathlib.Decide.{ℕ_discrete}
use lib.ListN.{length}
use Rattle.limits.specs.Sizes.{most_choices}
use Rattle.limits.specs.Lent.{Entry as PlainEntry}
use Rattle.book.specs.Rules.{Book}
use Rattle.nodes.specs.Nodes.{Heap}
use Rattle.machine.specs.Turn as Plain
use Rattle.machine.specs.Turn.{Rooms}
use Rattle.rewriting.specs.Rewriting.{Value}
use Rattle.rewriting.proofs.Steers.{Lawful}
use Rattle.rewriting.proofs.Update.{update, update_same, update_other}
use Rattle.meaning.proofs.Turns.{Good, Kept, turn-kept}
use Rattle.forwards.specs.Shorten.{Following}
use Rattle.alike.specs.Asked.{Entry}
use Rattle.alike.specs.Turning as Later
use Rattle.alike.specs.Turning.{State}
use Rattle.alike.proofs.Alike.{Pairing}
use Rattle.alike.proofs.Shortcuts.{Harmless}
use Rattle.alike.proofs.Entries.{rising-few}
use Rattle.alike.proofs.Free.{Free, free, judge, written, by-none, Within, LaterWithin, turn-judged}
use Rattle.alike.proofs.Shared.{Shared}
use Rattle.alike.proofs.Turns.{Onward}
use Rattle.alike.proofs.Judged.{Would, Stays, Result, turn-result}

-- ---- own runs with room enough

-- in n turns from s to t
pub data Runs (B : Book) : Plain.State → ℕ → Plain.State → Type 0 where
  here : {s : Plain.State} → Runs B s 0 s
  then : {s u t : Plain.State} {n : ℕ} {e : PlainEntry} {rest : List PlainEntry} → s.waiting ≡ e ∷ rest → free B s e rest ≡ Free.comes u
      → u.choices ≤ most_choices → Runs B u n t → Runs B s (suc n) t

-- one turn more
pub runs_on : {B : Book} {s t u : Plain.State} {n : ℕ} {e : PlainEntry} {rest : List PlainEntry} → Runs B s n t → t.waiting ≡ e ∷ rest
    → free B t e rest ≡ Free.comes u → u.choices ≤ most_choices → Runs B s (suc n) u
runs_on here front comes few = then front comes few here
runs_on (then f c k r) front comes few = then f c k (runs_on r front comes few)

-- a turn with room enough, by the plain machine in any room for both states
pub plain_turn : (B : Book) (room : Rooms) (s t : Plain.State) (e : PlainEntry) (rest : List PlainEntry) → s.waiting ≡ e ∷ rest
    → free B s e rest ≡ Free.comes t → Within room s → Within room t → Plain.turn B room s e rest ≡ Plain.whole t
unfolding judge
plain_turn B room s t e rest front comes fits fits' =
    turn-judged B room s e rest front fits ∙ ap (judge room) comes
    ∙ sym (by-none Plain.refused (Plain.whole t) room (length t.heap) t.choices (length t.waiting) (written t)
    fits'.nodes-fit fits'.choices-fit fits'.places-fit fits'.bytes_fit)

-- room for two states
bigger : Plain.State → Plain.State → Rooms
bigger s t = record {
  nodes = length s.heap + length t.heap;
  places = length s.waiting + length t.waiting;
  bytes = written s + written t;
}

-- it keeps a state as it should be
pub good-next : (B : Book) (P : Heap → Type 0) (W : Value → Type 0) → Lawful B P → {s t : Plain.State} (e : PlainEntry) (rest : List PlainEntry)
    → s.waiting ≡ e ∷ rest → free B s e rest ≡ Free.comes t → t.choices ≤ most_choices → Good B P W s → Good B P W t
unfolding bigger
good-next B P W law {s} {t} e rest front comes few good =
    only (subst (Kept B P W room) (plain_turn B room s t e rest front comes fits fits') (turn-kept B P W room s e rest front good law))
  where
    room : Rooms
    room = bigger s t

    fits : Within room s
    fits = record { nodes-fit = omega arith; choices-fit = good.few; places-fit = omega arith; bytes_fit = omega arith }

    fits' : Within room t
    fits' = record { nodes-fit = omega arith; choices-fit = few; places-fit = omega arith; bytes_fit = omega arith }

    only : Kept B P W room (Plain.whole t) → Good B P W t
    only (Kept.whole g) = g

-- ---- beside a shared run

module _ (leaves : Following) (harmless : Harmless leaves) (B : Book) (P : Heap → Type 0) (law : Lawful B P) (W : ℕ → Value → Type 0) (row : Bool)
    (room : Rooms) (start : ℕ → Plain.State) where
  -- the own runs, from their starts to states that are alike S
  pub record Beside (S : State) : Type 1 where
    pub alone : ℕ → Plain.State
    pub numbers : ℕ → List ℕ
    pub pairs : ℕ → Pairing
    pub shared : Shared alone numbers pairs S
    pub good : (q : ℕ) → Good B P (W q) (alone q)
    pub turns : ℕ → ℕ
    pub ran : (q : ℕ) → Runs B (start q) (turns q) (alone q)
    pub within : LaterWithin row room S

  -- a whole turn
  pub beside-whole : {S T : State} (b : Beside S) {numbers : ℕ → List ℕ} (q : ℕ) → Would B row room b.alone numbers S q T → LaterWithin row room T → Beside T
  beside-whole {S} {T} b q w fits = record {
    alone = update b.alone q w.next;
    numbers = on.numbers;
    pairs = on.pairs;
    shared = on.shared;
    good = λ r. good r (ℕ_discrete r q);
    turns = update b.turns q (suc (b.turns q));
    ran = λ r. ran r (ℕ_discrete r q);
    within = fits;
  }
    where
      on : Onward b.alone q w.next T
      on = w.onward fits.choices-fit

      few : w.next.choices ≤ most_choices
      few =
          let f = on.shared.each q in
          let same = update_same b.alone q w.next q refl in
          let many = rising-few (on.numbers q) f.rising f.below in
          let counted = f.numbered ∙ ap (λ (s : Plain.State). s.choices) same in
          omega (arith, many, counted, on.shared.few)

      good : (r : ℕ) → Dec (r ≡ q) → Good B P (W r) (update b.alone q w.next r)
      good r (yes e) = rw (update_same b.alone q w.next r e, e)
          (good-next B P (W q) law w.entry w.behind w.in_front w.comes few (b.good q))
      good r (no n) = rw (update_other b.alone q w.next r n) (b.good r)

      ran : (r : ℕ) → Dec (r ≡ q) → Runs B (start r) (update b.turns q (suc (b.turns q)) r) (update b.alone q w.next r)
      ran r (yes e) = rw (update_same b.alone q w.next r e, update_same b.turns q (suc (b.turns q)) r e, e)
          (runs_on (b.ran q) w.in_front w.comes few)
      ran r (no n) = rw (update_other b.alone q w.next r n, update_other b.turns q (suc (b.turns q)) r n) (b.ran r)

  pub whole-alone : {S T : State} (b : Beside S) {numbers : ℕ → List ℕ} (q : ℕ) (w : Would B row room b.alone numbers S q T) (fits : LaterWithin row room T)
      → (beside-whole b q w fits).alone q ≡ w.next
  unfolding beside-whole
  whole-alone b q w fits = update_same b.alone q w.next q refl

  -- a refused one
  pub beside_stays : {S T : State} (b : Beside S) (q : ℕ) → Stays B row room b.alone b.numbers S q T → LaterWithin row room T → Beside T
  beside_stays b q u fits = record {
    alone = b.alone;
    numbers = b.numbers;
    pairs = u.pairs;
    shared = u.shared;
    good = b.good;
    turns = b.turns;
    ran = b.ran;
    within = fits;
  }

  -- how a run ends: beside the own runs, and with nothing waiting if it is finished
  pub record EndsBeside (r : Later.Ended) : Type 1 where
    pub beside : Beside r.state
    pub finished : r.number ≡ 0 → r.state.waiting ≡ []

  -- ALL TURNS
  pub turns-beside : (fuel : ℕ) (S : State) → Beside S → EndsBeside (Later.turns leaves B row room fuel S)
  unfolding Later.turns Later.turns_by Later.after
  turns-beside zero S b = go S.waiting refl
    where
      go : (l : List Entry) → S.waiting ≡ l
          → EndsBeside (elim l [ [] ↦ record { number = 0; state = S } | e ∷ rest ↦ record { number = 20; state = S } ])
      go [] q = record { beside = b; finished = λ z. q }
      go (e ∷ rest) q = record { beside = b; finished = λ z. absurd (omega arith) }
  turns-beside (suc fuel) S b = go S.waiting refl (turns-beside fuel)
    where
      by : {y : Later.Turned} (e : Entry) → Result B row room b.alone b.numbers S e.question y
          → ((T : State) → Beside T → EndsBeside (Later.turns leaves B row room fuel T))
          → EndsBeside (Later.after y (λ t. Later.turns leaves B row room fuel t))
      by e (Result.whole {T} w fits) ih = ih T (beside-whole b e.question w fits)
      by e (Result.refused {c} lt u fits far) ih = record { beside = beside_stays b e.question u fits; finished = λ z. absurd (omega arith) }

      go : (l : List Entry) → S.waiting ≡ l → ((T : State) → Beside T → EndsBeside (Later.turns leaves B row room fuel T))
          → EndsBeside (elim l [
            | [] ↦ record { number = 0; state = S }
            | e ∷ rest ↦ Later.after (Later.turn leaves B row room S e rest) (λ t. Later.turns leaves B row room fuel t)
          ])
      go [] q ih = record { beside = b; finished = λ z. q }
      go (e ∷ rest) q ih = by e (turn-result leaves harmless B P law W row room b.good b.shared b.within e rest q) ih
