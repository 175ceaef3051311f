-- The course of a run: turn after turn until nothing waits, fuel is spent or a turn is refused. Where fuel is spent the turns go on with more of
-- it, any other end stays, answers are only added, and each waiting entry comes forward by one place a turn.
use mathlib.Core.Path.{◌≡◌, refl, sym, ap, ◌∙◌}
use mathlib.Core.Logic.{◌⊎◌, inl, inr, ◌≢◌}
use mathlib.Core.List.{List, [], ◌∷◌, ◌++◌, append_assoc, append-nil}
use Prim.Native.Nat.{ℕ, zero, suc, ◌+◌, ◌<◌}
use native.Mathlib.Omega.{arith}
use native.Mathlib.Decide.{ℕ_discrete}
use lib.ListN.{length}
use Rattle.limits.specs.Lent.{Entry}
use Rattle.book.specs.Rules.{Book}
use Rattle.machine.specs.Answers.{Answer}
use Rattle.machine.specs.Turn.{Rooms, State, Turned, Ended, turn, turns}
use Rattle.run.proofs.TurnKeeps.{Grows, Grown, turn_grown}
use Rattle.run.proofs.OnTheRow.{turns-none, turns-spent, turns-refused, turns-whole}
use Rattle.fuel.specs.MoreFuel.{Front, Queued}

module _ (B : Book) (room : Rooms) where
  -- with this fuel a run goes from state s to its end so
  data Course : ℕ → State → Ended → Type 0 where
    finished : {fuel : ℕ} {s : State} → s.waiting ≡ [] → Course fuel s (record { number = 0; state = s })
    spent : {s : State} {e : Entry} {rest : List Entry} → s.waiting ≡ e ∷ rest → Course 0 s (record { number = 20; state = s })
    refused : {fuel : ℕ} {s : State} {e : Entry} {rest : List Entry} {c : ℕ} → s.waiting ≡ e ∷ rest → turn B room s e rest ≡ Turned.refused c
        → 20 < c → Course (suc fuel) s (record { number = c; state = s })
    turned : {fuel : ℕ} {s t : State} {e : Entry} {rest : List Entry} {r : Ended} → s.waiting ≡ e ∷ rest → turn B room s e rest ≡ Turned.whole t
        → Grows room s rest t → Course fuel t r → Course (suc fuel) s r

  -- every run has its course
  course : (fuel : ℕ) (s : State) → Course fuel s (turns B room fuel s)
  course zero s = go s.waiting refl
    where
      -- whether anything waits
      go : (l : List Entry) → s.waiting ≡ l → Course 0 s (turns B room 0 s)
      go [] q = rw (turns-none B room s 0 q) (finished q)
      go (e ∷ rest) q = rw (turns-spent B room s e rest q) (spent q)
  course (suc fuel) s = go s.waiting refl (course fuel)
    where
      -- whether the turn is whole
      by : {e : Entry} {rest : List Entry} (x : Turned) → s.waiting ≡ e ∷ rest → turn B room s e rest ≡ x → Grown room s rest x
          → ((t : State) → Course fuel t (turns B room fuel t)) → Course (suc fuel) s (turns B room (suc fuel) s)
      by (Turned.whole t) q is grows ih = rw (turns-whole B room s _ _ q fuel t is) (turned q is grows (ih t))
      by (Turned.refused c) q is above ih = rw (turns-refused B room s _ _ q fuel c is) (refused q is above)

      -- whether anything waits
      go : (l : List Entry) → s.waiting ≡ l → ((t : State) → Course fuel t (turns B room fuel t)) → Course (suc fuel) s (turns B room (suc fuel) s)
      go [] q ih = rw (turns-none B room s (suc fuel) q) (finished q)
      go (e ∷ rest) q ih = by (turn B room s e rest) q refl (turn_grown B room s e rest) ih

  -- and only one
  course_is : {fuel : ℕ} {s : State} {r : Ended} → Course fuel s r → turns B room fuel s ≡ r
  course_is (finished {fuel} {s} q) = turns-none B room s fuel q
  course_is (spent {s} q) = turns-spent B room s _ _ q
  course_is (refused {fuel} {s} q is above) = turns-refused B room s _ _ q fuel _ is
  course_is (turned {fuel} {s} q is grows c) = turns-whole B room s _ _ q fuel _ is ∙ course_is c

  -- fuel counted otherwise
  recounted : {fuel fuel' : ℕ} {s : State} {r : Ended} → fuel ≡ fuel' → Course fuel s r → Course fuel' s r
  recounted same c = rw same at c

  -- where fuel was spent, the turns go on with more
  onward : {F G : ℕ} {s : State} {r r' : Ended} → Course F s r → r.number ≡ 20 → Course G r.state r' → Course (F + G) s r'
  onward (finished q) is more = absurd (omega arith)
  onward (spent q) is more = recounted (omega arith) more
  onward (refused q refuses above) is more = absurd (omega arith)
  onward (turned q whole grows c) is more = recounted (omega arith) (turned q whole grows (onward c is more))

  -- any other end stays
  stays : {F : ℕ} (G : ℕ) {s : State} {r : Ended} → Course F s r → r.number ≢ 20 → Course (F + G) s r
  stays G (finished q) other = finished q
  stays G (spent q) other = absurd (other refl)
  stays G (refused {fuel} q refuses above) other = recounted (omega arith) (refused {fuel = fuel + G} q refuses above)
  stays G (turned q whole grows c) other = recounted (omega arith) (turned q whole grows (stays G c other))

  -- answers are only added
  added : {F : ℕ} {s : State} {r : Ended} → Course F s r → (new : List Answer) × (r.state.answers ≡ s.answers ++ new)
  added (finished {s} q) = ([], sym (append-nil s.answers))
  added (spent {s} q) = ([], sym (append-nil s.answers))
  added (refused {s} q refuses above) = ([], sym (append-nil s.answers))
  added (turned {s} q whole grows c) =
      let (new, first) = grows.further in
      let (more, then) = added c in
      (new ++ more, then ∙ ap (λ (answers : List Answer). answers ++ more) first ∙ append_assoc s.answers new more)

  -- a run that is not out of fuel is the same with more
  pub turns-stay : (F G : ℕ) (s : State) → (turns B room F s).number ≢ 20 → turns B room (F + G) s ≡ turns B room F s
  turns-stay F G s other = course_is (stays G (course F s) other)

  -- one that is goes on from there
  pub turns_onward : (F G : ℕ) (s : State) → (turns B room F s).number ≡ 20 → turns B room (F + G) s ≡ turns B room G (turns B room F s).state
  turns_onward F G s is = course_is (onward (course F s) is (course G (turns B room F s).state))

  -- the answers at one end are the first ones at another
  abbrev pub FirstOf : Ended → Ended → Type 0
  FirstOf r r' = (more : List Answer) × (r'.state.answers ≡ r.state.answers ++ more)

  -- FIRST ANSWERS of a state
  pub turns_add : (F G : ℕ) (s : State) → FirstOf (turns B room F s) (turns B room (F + G) s)
  turns_add F G s = by (ℕ_discrete (turns B room F s).number 20)
    where
      -- whether fuel was spent
      by : Dec ((turns B room F s).number ≡ 20) → FirstOf (turns B room F s) (turns B room (F + G) s)
      by (yes is) = rw (turns_onward F G s is) (added (course G (turns B room F s).state))
      by (no other) = rw (turns-stay F G s other) ([], sym (append-nil _))

  -- after the turn of the one in front, e is one place further on
  further_on : {s t : State} {x e : Entry} {before : List Entry} (behind joining : List Entry) {r : Ended} → t.turns ≡ suc s.turns
      → (20 < r.number) ⊎ Front t before e (behind ++ joining) r → (20 < r.number) ⊎ Front s (x ∷ before) e behind r
  further_on behind joining counted (inl stopped) = inl stopped
  further_on {e} behind joining counted (inr front) = inr (record {
    spent = front.spent;
    turns = omega (arith, front.turns);
    joined = joining ++ front.joined;
    waiting = front.waiting ∙ ap (◌∷◌ e) (append_assoc behind joining front.joined);
  })

  -- those before it have their turns first
  queued : (before : List Entry) {s : State} {r : Ended} (e : Entry) (behind : List Entry) → s.waiting ≡ before ++ (e ∷ behind)
      → Course (length before) s r → (20 < r.number) ⊎ Front s before e behind r
  queued [] e behind at (finished q) = absurd (let z : ◌≡◌ {A = ℕ} 0 1 = cc in omega arith)
  queued [] e behind at (spent q) =
      inr (record { spent = refl; turns = omega arith; joined = []; waiting = at ∙ ap (◌∷◌ e) (sym (append-nil behind)) })
  queued (x ∷ before) e behind at (finished q) = absurd (let z : ◌≡◌ {A = ℕ} 0 1 = cc in omega arith)
  queued (x ∷ before) e behind at (refused q refuses above) = inl above
  queued (x ∷ before) e behind at (turned {rest} q whole grows c) =
      let (joining, joined) = grows.behind in
      let others : rest ≡ before ++ (e ∷ behind) = cc in
      let next = joined ∙ ap (λ (l : List Entry). l ++ joining) others ∙ append_assoc before (e ∷ behind) joining in
      further_on behind joining grows.counted (queued before e (behind ++ joining) next c)

  -- ITS TURN of a state
  pub turns_queued : (s : State) → Queued B room s
  turns_queued s before e behind at = queued before e behind at (course (length before) s)
