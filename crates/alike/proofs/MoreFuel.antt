-- REQUEST L11 for the later machine: where fuel was spent more of it goes on from there, any other end stays, and answers are only added.
use mathlib.Core.Bool.{Bool, true, false}
use mathlib.Core.Path.{◌≡◌, refl, sym, ap, subst, ◌∙◌}
use mathlib.Core.Logic.{◌≢◌}
use mathlib.Core.List.{List, [], ◌∷◌, ◌++◌, append-nil, append_assoc}
use Prim.Native.Nat.{ℕ, zero, suc, ◌+◌, ◌<◌}
use native.Mathlib.Omega.{arith}
use native.Mathlib.Decide.{ℕ_discrete}
use lib.Dec.{ltb, eqb}
use lib.ListN.{length, get_or}
use Rattle.limits.specs.Sizes.{most_choices}
use Rattle.limits.specs.declared.Side.{Side}
use Rattle.limits.specs.declared.Side.TheVariants.{Open, Left, Right}
use Rattle.book.specs.Rules.{Book}
use Rattle.nodes.specs.Nodes.{Node, apply, choice, fail, forward, Heap, at}
use Rattle.nodes.specs.Forwards.{follow}
use Rattle.machine.specs.Walk.{Found}
use Rattle.machine.specs.Turn.{Rooms}
use Rattle.forwards.specs.Shorten.{Following}
use Rattle.alike.specs.Walking.{walk}
use Rattle.alike.specs.Asked.{Entry, Answer}
use Rattle.alike.specs.Turning as Later
use Rattle.alike.specs.Turning.{State, Turned, Ended, with_nodes, dropped, turns_by}
use Rattle.alike.proofs.Dropping.{dropped-waiting}

-- what a turn comes to: answers added and a turn counted, or a number above 20 and neither, with as many entries waiting
pub data Adds (answers : List Answer) (turns waits : ℕ) : Turned → Type 0 where
  whole : {t : State} (new : List Answer) → t.answers ≡ answers ++ new → t.turns ≡ suc turns → Adds answers turns waits (Turned.whole t)
  refused : {c : ℕ} {t : State} → 20 < c → t.answers ≡ answers → t.turns ≡ turns → length t.waiting ≡ waits
      → Adds answers turns waits (Turned.refused c t)

-- ---- a turn

module _ (leaves : Following) (B : Book) (row : Bool) (room : Rooms) where
  module _ (s : State) (e : Entry) (rest : List Entry) where
    abbrev Out : Turned → Type 0
    Out y = Adds s.answers s.turns (length s.waiting) y

    turned_adds : (h : Heap) (k : ℕ) (joining : List Entry) → Out (Turned.whole (Later.turned s h k rest joining))
    unfolding Later.turned
    turned_adds h k joining = Adds.whole [] (sym (append-nil s.answers)) refl

    test_adds : (b : Bool) (c : ℕ) (y : Turned) → 20 < c → Out y → Out (elim b [ true ↦ Turned.refused c s | false ↦ y ])
    test_adds true c y lt a = Adds.refused lt refl refl refl
    test_adds false c y lt a = a

    split_adds : (i l r : ℕ) (c : Side) → Out (Later.split leaves B row room s rest e.question i l r e.decisions c)
    unfolding Later.split
    split_adds i l r Left = turned_adds s.heap s.choices _
    split_adds i l r Right = turned_adds s.heap s.choices _
    split_adds i l r Open = test_adds (ltb room.places (length rest + 2)) 23 _ (omega arith) (turned_adds s.heap s.choices _)

    step_adds : (h : Heap) (k : ℕ) → Out (Later.stepped leaves B row room s rest e h k)
    unfolding Later.stepped
    step_adds h k =
        test_adds (ltb room.nodes (length h)) 21 _ (omega arith) (test_adds (ltb most_choices k) 22 _ (omega arith) (turned_adds h k (e ∷ [])))

    done_adds : (n : ℕ) (y : Found) → Out (Later.done leaves B row room s rest e n y)
    unfolding Later.done Later.answered Later.gone
    done_adds n (Found.finished a) = test_adds (ltb room.bytes _) 25 _ (omega arith) (Adds.whole _ refl refl)
    done_adds n Found.goes = turned_adds s.heap s.choices []
    done_adds n (Found.fails m) = step_adds _ _
    done_adds n (Found.rewrites m x vs) = step_adds _ _
    done_adds n (Found.pulls m j i l r) = step_adds _ _
    done_adds n Found.far = Adds.refused {c = 24} (omega arith) refl refl refl

  -- an attempt
  attempt_adds : (s : State) (e : Entry) (rest : List Entry) → Adds s.answers s.turns (length s.waiting) (Later.attempt leaves B row room s e rest)
  unfolding Later.attempt Later.turn_at Later.gone with_nodes
  attempt_adds s e rest = go (follow s.heap e.root) (at (leaves s.heap e.root) (follow s.heap e.root))
    where
      t : State
      t = with_nodes s (leaves s.heap e.root)

      go : (n : ℕ) (y : Node) → Adds s.answers s.turns (length s.waiting) (Later.turn_at leaves B row room t rest e n y)
      go n fail = turned_adds t e rest t.heap t.choices []
      go n (forward m) = turned_adds t e rest t.heap t.choices []
      go n (choice i l r) = split_adds t e rest i l r (get_or e.decisions i Open)
      go n (apply f xs) = done_adds (with_nodes t (walk leaves B n t.heap).nodes) e rest n (walk leaves B n t.heap).found

  -- a second one
  attempted_adds : (s : State) (l : List Entry) (answers : List Answer) (turns waits : ℕ) → s.answers ≡ answers → s.turns ≡ turns
      → length s.waiting ≡ waits → length l ≡ waits → 0 < waits
      → Adds answers turns waits (elim l [ [] ↦ Turned.whole s | e ∷ rest ↦ Later.attempt leaves B row room s e rest ])
  attempted_adds s [] answers turns waits ea et ew el some = absurd (omega arith)
  attempted_adds s (e ∷ rest) answers turns waits ea et ew el some =
      subst (λ (a : List Answer). Adds a turns waits (Later.attempt leaves B row room s e rest)) ea
      (subst (λ (n : ℕ). Adds s.answers n waits (Later.attempt leaves B row room s e rest)) et
      (subst (λ (n : ℕ). Adds s.answers s.turns n (Later.attempt leaves B row room s e rest)) ew (attempt_adds s e rest)))

  -- the turn
  turn_adds : (s : State) (e : Entry) (rest : List Entry) → s.waiting ≡ e ∷ rest
      → Adds s.answers s.turns (length s.waiting) (Later.turn leaves B row room s e rest)
  unfolding Later.turn Later.again Later.attempted dropped
  turn_adds s e rest front = go (attempt_adds s e rest)
    where
      some : 0 < length s.waiting
      some = rw front (omega arith)

      by : (b : Bool) (c : ℕ) (t : State) → 20 < c → t.answers ≡ s.answers → t.turns ≡ s.turns → length t.waiting ≡ length s.waiting
          → Adds s.answers s.turns (length s.waiting) (elim b [ true ↦ Later.attempted leaves B row room (dropped t) | false ↦ Turned.refused c t ])
      by true c t lt a n w =
          attempted_adds (dropped t) (dropped t).waiting s.answers s.turns (length s.waiting) a n (dropped-waiting t ∙ w) (dropped-waiting t ∙ w) some
      by false c t lt a n w = Adds.refused lt a n w

      go : {y : Turned} → Adds s.answers s.turns (length s.waiting) y
          → Adds s.answers s.turns (length s.waiting) (Later.again (Later.attempted leaves B row room) y)
      go (Adds.whole new a n) = Adds.whole new a n
      go (Adds.refused {c} {t} lt a n w) = by (eqb c 21) c t lt a n w

-- ---- runs

-- a kind of turn that only adds
abbrev pub Adding : (State → Entry → List Entry → Turned) → Type 0
Adding step = (s : State) (e : Entry) (rest : List Entry) → s.waiting ≡ e ∷ rest
    → Adds s.answers s.turns (length s.waiting) (step s e rest)

-- L7's are
pub attempts_add : (leaves : Following) (B : Book) (row : Bool) (room : Rooms) → Adding (Later.attempt leaves B row room)
attempts_add leaves B row room s e rest front = attempt_adds leaves B row room s e rest

-- so are L10's
pub turns_adding : (leaves : Following) (B : Book) (row : Bool) (room : Rooms) → Adding (Later.turn leaves B row room)
turns_adding leaves B row room s e rest front = turn_adds leaves B row room s e rest front

module _ (step : State → Entry → List Entry → Turned) (adding : Adding step) where
  -- the course of a run
  data Course : ℕ → State → Ended → Type 0 where
    finished : {fuel : ℕ} {s : State} → s.waiting ≡ [] → Course fuel s (record { number = 0; state = s })
    spent : {s : State} {e : Entry} {rest : List Entry} → s.waiting ≡ e ∷ rest → Course 0 s (record { number = 20; state = s })
    stopped : {fuel c : ℕ} {s t : State} {e : Entry} {rest : List Entry} → s.waiting ≡ e ∷ rest → step s e rest ≡ Turned.refused c t → 20 < c
        → t.answers ≡ s.answers → Course (suc fuel) s (record { number = c; state = t })
    onward : {fuel : ℕ} {s t : State} {e : Entry} {rest : List Entry} {r : Ended} (new : List Answer) → s.waiting ≡ e ∷ rest
        → step s e rest ≡ Turned.whole t → t.answers ≡ s.answers ++ new → Course fuel t r → Course (suc fuel) s r

  abbrev first-turn : ℕ → State → List Entry → Ended
  first-turn fuel s l = elim l [ [] ↦ record { number = 0; state = s } | e ∷ rest ↦ Later.after (step s e rest) (λ t. turns_by step fuel t) ]

  course : (fuel : ℕ) (s : State) → Course fuel s (turns_by step fuel s)
  unfolding turns_by Later.after
  course zero s = go s.waiting refl
    where
      go : (l : List Entry) → s.waiting ≡ l → Course 0 s (elim l [ [] ↦ record { number = 0; state = s } | e ∷ rest ↦ record { number = 20; state = s } ])
      go [] q = finished q
      go (e ∷ rest) q = spent q
  course (suc fuel) s = go s.waiting refl (course fuel)
    where
      by : {e : Entry} {rest : List Entry} {y : Turned} → s.waiting ≡ e ∷ rest → step s e rest ≡ y → Adds s.answers s.turns (length s.waiting) y
          → ((t : State) → Course fuel t (turns_by step fuel t)) → Course (suc fuel) s (Later.after y (λ t. turns_by step fuel t))
      by q is (Adds.whole {t} new a n) ih = onward new q is a (ih t)
      by q is (Adds.refused lt a n w) ih = stopped q is lt a

      go : (l : List Entry) → s.waiting ≡ l → ((t : State) → Course fuel t (turns_by step fuel t)) → Course (suc fuel) s (first-turn fuel s l)
      go [] q ih = finished q
      go (e ∷ rest) q ih = by q refl (adding s e rest q) ih

  course_is : {fuel : ℕ} {s : State} {r : Ended} → Course fuel s r → turns_by step fuel s ≡ r
  unfolding turns_by Later.after
  course_is (finished {fuel} {s} q) = none fuel
    where
      none : (fuel : ℕ) → turns_by step fuel s ≡ record { number = 0; state = s }
      none zero = ap (λ (l : List Entry). elim l [ [] ↦ record { number = 0; state = s } | e ∷ rest ↦ record { number = 20; state = s } ]) q
      none (suc fuel) = ap (first-turn fuel s) q
  course_is (spent {s} q) = ap (λ (l : List Entry). elim l [ [] ↦ record { number = 0; state = s } | e ∷ rest ↦ record { number = 20; state = s } ]) q
  course_is (stopped {fuel} {s} q is lt a) = ap (first-turn fuel s) q ∙ ap (λ (y : Turned). Later.after y (λ t. turns_by step fuel t)) is
  course_is (onward {fuel} {s} new q is a c) =
      ap (first-turn fuel s) q ∙ ap (λ (y : Turned). Later.after y (λ t. turns_by step fuel t)) is ∙ course_is c

  recounted : {fuel fuel' : ℕ} {s : State} {r : Ended} → fuel ≡ fuel' → Course fuel s r → Course fuel' s r
  recounted same c = rw same at c

  goes_on : {F G : ℕ} {s : State} {r r' : Ended} → Course F s r → r.number ≡ 20 → Course G r.state r' → Course (F + G) s r'
  goes_on (finished q) is m = absurd (omega arith)
  goes_on (spent q) is m = recounted (omega arith) m
  goes_on (stopped q w lt a) is m = absurd (omega arith)
  goes_on (onward new q w a c) is m = recounted (omega arith) (onward new q w a (goes_on c is m))

  stays : {F : ℕ} (G : ℕ) {s : State} {r : Ended} → Course F s r → r.number ≢ 20 → Course (F + G) s r
  stays G (finished q) ne = finished q
  stays G (spent q) ne = absurd (ne refl)
  stays G (stopped {fuel} q w lt a) ne = recounted (omega arith) (stopped {fuel = fuel + G} q w lt a)
  stays G (onward new q w a c) ne = recounted (omega arith) (onward new q w a (stays G c ne))

  added : {F : ℕ} {s : State} {r : Ended} → Course F s r → (new : List Answer) × (r.state.answers ≡ s.answers ++ new)
  added (finished {s} q) = ([], sym (append-nil s.answers))
  added (spent {s} q) = ([], sym (append-nil s.answers))
  added (stopped {s} q w lt a) = ([], a ∙ sym (append-nil s.answers))
  added (onward {s} new q w a c) =
      let (more, then) = added c in
      (new ++ more, then ∙ ap (λ (l : List Answer). l ++ more) a ∙ append_assoc s.answers new more)

  -- MORE FUEL goes on where fuel was spent
  pub turns_onward : (F G : ℕ) (s : State) → (turns_by step F s).number ≡ 20 → turns_by step (F + G) s ≡ turns_by step G (turns_by step F s).state
  turns_onward F G s is = course_is (goes_on (course F s) is (course G (turns_by step F s).state))

  -- and changes nothing elsewhere
  pub turns-stay : (F G : ℕ) (s : State) → (turns_by step F s).number ≢ 20 → turns_by step (F + G) s ≡ turns_by step F s
  turns-stay F G s ne = course_is (stays G (course F s) ne)

  -- FIRST ANSWERS
  pub turns-first : (F G : ℕ) (s : State)
      → (more : List Answer) × ((turns_by step (F + G) s).state.answers ≡ (turns_by step F s).state.answers ++ more)
  turns-first F G s = by (ℕ_discrete (turns_by step F s).number 20)
    where
      by : Dec ((turns_by step F s).number ≡ 20)
          → (more : List Answer) × ((turns_by step (F + G) s).state.answers ≡ (turns_by step F s).state.answers ++ more)
      by (yes is) = rw (turns_onward F G s is) (added (course G (turns_by step F s).state))
      by (no ne) = rw (turns-stay F G s ne) ([], sym (append-nil _))
