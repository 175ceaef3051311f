-- REQUEST L3: the answers of one question are those it gets alone.
use mathlib.Core.Bool.{Bool, true, false}
use mathlib.Core.Path.{◌≡◌, refl, sym, ap, ◌∙◌}
use mathlib.Core.List.{List, [], ◌∷◌, ◌++◌, append-nil, append_assoc}
use Prim.Native.Nat.{ℕ, zero, suc, ◌+◌, ◌<◌, ◌≤◌}
use native.Mathlib.Omega.{arith}
use borrow.Author.Tests.{eq-eqb, ne_eqb}
use lib.Dec.{ltb}
use lib.ListN.{length, get_or}
use Rattle.limits.specs.Sizes.{most_choices}
use Rattle.limits.specs.declared.Side.{Side}
use Rattle.limits.specs.declared.Side.TheVariants.{Open, Left, Right}
use Rattle.limits.specs.Lent.{Entry as PlainEntry}
use Rattle.expressions.specs.Expressions.{Expr}
use Rattle.book.specs.Rules.{Book}
use Rattle.nodes.specs.Nodes.{Node, apply, choice, fail, forward, Heap, at}
use Rattle.nodes.specs.Forwards.{follow}
use Rattle.machine.specs.Answers.{Answer as PlainAnswer}
use Rattle.machine.specs.Walk.{Found}
use Rattle.machine.specs.Walk as PlainWalk
use Rattle.machine.specs.Turn as Plain
use Rattle.machine.specs.Turn.{Rooms}
use Rattle.rewriting.specs.Lists.{All}
use Rattle.rewriting.proofs.Steers.{Lawful}
use Rattle.forwards.specs.Shorten.{Following}
use Rattle.alike.specs.Asked.{Answer}
use Rattle.alike.specs.Turning as Later
use Rattle.alike.specs.Turning.{State}
use Rattle.alike.specs.Alone.{answers_to, AtLeast, Renumbered, AllRenumbered, AsAlone}
use Rattle.alike.proofs.Shortcuts.{Harmless}
use Rattle.alike.proofs.Entries.{Among, Rising, Below, rising-few, AnswerAlike, To}
use Rattle.alike.proofs.Renumbering.{numbers_renumbered}
use Rattle.alike.proofs.RowReadBack.{all-sized}
use Rattle.alike.proofs.Free.{written, Within, LaterWithin}
use Rattle.alike.proofs.Shared.{Follows}
use Rattle.alike.proofs.Loading.{Had, Fine, starts_on, starts_on_at, idle, loaded-started}
use Rattle.alike.proofs.Runs.{Runs, here, then, plain_turn, Beside, EndsBeside, turns-beside}

-- ---- the plain machine only adds answers

module _ (B : Book) (room : Rooms) (s : Plain.State) (e : PlainEntry) (rest : List PlainEntry) where
  data Adds : Plain.Turned → Type 0 where
    whole : {t : Plain.State} (new : List PlainAnswer) → t.answers ≡ s.answers ++ new → Adds (Plain.whole t)
    refused : {c : ℕ} → Adds (Plain.refused c)

  none-new : s.answers ≡ s.answers ++ []
  none-new = sym (append-nil s.answers)

  turned_adds : (h : Heap) (k : ℕ) (joining : List PlainEntry) → Adds (Plain.whole (Plain.turned s h k rest joining))
  unfolding Plain.turned
  turned_adds h k joining = Adds.whole [] none-new

  test_adds : (b : Bool) (c : ℕ) (y : Plain.Turned) → Adds y → Adds (elim b [ true ↦ Plain.refused c | false ↦ y ])
  test_adds true c y a = Adds.refused
  test_adds false c y a = a

  split_adds : (i l r : ℕ) (c : Side) → Adds (Plain.split B room s rest i l r e.decisions c)
  unfolding Plain.split
  split_adds i l r Left = turned_adds s.heap s.choices _
  split_adds i l r Right = turned_adds s.heap s.choices _
  split_adds i l r Open = test_adds (ltb room.places (length rest + 2)) 23 _ (turned_adds s.heap s.choices _)

  step_adds : (h : Heap) (k : ℕ) → Adds (Plain.stepped B room s rest e h k)
  unfolding Plain.stepped
  step_adds h k = test_adds (ltb room.nodes (length h)) 21 _ (test_adds (ltb most_choices k) 22 _ (turned_adds h k (e ∷ [])))

  done_adds : (n : ℕ) (y : Found) → Adds (Plain.done B room s rest e n y)
  unfolding Plain.done Plain.answered Plain.gone
  done_adds n (Found.finished a) = test_adds (ltb room.bytes _) 25 _ (Adds.whole _ refl)
  done_adds n Found.goes = turned_adds s.heap s.choices []
  done_adds n (Found.fails m) = step_adds _ _
  done_adds n (Found.rewrites m x vs) = step_adds _ _
  done_adds n (Found.pulls m j i l r) = step_adds _ _
  done_adds n Found.far = Adds.refused

  turn_adds : Adds (Plain.turn B room s e rest)
  unfolding Plain.turn Plain.turn_at Plain.gone
  turn_adds = go (follow s.heap e.root) (at s.heap (follow s.heap e.root))
    where
      go : (n : ℕ) (y : Node) → Adds (Plain.turn_at B room s rest e n y)
      go n fail = turned_adds s.heap s.choices []
      go n (forward m) = turned_adds s.heap s.choices []
      go n (choice i l r) = split_adds i l r (get_or e.decisions i Open)
      go n (apply f xs) = done_adds n (PlainWalk.walk B s.heap n)

-- so do all its turns
abbrev pub MoreThan : Plain.State → Plain.Ended → Type 0
MoreThan s r = (more : List PlainAnswer) × (r.state.answers ≡ s.answers ++ more)

pub turns_add : (B : Book) (room : Rooms) (fuel : ℕ) (s : Plain.State) → MoreThan s (Plain.turns B room fuel s)
unfolding Plain.turns Plain.after
turns_add B room zero s = go s.waiting
  where
    go : (l : List PlainEntry) → MoreThan s (elim l [ [] ↦ record { number = 0; state = s } | e ∷ rest ↦ record { number = 20; state = s } ])
    go [] = ([], sym (append-nil s.answers))
    go (e ∷ rest) = ([], sym (append-nil s.answers))
turns_add B room (suc fuel) s = go s.waiting (turns_add B room fuel)
  where
    by : {y : Plain.Turned} {e : PlainEntry} {rest : List PlainEntry} → Adds B room s e rest y
        → ((t : Plain.State) → MoreThan t (Plain.turns B room fuel t)) → MoreThan s (Plain.after y s (λ t. Plain.turns B room fuel t))
    by (Adds.whole {t} new e) ih =
        let (more, is) = ih t in
        (new ++ more, is ∙ ap (λ (l : List PlainAnswer). l ++ more) e ∙ append_assoc s.answers new more)
    by Adds.refused ih = ([], sym (append-nil s.answers))

    go : (l : List PlainEntry) → ((t : Plain.State) → MoreThan t (Plain.turns B room fuel t))
        → MoreThan s (elim l [
          | [] ↦ record { number = 0; state = s }
          | e ∷ rest ↦ Plain.after (Plain.turn B room s e rest) s (λ t. Plain.turns B room fuel t)
        ])
    go [] ih = ([], sym (append-nil s.answers))
    go (e ∷ rest) ih = by (turn_adds B room s e rest) ih

-- ---- an own run with room enough is a run of the plain machine, in that room or more

pub turns-whole : (B : Book) (room : Rooms) (fuel : ℕ) (s t : Plain.State) (e : PlainEntry) (rest : List PlainEntry) → s.waiting ≡ e ∷ rest
    → Plain.turn B room s e rest ≡ Plain.whole t → Plain.turns B room (suc fuel) s ≡ Plain.turns B room fuel t
unfolding Plain.turns Plain.after
turns-whole B room fuel s t e rest front is =
    ap (λ (l : List PlainEntry). elim l [
      | [] ↦ record { number = 0; state = s }
      | e ∷ rest ↦ Plain.after (Plain.turn B room s e rest) s (λ t. Plain.turns B room fuel t)
    ]) front ∙ ap (λ (y : Plain.Turned). Plain.after y s (λ t. Plain.turns B room fuel t)) is

pub turns-finished : (B : Book) (room : Rooms) (fuel : ℕ) (s : Plain.State) → s.waiting ≡ [] → Plain.turns B room fuel s ≡ record { number = 0; state = s }
unfolding Plain.turns Plain.after
turns-finished B room zero s e =
    ap (λ (l : List PlainEntry). elim l [ [] ↦ record { number = 0; state = s } | e ∷ rest ↦ record { number = 20; state = s } ]) e
turns-finished B room (suc fuel) s e = ap (λ (l : List PlainEntry). elim l [
  | [] ↦ record { number = 0; state = s }
  | e ∷ rest ↦ Plain.after (Plain.turn B room s e rest) s (λ t. Plain.turns B room fuel t)
]) e

-- the room that a run needs
pub record Needs (B : Book) (s : Plain.State) (n : ℕ) (t : Plain.State) : Type 0 where
  pub least : Rooms
  pub within : (room : Rooms) → AtLeast least room → Within room s
  pub goes : (room : Rooms) → AtLeast least room → (fuel : ℕ) → Plain.turns B room (n + fuel) s ≡ Plain.turns B room fuel t

needs : {B : Book} {s t : Plain.State} {n : ℕ} → s.choices ≤ most_choices → Runs B s n t → Needs B s n t
needs {B} {s} few here = record {
  least = record { nodes = length s.heap; places = length s.waiting; bytes = written s };
  within = λ room al. record { nodes-fit = al.nodes; choices-fit = few; places-fit = al.places; bytes_fit = al.bytes };
  goes = λ room al fuel. ap (λ k. Plain.turns B room k s) (omega arith);
}
needs {B} {s} few (then {u} {n} {e} {rest} front comes few' r) =
    let rest-needs = needs few' r in
    let more = rest-needs.least in
    let fits : (room : Rooms) → AtLeast (record { nodes = length s.heap + more.nodes; places = length s.waiting + more.places; bytes = written s + more.bytes }) room
    → Within room s = λ room al. record {
      nodes-fit = omega (arith, al.nodes);
      choices-fit = few;
      places-fit = omega (arith, al.places);
      bytes_fit = omega (arith, al.bytes);
    } in
    let less : (room : Rooms) → AtLeast (record { nodes = length s.heap + more.nodes; places = length s.waiting + more.places; bytes = written s + more.bytes }) room
    → AtLeast more room = λ room al. record {
      nodes = omega (arith, al.nodes);
      places = omega (arith, al.places);
      bytes = omega (arith, al.bytes);
    } in
    record {
      least = record { nodes = length s.heap + more.nodes; places = length s.waiting + more.places; bytes = written s + more.bytes };
      within = fits;
      goes = λ room al fuel.
          ap (λ k. Plain.turns B room k s) (omega arith)
          ∙ turns-whole B room (n + fuel) s u e rest front (plain_turn B room s u e rest front comes (fits room al) (rest-needs.within room (less room al)))
          ∙ rest-needs.goes room (less room al) fuel;
    }

-- ---- the answers to one question

-- those of the shared run, in order
among-to : {q : ℕ} {R : PlainAnswer → Answer → Type 0} {us : List PlainAnswer} {vs : List Answer} {cs : List ℕ}
    → ((a : PlainAnswer) (b : Answer) → R a b → Renumbered cs a b) → Among (To q) R us vs → AllRenumbered cs us (answers_to q vs)
unfolding answers_to
among-to f Among.none = AllRenumbered.none
among-to {q} f (Among.mine {b} m r p) = rw (answers_to, eq-eqb b.question q m) (AllRenumbered.more (f _ _ r) (among-to f p))
among-to {q} f (Among.other {b} n p) = rw (answers_to, ne_eqb b.question q n) (among-to f p)

renumbered : {cs : List ℕ} → Rising cs → Below most_choices cs → (a : PlainAnswer) (b : Answer) → AnswerAlike cs a b → Renumbered cs a b
renumbered {cs} rising below a b r = record {
  symbols = r.symbols;
  decisions = r.decisions.same;
  none_past = r.decisions.open_past;
  no_others = r.decisions.open_others;
  written = numbers_renumbered cs rising below (rising-few cs rising below) r.decisions;
}

-- where nothing waits in the shared run, nothing waits in an own run
pub none-waits : {A B : Type 0} {M : B → Type 0} {R : A → B → Type 0} {us : List A} {vs : List B} → Among M R us vs → vs ≡ [] → us ≡ []
none-waits Among.none e = refl
none-waits (Among.mine m r p) e = absurd (let z : ◌≡◌ {A = ℕ} 0 1 = cc (ap length e) in omega arith)
none-waits (Among.other n p) e = absurd (let z : ◌≡◌ {A = ℕ} 0 1 = cc (ap length e) in omega arith)

module _ (leaves : Following) (harmless : Harmless leaves) (B : Book) (P : Heap → Type 0) (law : Lawful B P) (empty : P []) (row : Bool) (room : Rooms)
    (xs : List Expr) (fine : All (Fine B P empty) xs) (fits : LaterWithin row room (Later.loaded xs)) where
  -- the own runs' starts
  abbrev starts : ℕ → Plain.State
  starts = starts_on 0 xs (λ q. idle)

  -- the run ends beside the own runs
  pub ends : (fuel : ℕ)
      → EndsBeside leaves harmless B P law (λ q. Had B P empty (starts q)) row room starts (Later.turns leaves B row room fuel (Later.loaded xs))
  ends fuel =
      let st = loaded-started B P empty xs fine fits.choices-fit in
      turns-beside leaves harmless B P law (λ q. Had B P empty (starts q)) row room starts fuel (Later.loaded xs) (record {
        alone = starts;
        numbers = st.numbers;
        pairs = st.pairs;
        shared = st.shared;
        good = st.good;
        turns = λ q. 0;
        ran = λ q. Runs.here;
        within = fits;
      })

  -- each answer has a decision for every choice
  pub ends-sized : (fuel : ℕ)
      → All (λ (a : Answer). length a.decisions ≡ most_choices) (Later.turns leaves B row room fuel (Later.loaded xs)).state.answers
  ends-sized fuel =
      let b = (ends fuel).beside in
      all-sized b.numbers (Later.turns leaves B row room fuel (Later.loaded xs)).state.answers
      (λ q. ((b.alone q).answers, (b.shared.each q).answers))

  -- EACH QUESTION gets what it gets alone
  pub as_alone : (fuel q : ℕ) (d : Expr) → q < length xs → AsAlone B (get_or xs q d) q (Later.turns leaves B row room fuel (Later.loaded xs))
  as_alone fuel q d lt = record {
    numbers = b.numbers q;
    in_order = f.rising;
    fuel = b.turns q;
    least = need.least;
    first = (b.alone q).answers;
    same = among-to (renumbered f.rising (λ i lt. omega (arith, f.below i lt, b.shared.few))) f.answers;
    alone = λ room' al more.
        let (rest, is) = turns_add B room' more (b.alone q) in
        (rest, ap (λ (r : Plain.Ended). r.state.answers) (rw start at (need.goes room' al more)) ∙ is);
    all = λ zero_number room' al more.
        let done = rw start at (need.goes room' al more) ∙ turns-finished B room' more (b.alone q) (none-waits f.waiting (e.finished zero_number)) in
        (ap (λ (r : Plain.Ended). r.number) done, ap (λ (r : Plain.Ended). r.state.answers) done);
  }
    where
      e : EndsBeside leaves harmless B P law (λ q. Had B P empty (starts q)) row room starts (Later.turns leaves B row room fuel (Later.loaded xs))
      e = ends fuel

      b : Beside leaves harmless B P law (λ q. Had B P empty (starts q)) row room starts (Later.turns leaves B row room fuel (Later.loaded xs)).state
      b = e.beside

      f : Follows q (b.pairs q) (b.numbers q) (b.alone q) (Later.turns leaves B row room fuel (Later.loaded xs)).state
      f = b.shared.each q

      start : starts q ≡ Plain.loaded (get_or xs q d)
      start = ap starts (omega arith) ∙ starts_on_at 0 xs (λ q. idle) q d lt

      few : (starts q).choices ≤ most_choices
      few = ((loaded-started B P empty xs fine fits.choices-fit).good q).few

      need : Needs B (starts q) (b.turns q) (b.alone q)
      need = needs few (b.ran q)
