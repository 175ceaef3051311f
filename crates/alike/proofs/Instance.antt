-- THE PLAIN MACHINE is the later one with forwards left alone, no nodes used again and questions' numbers forgotten: turn by turn, node for node.
use mathlib.Core.Bool.{Bool, true, false}
use mathlib.Core.Path.{◌≡◌, refl, sym, ap, subst, ◌∙◌}
use mathlib.Core.List.{List, [], ◌∷◌, ◌++◌, map, map-append}
use Prim.Native.Nat.{ℕ, zero, suc, ◌+◌, ◌≤◌, max}
use native.Mathlib.Omega.{arith}
use lib.Dec.{ltb}
use lib.ListN.{length, get_or, set, length-map}
use Rattle.limits.specs.Sizes.{most_choices, most_depth}
use Rattle.limits.specs.declared.Side.{Side}
use Rattle.limits.specs.declared.Side.TheVariants.{Open, Left, Right}
use Rattle.limits.specs.Decisions.{Decisions}
use Rattle.limits.specs.Lent.{Entry as PlainEntry}
use Rattle.book.specs.Rules.{Book}
use Rattle.nodes.specs.Nodes.{Node, apply, choice, fail, forward, Heap, at}
use Rattle.nodes.specs.Forwards.{follow}
use Rattle.machine.specs.Answers as PlainAnswers
use Rattle.machine.specs.Answers.{Answer as PlainAnswer, symbols_from}
use Rattle.machine.specs.Walk as PlainWalk
use Rattle.machine.specs.Walk.{Found}
use Rattle.machine.specs.Turn as Plain
use Rattle.machine.specs.Turn.{Rooms}
use Rattle.forwards.specs.Shorten.{Following, untouched}
use Rattle.alike.specs.Asked as Asked
use Rattle.alike.specs.Asked.{Entry, Answer}
use Rattle.alike.specs.Walking.{Walked}
use Rattle.alike.specs.Turning as Later
use Rattle.alike.specs.Turning.{State, Turned, Ended, with_nodes, turns_by}
use Rattle.alike.specs.AsWithRoom.{plainly}
use Rattle.alike.specs.AsPlain.{plain_entry, forgotten}
use Rattle.alike.proofs.AsWithRoom.{bytes_same}
use Rattle.alike.proofs.Untouched.{walk_same}

pub same_length : (es : List Entry) → length es ≡ length (map plain_entry es)
same_length es = rw length-map refl

pub same_bytes : (answers : List Answer) (answers₀ : List PlainAnswer) → map plainly answers ≡ answers₀
    → length (Asked.answer_bytes false answers) ≡ length (PlainAnswers.answer_bytes answers₀)
unfolding Asked.answer_bytes Asked.version PlainAnswers.answer_bytes
same_bytes answers answers₀ same = ap (λ (l : List ℕ). suc (length l)) (bytes_same answers ∙ ap PlainAnswers.records_bytes same)

-- what a deed on state s comes to in both machines; a refused one leaves the state as it was, and no more nodes are in use than ever were
pub data Forgets (s : State) : Turned → Plain.Turned → Type 0 where
  whole : {t : State} {u : Plain.State} → forgotten t ≡ u → (length s.heap ≤ s.most → length t.heap ≤ t.most)
      → Forgets s (Turned.whole t) (Plain.whole u)
  refused : {c : ℕ} → Forgets s (Turned.refused c s) (Plain.refused c)

-- the same room but for so many answer bytes
abbrev pub with_bytes : Rooms → ℕ → Rooms
with_bytes room b = record { nodes = room.nodes; places = room.places; bytes = b }

-- the answer of an entry whose walk finished at node n
abbrev pub told : State → Entry → ℕ → List Answer
told s e n =
    s.answers ++ (record { question = e.question; symbols = symbols_from (suc most_depth) s.heap n; decisions = e.decisions } ∷ [])

-- Deeds on a state do the same in both machines, however arrows are followed. Records of a row are longer than plain ones, so the plain machine has
-- answer room of its own, b.
module _ (leaves : Following) (B : Book) (row : Bool) (room : Rooms) (b : ℕ) (s : State) (e : Entry) (rest : List Entry) where
  abbrev rest₀ : List PlainEntry
  rest₀ = map plain_entry rest

  abbrev room₀ : Rooms
  room₀ = with_bytes room b

  turned_forgets : (h : Heap) (k : ℕ) (joining : List Entry)
      → Forgets s (Turned.whole (Later.turned s h k rest joining)) (Plain.whole (Plain.turned (forgotten s) h k rest₀ (map plain_entry joining)))
  unfolding Later.turned Plain.turned
  turned_forgets h k joining =
      let most : length s.heap ≤ s.most → length h ≤ max s.most (length h) = λ le. omega arith in
      Forgets.whole (ap (λ (w : List PlainEntry). record {
        heap = h;
        choices = k;
        waiting = w;
        answers = map plainly s.answers;
        turns = suc s.turns;
      }) (map-append plain_entry rest joining)) most

  -- one test on both sides
  tests : (t t' : Bool) (c : ℕ) {y : Turned} {y' : Plain.Turned} → t ≡ t' → Forgets s y y'
      → Forgets s (elim t [ true ↦ Turned.refused c s | false ↦ y ]) (elim t' [ true ↦ Plain.refused c | false ↦ y' ])
  tests true true c q f = Forgets.refused
  tests false false c q f = f
  tests true false c q f = absurd (let z : ◌≡◌ {A = ℕ} 0 1 = cc in omega arith)
  tests false true c q f = absurd (let z : ◌≡◌ {A = ℕ} 0 1 = cc in omega arith)

  pub split_forgets : (i l r : ℕ) (ds : Decisions) (c : Side)
      → Forgets s (Later.split leaves B row room s rest e.question i l r ds c) (Plain.split B room₀ (forgotten s) rest₀ i l r ds c)
  unfolding Later.split Plain.split
  split_forgets i l r ds Left = turned_forgets s.heap s.choices (Later.entry e.question l ds ∷ [])
  split_forgets i l r ds Right = turned_forgets s.heap s.choices (Later.entry e.question r ds ∷ [])
  split_forgets i l r ds Open =
      tests (ltb room.places (length rest + 2)) (ltb room.places (length rest₀ + 2)) 23 (ap (λ n. ltb room.places (n + 2)) (same_length rest))
      (turned_forgets s.heap s.choices (Later.entry e.question l (set ds i Left) ∷ Later.entry e.question r (set ds i Right) ∷ []))

  step_forgets : (h : Heap) (k : ℕ) → Forgets s (Later.stepped leaves B row room s rest e h k) (Plain.stepped B room₀ (forgotten s) rest₀ (plain_entry e) h k)
  unfolding Later.stepped Plain.stepped
  step_forgets h k =
      tests (ltb room.nodes (length h)) (ltb room.nodes (length h)) 21 refl
      (tests (ltb most_choices k) (ltb most_choices k) 22 refl (turned_forgets h k (e ∷ [])))

  answer_forgets : (answers : List Answer) (answers₀ : List PlainAnswer) → map plainly answers ≡ answers₀
      → ltb room.bytes (length (Asked.answer_bytes row answers)) ≡ ltb b (length (PlainAnswers.answer_bytes answers₀))
      → Forgets s (Later.answered leaves B row room s rest answers) (Plain.answered B room₀ (forgotten s) rest₀ answers₀)
  unfolding Later.answered Plain.answered
  answer_forgets answers answers₀ same test =
      tests (ltb room.bytes (length (Asked.answer_bytes row answers))) (ltb b (length (PlainAnswers.answer_bytes answers₀))) 25 test
      (Forgets.whole (ap (λ (a : List PlainAnswer). record {
        heap = s.heap;
        choices = s.choices;
        waiting = rest₀;
        answers = a;
        turns = suc s.turns;
      }) same) (λ le. le))

  pub gone_forgets : Forgets s (Turned.whole (Later.gone s rest)) (Plain.whole (Plain.gone (forgotten s) rest₀))
  unfolding Later.gone Plain.gone
  gone_forgets = turned_forgets s.heap s.choices []

  -- what a walk found, if an answer has room in both or in neither
  pub done_forgets : (n : ℕ) (y : Found)
      → ltb room.bytes (length (Asked.answer_bytes row (told s e n))) ≡ ltb b (length (PlainAnswers.answer_bytes (map plainly (told s e n))))
      → Forgets s (Later.done leaves B row room s rest e n y) (Plain.done B room₀ (forgotten s) rest₀ (plain_entry e) n y)
  unfolding Later.done Plain.done
  done_forgets n (Found.finished a) test =
      let both = map-append plainly s.answers _ in
      answer_forgets _ _ both (test ∙ ap (λ (l : List PlainAnswer). ltb b (length (PlainAnswers.answer_bytes l))) both)
  done_forgets n Found.goes test = gone_forgets
  done_forgets n (Found.fails m) test = step_forgets _ _
  done_forgets n (Found.rewrites m x vs) test = step_forgets _ _
  done_forgets n (Found.pulls m j i l r) test = step_forgets _ _
  done_forgets n Found.far test = Forgets.refused

-- A TURN
pub turn_forgets : (B : Book) (room : Rooms) (s : State) (e : Entry) (rest : List Entry)
    → Forgets s (Later.attempt untouched B false room s e rest) (Plain.turn B room (forgotten s) (plain_entry e) (map plain_entry rest))
unfolding Later.attempt Plain.turn Later.turn_at Plain.turn_at untouched with_nodes
turn_forgets B room s e rest = go (follow s.heap e.root) (at s.heap (follow s.heap e.root))
  where
    go : (n : ℕ) (y : Node)
        → Forgets s (Later.turn_at untouched B false room s rest e n y) (Plain.turn_at B room (forgotten s) (map plain_entry rest) (plain_entry e) n y)
    go n fail = gone_forgets untouched B false room room.bytes s e rest
    go n (forward m) = gone_forgets untouched B false room room.bytes s e rest
    go n (choice i l r) = split_forgets untouched B false room room.bytes s e rest i l r e.decisions (get_or e.decisions i Open)
    go n (apply f xs) =
        subst (λ (w : Walked). Forgets s (Later.done untouched B false room (with_nodes s w.nodes) rest e n w.found)
        (Plain.done B room (forgotten s) (map plain_entry rest) (plain_entry e) n (PlainWalk.walk B s.heap n))) (sym (walk_same B n s.heap))
        (done_forgets untouched B false room room.bytes s e rest n (PlainWalk.walk B s.heap n)
        (ap (λ k. ltb room.bytes k) (same_bytes (told s e n) (map plainly (told s e n)) refl)))

abbrev pub forget_ended : Ended → Plain.Ended
forget_ended r = record { number = r.number; state = forgotten r.state }

-- RUNS
pub runs_forget : (B : Book) (room : Rooms) (fuel : ℕ) (s : State)
    → forget_ended (Later.attempts untouched B false room fuel s) ≡ Plain.turns B room fuel (forgotten s)
unfolding Later.attempts turns_by Later.after Plain.turns Plain.after
runs_forget B room zero s = go s.waiting
  where
    go : (l : List Entry)
        → forget_ended (elim l [ [] ↦ record { number = 0; state = s } | e ∷ rest ↦ record { number = 20; state = s } ])
        ≡ elim (map plain_entry l) [ [] ↦ record { number = 0; state = forgotten s } | e ∷ rest ↦ record { number = 20; state = forgotten s } ]
    go [] = refl
    go (e ∷ rest) = refl
runs_forget B room (suc fuel) s = go s.waiting (runs_forget B room fuel)
  where
    by : {y : Turned} {y' : Plain.Turned} → Forgets s y y'
        → ((t : State) → forget_ended (turns_by (Later.attempt untouched B false room) fuel t) ≡ Plain.turns B room fuel (forgotten t))
        → forget_ended (Later.after y (λ t. turns_by (Later.attempt untouched B false room) fuel t))
        ≡ Plain.after y' (forgotten s) (λ t. Plain.turns B room fuel t)
    by (Forgets.whole {t} {u} e most) ih = ih t ∙ ap (λ (w : Plain.State). Plain.turns B room fuel w) e
    by Forgets.refused ih = refl

    go : (l : List Entry) → ((t : State) → forget_ended (turns_by (Later.attempt untouched B false room) fuel t) ≡ Plain.turns B room fuel (forgotten t))
        → forget_ended (elim l [
          | [] ↦ record { number = 0; state = s }
          | e ∷ rest ↦ Later.after (Later.attempt untouched B false room s e rest) (λ t. turns_by (Later.attempt untouched B false room) fuel t)
        ]) ≡ elim (map plain_entry l) [
          | [] ↦ record { number = 0; state = forgotten s }
          | e ∷ rest ↦ Plain.after (Plain.turn B room (forgotten s) e rest) (forgotten s) (λ t. Plain.turns B room fuel t)
        ]
    go [] ih = refl
    go (e ∷ rest) ih = by (turn_forgets B room s e rest) ih
