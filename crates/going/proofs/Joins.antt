-- FUEL A FOLLOWED BY B MORE equals fuel a plus b, where the first run ended in 0 or 20, the sum fits 32 bits and no run lacks answer room.
use mathlib.Core.Path.{◌≡◌, refl, sym, ap, subst, ◌∙◌}
use mathlib.Core.Logic.{◌⊎◌, inl, inr, ◌≢◌}
use mathlib.Core.List.{List, [], ◌∷◌, ◌++◌, map, append-nil}
use Prim.Native.Nat.{ℕ, zero, suc, ◌+◌, ◌-◌, ◌/◌, ◌≤◌, ◌<◌, min}
use native.Mathlib.Omega.{arith}
use native.Mathlib.Decide.{dec_lt}
use borrow.Author.Tests.{ne_eqb}
use lib.ListN.{length, take, replicate, length-append, length-map, length-replicate, get_or-eq_default}
use Rattle.limits.specs.Sizes.{most_nodes, most_entries, most_fuel, numbers_of_node, most_arguments}
use Rattle.limits.specs.Lent.{Entry, lent, lent_vacant}
use Rattle.reading.specs.Reading.{got}
use Rattle.expressions.specs.Expressions.{Expr}
use Rattle.book.specs.Rules.{Rules, Book, book_of}
use Rattle.book.specs.Admission.{read_book, read_question}
use Rattle.symbols.specs.Symbols.{Symbol, Symbols, no_symbol}
use Rattle.book.specs.Index.{at_after, info_after, ends_after}
use Rattle.nodes.specs.Nodes.{Node, apply, choice, fail, forward, Heap, at, node_numbers, heap_numbers}
use Rattle.nodes.proofs.Lying.{Ten, Tens, apply_ten, heap-length}
use Rattle.sorts.specs.Sorts.{arguments_of}
use Rattle.sorts.proofs.ReadingFits.{book-fits}
use Rattle.machine.specs.Answers.{Answer, answer_bytes}
use Rattle.machine.specs.Turn.{Rooms, State, Turned, Ended, turn, turns, loaded}
use Rattle.machine.specs.Run.{Memory, Result, Outcome, over, list_for, rooms_of, ended_as}
use Rattle.accepted.specs.Accepted.{Argued, AcceptedNodes, AcceptedState}
use Rattle.accepted.specs.GoOn.{judge, counted_on, go_on}
use Rattle.accepted.specs.LeftIn.{afresh, LeftIn, Narrow}
use Rattle.accepted.proofs.Rows.{row-length}
use Rattle.accepted.proofs.Runs.{turns-accepted, run-accepted}
use Rattle.accepted.proofs.LeftStates.{state-back, left-accepted}
use Rattle.accepted.proofs.Exactly.{exact}
use Rattle.run.specs.Walkable.{Index}
use Rattle.run.proofs.IndexHolds.{arities, index-holds}
use Rattle.run.proofs.TurnKeeps.{Grown, turn_grown, over-over, over-length}
use Rattle.run.proofs.OnTheRow.{turns-none, turns-spent, turns-refused, turns-whole}
use Rattle.fuel.proofs.Course.{turns-stay, turns_onward}
use Rattle.going.specs.Joined.{going_on, Joined}
use Rattle.going.proofs.OtherAnswers.{on_top, turns_alike}

-- ---- how turns end

module _ (B : Book) (room : Rooms) where
  -- no more turns than there is fuel for, and nothing waits where they end with 0
  pub record Ends (fuel : ℕ) (s : State) (x : Ended) : Type 0 where
    pub counted : x.state.turns ≤ s.turns + fuel
    pub longer : length s.heap ≤ length x.state.heap
    pub finished : x.number ≡ 0 → x.state.waiting ≡ []

  pub turns-end : (fuel : ℕ) (s : State) → Ends fuel s (turns B room fuel s)
  turns-end zero s = go s.waiting refl
    where
      go : (l : List Entry) → s.waiting ≡ l → Ends 0 s (turns B room 0 s)
      go [] q = rw (turns-none B room s 0 q) (record { counted = omega arith; longer = omega arith; finished = λ z. q })
      go (e ∷ rest) q = rw (turns-spent B room s e rest q) (record { counted = omega arith; longer = omega arith; finished = λ z. absurd (omega arith) })
  turns-end (suc fuel) s = go s.waiting refl (turns-end fuel)
    where
      by : {e : Entry} {rest : List Entry} (x : Turned) → s.waiting ≡ e ∷ rest → turn B room s e rest ≡ x → Grown room s rest x
          → ((t : State) → Ends fuel t (turns B room fuel t)) → Ends (suc fuel) s (turns B room (suc fuel) s)
      by (Turned.whole t) q is grows ih =
          rw (turns-whole B room s _ _ q fuel t is) (record { counted = omega (arith, (ih t).counted, grows.counted); longer = omega (arith, (ih t).longer, grows.nodes); finished = (ih t).finished })
      by (Turned.refused c) q is above ih = rw (turns-refused B room s _ _ q fuel c is) (record { counted = omega arith; longer = omega arith; finished = λ z. absurd (omega arith) })

      go : (l : List Entry) → s.waiting ≡ l → ((t : State) → Ends fuel t (turns B room fuel t)) → Ends (suc fuel) s (turns B room (suc fuel) s)
      go [] q ih = rw (turns-none B room s (suc fuel) q) (record { counted = omega arith; longer = omega arith; finished = λ z. q })
      go (e ∷ rest) q ih = by (turn B room s e rest) q refl (turn_grown B room s e rest) ih

-- ---- two calls and one run

module _ (B : Book) (room room' room'' : Rooms) (nodes : room''.nodes ≡ room.nodes) (places : room''.places ≡ room.places) (nodes' : room''.nodes ≡ room'.nodes)
    (places' : room''.places ≡ room'.places) (a b : ℕ) (s : State) where
  abbrev e : Ended
  e = turns B room a s

  abbrev e' : Ended
  e' = turns B room' b (afresh e.state)

  abbrev e'' : Ended
  e'' = turns B room'' (a + b) s

  -- THE DEFINITION OF TURNS: fuel a followed by b more is fuel a plus b, with the answers joined
  pub turns-joined : (e.number ≡ 0) ⊎ (e.number ≡ 20) → e'.number ≢ 25 → e''.number ≢ 25
      → (e''.number ≡ e'.number) × (e''.state ≡ on_top e.state.answers e'.state)
  turns-joined ended short short'' = by ended
    where
      -- a run in the third room comes to the same after fuel a
      first : Ended
      first = turns B room'' a s

      first_short : first.number ≢ 25
      first_short q = short'' (ap (λ (x : Ended). x.number) (turns-stay B room'' a b s (λ z. omega (arith, q, z))) ∙ q)

      own-short : (e.number ≡ 0) ⊎ (e.number ≡ 20) → e.number ≢ 25
      own-short (inl z) q = omega (arith, z, q)
      own-short (inr z) q = omega (arith, z, q)

      same_first : (first.number ≡ e.number) × (first.state ≡ e.state)
      same_first = turns_alike B [] room'' room nodes places a s first_short (own-short ended)

      -- the state after it is the one with no answers, with its answers on top
      topped : on_top e.state.answers (afresh e.state) ≡ e.state
      topped = ap (λ (l : List Answer). record {
        heap = e.state.heap;
        choices = e.state.choices;
        waiting = e.state.waiting;
        answers = l;
        turns = e.state.turns;
      }) (append-nil e.state.answers)

      by : (e.number ≡ 0) ⊎ (e.number ≡ 20) → (e''.number ≡ e'.number) × (e''.state ≡ on_top e.state.answers e'.state)
      by (inl z) =
          let none : e.state.waiting ≡ [] = (turns-end B room a s).finished z in
          let second : e' ≡ record { number = 0; state = afresh e.state } = turns-none B room' (afresh e.state) b none in
          let whole : e'' ≡ first = turns-stay B room'' a b s (λ q. omega (arith, q, z, same_first.0)) in
          rw (whole, second) (same_first.0 ∙ z, same_first.1 ∙ sym topped)
      by (inr z) =
          let whole : e'' ≡ turns B room'' b (on_top e.state.answers (afresh e.state)) =
          turns_onward B room'' a b s (same_first.0 ∙ z) ∙ ap (turns B room'' b) (same_first.1 ∙ sym topped) in
          rw whole (turns_alike B e.state.answers room'' room' nodes' places' b (afresh e.state) (λ q. short'' (ap (λ (x : Ended). x.number) whole ∙ q)) short)

-- ---- in lent memory

-- a node of an accepted heap is ten numbers
accepted_tens : (S : Symbols) (k : ℕ) (h : Heap) → Narrow S → AcceptedNodes S k h → Tens h
unfolding node_numbers
accepted_tens S k h narrow accepted n lt = by (at h n) (accepted.argued n)
  where
    by : (x : Node) → Argued S h x → Ten x
    by (apply f xs) (known, row) = apply_ten f xs (omega (arith, narrow f, row-length row))
    by (choice i l r) argued = refl
    by fail argued = refl
    by (forward t) argued = refl

-- rooms of the same nodes and places ask the same of a state
other-room : {S : Symbols} {room room' : Rooms} {before : ℕ} {s : State} → room.nodes ≡ room'.nodes → room.places ≡ room'.places → AcceptedState S room before s → AcceptedState S room' before s
other-room nodes places accepted = record {
  counted = accepted.counted;
  some = accepted.some;
  nodes = rw (← nodes) accepted.nodes;
  choices = accepted.choices;
  places = rw (← places) accepted.places;
  heap = accepted.heap;
  entries = accepted.entries;
}

-- an admitted book has no symbol of more than eight arguments
narrow-book : (book : List ℕ) {r : Rules} {p : ℕ} → read_book book ≡ got r p → Narrow r.symbols
unfolding no_symbol
narrow-book book {r} admitted f = by (dec_lt f (length r.symbols))
  where
    index : Index book (take (length r.symbols) (at_after (read_book book))) (info_after (read_book book)) (ends_after (read_book book)) r
    index = index-holds book admitted

    by : Dec (f < length r.symbols) → length (arguments_of r.symbols f) ≤ most_arguments
    by (yes lt) = omega (arith, arities book (take (length r.symbols) (at_after (read_book book))) index.means f lt, index.narrow f)
    by (no ge) = subst (λ (x : Symbol). length x.arguments ≤ most_arguments) (sym (get_or-eq_default r.symbols no_symbol (let z : length r.symbols ≤ f = omega arith in z))) (omega arith)

-- the list has as many places as are used
list_length : (places : ℕ) (waiting : List Entry) → length waiting ≤ places → length (list_for places waiting) ≡ places
unfolding list_for
list_length places waiting le = omega (arith, length-append (map lent waiting) (replicate (places - length waiting) lent_vacant), length-map waiting lent, length-replicate (places - length waiting) lent_vacant)

-- a call that is accepted, with room for the version byte, makes its turns
goes_on : (book : List ℕ) (last : Result) (fuel : ℕ) (m : Memory) {r : Rules} {p : ℕ} (s : State) → read_book book ≡ got r p → judge r.symbols last fuel m ≡ got s 0
    → 0 < length m.bytes → go_on book last fuel m ≡ counted_on last.answers (ended_as m (turns (book_of r) (rooms_of m) fuel s))
unfolding go_on
goes_on book last fuel m s admitted judged some = rw (admitted, judged, ne_eqb (length m.bytes) 0 (λ z. omega (arith, z, some)), go_on) refl

-- A run that had its turns, the second call, and one run with all the fuel.
module _ (book asking : List ℕ) {r : Rules} {q : Expr} {p p' : ℕ} (admitted : read_book book ≡ got r p) (asked : read_question r.symbols asking ≡ got q p')
    (m : Memory) (fits : length (loaded q).heap ≤ (rooms_of m).nodes) (there : 0 < (rooms_of m).places) (a b : ℕ) (bytes' bytes'' : List ℕ) (some' : 0 < length bytes') where
  abbrev B : Book
  B = book_of r

  abbrev first : Ended
  first = turns B (rooms_of m) a (loaded q)

  -- what the first run leaves
  abbrev pub o : Outcome
  o = ended_as m first

  -- the second call's memory, and what it leaves
  abbrev m' : Memory
  m' = going_on o bytes'

  abbrev pub o' : Outcome
  o' = go_on book o.result b m'

  -- the memory of one run with all the fuel, and what it leaves
  abbrev m'' : Memory
  m'' = record { nodes = m.nodes; list = m.list; bytes = bytes'' }

  abbrev pub o'' : Outcome
  o'' = ended_as m'' (turns B (rooms_of m'') (a + b) (loaded q))

  accepted-first : AcceptedState r.symbols (rooms_of m) 0 first.state
  accepted-first = run-accepted book asking admitted asked (rooms_of m) fits there a

  narrow : Narrow r.symbols
  narrow = narrow-book book admitted

  numbers_fit : length (heap_numbers first.state.heap) ≤ length m.nodes
  unfolding rooms_of
  numbers_fit =
      omega (arith, heap-length first.state.heap (accepted_tens r.symbols first.state.choices first.state.heap narrow accepted-first.heap), accepted-first.nodes)

  -- the rooms are the same but for the answers
  same_nodes : (rooms_of m).nodes ≡ (rooms_of m').nodes
  unfolding rooms_of ended_as
  same_nodes = ap (λ (k : ℕ). min most_nodes (k / numbers_of_node)) (sym (over-length (heap_numbers first.state.heap) m.nodes numbers_fit))

  places-here : (rooms_of m).places ≤ length m.list
  unfolding rooms_of
  places-here = omega arith

  listed : length (list_for (rooms_of m).places first.state.waiting) ≡ (rooms_of m).places
  listed = list_length (rooms_of m).places first.state.waiting accepted-first.places

  same_places : (rooms_of m).places ≡ (rooms_of m').places
  unfolding rooms_of ended_as
  same_places = ap (λ (k : ℕ). min most_entries k)
      (sym (over-length (list_for (rooms_of m).places first.state.waiting) m.list (omega (arith, listed, places-here))))

  accepted-again : AcceptedState r.symbols (rooms_of m') 0 first.state
  accepted-again = other-room same_nodes same_places accepted-first

  left : LeftIn 0 first.state o.result m'
  unfolding ended_as
  left = record {
    old_nodes = m.nodes;
    old_list = m.list;
    nodes = refl;
    list = ap (λ (k : ℕ). over (list_for k first.state.waiting) m.list) same_places;
    turns = refl;
    answers = omega arith;
    used = refl;
    choices = refl;
    waiting = refl;
  }

  -- the second call's turns
  abbrev second : Ended
  second = turns B (rooms_of m') b (afresh first.state)

  -- the second call is accepted and makes them
  went_on : a + b ≤ most_fuel → o' ≡ counted_on o.result.answers (ended_as m' second)
  unfolding loaded
  went_on sum =
      let turned : first.state.turns ≤ 0 + a = (turns-end B (rooms_of m) a (loaded q)).counted in
      let accepted = left-accepted r.symbols narrow 0 first.state o.result m' left accepted-again b (omega arith) in
      let judged = (exact r.symbols o.result b m').0 accepted in
      let back = state-back r.symbols narrow 0 first.state o.result m' left accepted-again in
      goes_on book o.result b m' (afresh first.state) admitted (judged ∙ ap (λ (s : State). got s 0) back) some'

  -- the state that the second call leaves is accepted, too
  accepted-second : AcceptedState r.symbols (rooms_of m') (length first.state.answers) second.state
  accepted-second = turns-accepted r (book-fits book admitted) (rooms_of m') (length first.state.answers) b (afresh first.state) (record {
    counted = omega (arith, accepted-again.counted);
    some = accepted-again.some;
    nodes = accepted-again.nodes;
    choices = accepted-again.choices;
    places = accepted-again.places;
    heap = accepted-again.heap;
    entries = accepted-again.entries;
  })

  -- its nodes cover the first call's
  longer : length (heap_numbers first.state.heap) ≤ length (heap_numbers second.state.heap)
  longer = omega (
    arith,
    (turns-end B (rooms_of m') b (afresh first.state)).longer,
    heap-length first.state.heap (accepted_tens r.symbols first.state.choices first.state.heap narrow accepted-first.heap),
    heap-length second.state.heap (accepted_tens r.symbols second.state.choices second.state.heap narrow accepted-second.heap),
  )

  listed' : length (list_for (rooms_of m').places second.state.waiting) ≡ (rooms_of m').places
  listed' = list_length (rooms_of m').places second.state.waiting accepted-second.places

  abbrev third : Ended
  third = turns B (rooms_of m'') (a + b) (loaded q)

  room-nodes : (rooms_of m'').nodes ≡ (rooms_of m).nodes
  unfolding rooms_of
  room-nodes = refl

  room-places : (rooms_of m'').places ≡ (rooms_of m).places
  unfolding rooms_of
  room-places = refl

  -- FUEL A FOLLOWED BY B MORE equals fuel a plus b
  pub joined : (o.result.number ≡ 0) ⊎ (o.result.number ≡ 20) → a + b ≤ most_fuel → o'.result.number ≢ 25 → o''.result.number ≢ 25
      → Joined m.bytes bytes' bytes'' o o' o''
  unfolding ended_as counted_on
  joined ended sum short short'' =
      let on = went_on sum in
      let (number, state) = turns-joined B (rooms_of m) (rooms_of m') (rooms_of m'') room-nodes room-places (room-nodes ∙ same_nodes) (room-places ∙ same_places) a b (loaded q)
      ended (λ z. short (ap (λ (x : Outcome). x.result.number) on ∙ z)) short'' in
      let answers : third.state.answers ≡ first.state.answers ++ second.state.answers = ap (λ (s : State). s.answers) state in
      let heap : third.state.heap ≡ second.state.heap = ap (λ (s : State). s.heap) state in
      let waiting : third.state.waiting ≡ second.state.waiting = ap (λ (s : State). s.waiting) state in
      rw on (record {
        result = rw (number, state, length-append first.state.answers second.state.answers) refl;
        nodes = over-over (heap_numbers first.state.heap) (heap_numbers second.state.heap) m.nodes longer
            ∙ ap (λ (h : Heap). over (heap_numbers h) m.nodes) (sym heap);
        list = over-over (list_for (rooms_of m).places first.state.waiting) (list_for (rooms_of m').places second.state.waiting) m.list
            (omega (arith, listed, listed', same_places))
            ∙ ap (λ (l : List Entry). over (list_for (rooms_of m').places l) m.list) (sym waiting)
            ∙ ap (λ (k : ℕ). over (list_for k third.state.waiting) m.list) (sym (room-places ∙ same_places));
        first = first.state.answers;
        second = second.state.answers;
        counted = refl;
        written = refl;
        written' = refl;
        written'' = ap (λ (l : List Answer). over (answer_bytes l) bytes'') answers;
      })
