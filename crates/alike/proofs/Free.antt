-- What a turn comes to with room enough, of the plain machine and of the later one; and that each turn is that, judged by the room.
use mathlib.Core.Bool.{Bool, true, false}
use mathlib.Core.Path.{◌≡◌, refl}
use mathlib.Core.List.{List, [], ◌∷◌, ◌++◌, map}
use Prim.Native.Nat.{ℕ, suc, ◌≤◌}
use native.Mathlib.Omega.{arith}
use borrow.Author.Tests.{le-ltb}
use lib.Dec.{ltb}
use lib.ListN.{length, get_or, set, length-append}
use Rattle.limits.specs.Sizes.{most_choices, most_depth}
use Rattle.limits.specs.declared.Side.{Side}
use Rattle.limits.specs.declared.Side.TheVariants.{Open, Left, Right}
use Rattle.limits.specs.Decisions.{Decisions}
use Rattle.limits.specs.Lent.{Entry as PlainEntry}
use Rattle.book.specs.Rules.{Book}
use Rattle.nodes.specs.Nodes.{Node, apply, choice, fail, forward, Heap, at}
use Rattle.nodes.specs.Forwards.{follow}
use Rattle.nodes.specs.Steps.{failed, pulled}
use Rattle.machine.specs.Made.{place, rewritten}
use Rattle.machine.specs.Answers as PlainAnswers
use Rattle.machine.specs.Answers.{symbols_from}
use Rattle.machine.specs.Walk.{Found, Slot, arrow_at}
use Rattle.machine.specs.Walk as PlainWalk
use Rattle.machine.specs.Turn as Plain
use Rattle.machine.specs.Turn.{Rooms}
use Rattle.forwards.specs.Shorten.{Following}
use Rattle.alike.specs.Asked.{Entry, answer_bytes}
use Rattle.alike.specs.Walking.{walk}
use Rattle.alike.specs.Turning as Later
use Rattle.alike.specs.Turning.{State, with_nodes}

-- a state, or too far to go
pub data Free (A : Type 0) : Type 0 where
  comes : A → Free A
  far : Free A

-- ---- whether there is room for so many nodes, choices, entries and bytes

unfoldable pub judge_of : {T : Type 0} → (ℕ → T) → T → Bool → Bool → Bool → Bool → T
judge_of refuse ok true choices entries bytes = refuse 21
judge_of refuse ok false true entries bytes = refuse 22
judge_of refuse ok false false true bytes = refuse 23
judge_of refuse ok false false false true = refuse 25
judge_of refuse ok false false false false = ok

abbrev pub judge_by : {T : Type 0} → (ℕ → T) → T → Rooms → ℕ → ℕ → ℕ → ℕ → T
judge_by refuse ok room nodes choices entries bytes =
    judge_of refuse ok (ltb room.nodes nodes) (ltb most_choices choices) (ltb room.places entries) (ltb room.bytes bytes)

module _ {T : Type 0} (refuse : ℕ → T) (ok : T) where
  of_none : ok ≡ judge_of refuse ok false false false false
  unfolding judge_of
  of_none = refl

  of_step : (n k : Bool) → elim n [ true ↦ refuse 21 | false ↦ elim k [ true ↦ refuse 22 | false ↦ ok ] ] ≡ judge_of refuse ok n k false false
  unfolding judge_of
  of_step true k = refl
  of_step false true = refl
  of_step false false = refl

  of_split : (w : Bool) → elim w [ true ↦ refuse 23 | false ↦ ok ] ≡ judge_of refuse ok false false w false
  unfolding judge_of
  of_split true = refl
  of_split false = refl

  of_answer : (b : Bool) → elim b [ true ↦ refuse 25 | false ↦ ok ] ≡ judge_of refuse ok false false false b
  unfolding judge_of
  of_answer true = refl
  of_answer false = refl

  module _ (room : Rooms) (n k w b : ℕ) where
    -- there is room for all
    pub by-none : n ≤ room.nodes → k ≤ most_choices → w ≤ room.places → b ≤ room.bytes → ok ≡ judge_by refuse ok room n k w b
    by-none ln lk lw lb = rw (le-ltb room.nodes n ln, le-ltb most_choices k lk, le-ltb room.places w lw, le-ltb room.bytes b lb) of_none

    -- for entries and bytes
    pub by-step : w ≤ room.places → b ≤ room.bytes
        → elim (ltb room.nodes n) [ true ↦ refuse 21 | false ↦ elim (ltb most_choices k) [ true ↦ refuse 22 | false ↦ ok ] ]
        ≡ judge_by refuse ok room n k w b
    by-step lw lb = rw (le-ltb room.places w lw, le-ltb room.bytes b lb) (of_step (ltb room.nodes n) (ltb most_choices k))

    -- for nodes, choices and bytes
    pub by-split : n ≤ room.nodes → k ≤ most_choices → b ≤ room.bytes
        → elim (ltb room.places w) [ true ↦ refuse 23 | false ↦ ok ] ≡ judge_by refuse ok room n k w b
    by-split ln lk lb = rw (le-ltb room.nodes n ln, le-ltb most_choices k lk, le-ltb room.bytes b lb) (of_split (ltb room.places w))

    -- for nodes, choices and entries
    pub by_answer : n ≤ room.nodes → k ≤ most_choices → w ≤ room.places
        → elim (ltb room.bytes b) [ true ↦ refuse 25 | false ↦ ok ] ≡ judge_by refuse ok room n k w b
    by_answer ln lk lw = rw (le-ltb room.nodes n ln, le-ltb most_choices k lk, le-ltb room.places w lw) (of_answer (ltb room.bytes b))

-- so many have room
pub record Fits (room : Rooms) (nodes choices entries bytes : ℕ) : Type 0 where
  pub nodes-fit : nodes ≤ room.nodes
  pub choices-fit : choices ≤ most_choices
  pub places-fit : entries ≤ room.places
  pub bytes_fit : bytes ≤ room.bytes

-- ---- the plain machine

unfoldable pub free_split : Plain.State → List PlainEntry → ℕ → ℕ → ℕ → Decisions → Side → Plain.State
free_split s rest i l r ds Left = Plain.turned s s.heap s.choices rest (Plain.entry l ds ∷ [])
free_split s rest i l r ds Right = Plain.turned s s.heap s.choices rest (Plain.entry r ds ∷ [])
free_split s rest i l r ds Open =
    Plain.turned s s.heap s.choices rest (Plain.entry l (set ds i Left) ∷ Plain.entry r (set ds i Right) ∷ [])

unfoldable pub wrote : Plain.State → List PlainEntry → PlainEntry → ℕ → Plain.State
wrote s rest e n = record {
  heap = s.heap;
  choices = s.choices;
  waiting = rest;
  answers = s.answers ++ (record { symbols = symbols_from (suc most_depth) s.heap n; decisions = e.decisions } ∷ []);
  turns = suc s.turns;
}

unfoldable pub free_done : Plain.State → List PlainEntry → PlainEntry → ℕ → Found → Free Plain.State
free_done s rest e n (Found.finished a) = comes (wrote s rest e n)
free_done s rest e n Found.goes = comes (Plain.gone s rest)
free_done s rest e n (Found.fails m) = comes (Plain.turned s (failed s.heap m) s.choices rest (e ∷ []))
free_done s rest e n (Found.rewrites m x vs) =
    let p = place x (map (λ (v : Slot). arrow_at s.heap v) vs) (length s.heap) s.choices in
    comes (Plain.turned s (rewritten s.heap m p) p.choices rest (e ∷ []))
free_done s rest e n (Found.pulls m j i l r) = comes (Plain.turned s (pulled s.heap m j i l r) s.choices rest (e ∷ []))
free_done s rest e n Found.far = far

unfoldable pub free_at : Book → Plain.State → List PlainEntry → PlainEntry → ℕ → Node → Free Plain.State
free_at B s rest e n fail = comes (Plain.gone s rest)
free_at B s rest e n (forward m) = comes (Plain.gone s rest)
free_at B s rest e n (choice i l r) = comes (free_split s rest i l r e.decisions (get_or e.decisions i Open))
free_at B s rest e n (apply f xs) = free_done s rest e n (PlainWalk.walk B s.heap n)

-- the turn with room enough
unfoldable pub free : Book → Plain.State → PlainEntry → List PlainEntry → Free Plain.State
free B s e rest = let n = follow s.heap e.root in free_at B s rest e n (at s.heap n)

-- the bytes of its answers
abbrev pub written : Plain.State → ℕ
written s = length (PlainAnswers.answer_bytes s.answers)

-- whether there is room
unfoldable pub judge : Rooms → Free Plain.State → Plain.Turned
judge room (comes t) = judge_by Plain.refused (Plain.whole t) room (length t.heap) t.choices (length t.waiting) (written t)
judge room far = Plain.refused 24

-- a state for which there is room
abbrev pub Within : Rooms → Plain.State → Type 0
Within room s = Fits room (length s.heap) s.choices (length s.waiting) (written s)

module _ (B : Book) (room : Rooms) (s : Plain.State) (e : PlainEntry) (rest : List PlainEntry) (front : s.waiting ≡ e ∷ rest) (within : Within room s) where
  behind : suc (length rest) ≤ room.places
  behind = rw front at within.places-fit

  one_joins : (x : PlainEntry) → length (rest ++ (x ∷ [])) ≤ room.places
  one_joins x = rw (length-append rest (x ∷ [])) (omega (arith, behind))

  none_joins : length (rest ++ []) ≤ room.places
  none_joins = rw (length-append rest []) (omega (arith, behind))

  -- no other nodes, and no more answers
  same_nodes : (joining : List PlainEntry) → length (rest ++ joining) ≤ room.places
      → Plain.whole (Plain.turned s s.heap s.choices rest joining) ≡ judge room (comes (Plain.turned s s.heap s.choices rest joining))
  unfolding judge Plain.turned
  same_nodes joining le = by-none Plain.refused _ room _ _ _ _ within.nodes-fit within.choices-fit le within.bytes_fit

  split-judged : (i l r : ℕ) (ds : Decisions) (c : Side) → Plain.split B room s rest i l r ds c ≡ judge room (comes (free_split s rest i l r ds c))
  unfolding Plain.split free_split judge Plain.turned
  split-judged i l r ds Left = same_nodes (Plain.entry l ds ∷ []) (one_joins _)
  split-judged i l r ds Right = same_nodes (Plain.entry r ds ∷ []) (one_joins _)
  split-judged i l r ds Open =
      rw (length-append rest (Plain.entry l (set ds i Left) ∷ Plain.entry r (set ds i Right) ∷ []))
      (by-split Plain.refused _ room _ _ _ _ within.nodes-fit within.choices-fit within.bytes_fit)

  step-judged : (h : Heap) (k : ℕ) → Plain.stepped B room s rest e h k ≡ judge room (comes (Plain.turned s h k rest (e ∷ [])))
  unfolding Plain.stepped judge Plain.turned
  step-judged h k = by-step Plain.refused _ room _ k _ _ (one_joins e) within.bytes_fit

  done-judged : (n : ℕ) (y : Found) → Plain.done B room s rest e n y ≡ judge room (free_done s rest e n y)
  unfolding Plain.done free_done judge Plain.gone Plain.answered wrote
  done-judged n (Found.finished a) =
      by_answer Plain.refused _ room _ _ _ _ within.nodes-fit within.choices-fit (omega (arith, behind))
  done-judged n Found.goes = same_nodes [] none_joins
  done-judged n (Found.fails m) = step-judged (failed s.heap m) s.choices
  done-judged n (Found.rewrites m x vs) =
      let p = place x (map (λ (v : Slot). arrow_at s.heap v) vs) (length s.heap) s.choices in
      step-judged (rewritten s.heap m p) p.choices
  done-judged n (Found.pulls m j i l r) = step-judged (pulled s.heap m j i l r) s.choices
  done-judged n Found.far = refl

  -- A TURN is the turn with room enough, judged by the room
  pub turn-judged : Plain.turn B room s e rest ≡ judge room (free B s e rest)
  unfolding Plain.turn Plain.turn_at free free_at judge Plain.gone
  turn-judged = go (follow s.heap e.root) (at s.heap (follow s.heap e.root))
    where
      go : (n : ℕ) (y : Node) → Plain.turn_at B room s rest e n y ≡ judge room (free_at B s rest e n y)
      go n fail = same_nodes [] none_joins
      go n (forward m) = same_nodes [] none_joins
      go n (choice i l r) = split-judged i l r e.decisions (get_or e.decisions i Open)
      go n (apply f xs) = done-judged n (PlainWalk.walk B s.heap n)

-- ---- the later machine

unfoldable pub later_split : State → List Entry → ℕ → ℕ → ℕ → ℕ → Decisions → Side → State
later_split s rest q i l r ds Left = Later.turned s s.heap s.choices rest (Later.entry q l ds ∷ [])
later_split s rest q i l r ds Right = Later.turned s s.heap s.choices rest (Later.entry q r ds ∷ [])
later_split s rest q i l r ds Open =
    Later.turned s s.heap s.choices rest (Later.entry q l (set ds i Left) ∷ Later.entry q r (set ds i Right) ∷ [])

unfoldable pub later_wrote : State → List Entry → Entry → ℕ → State
later_wrote s rest e n = record {
  heap = s.heap;
  choices = s.choices;
  waiting = rest;
  answers = s.answers
      ++ (record { question = e.question; symbols = symbols_from (suc most_depth) s.heap n; decisions = e.decisions } ∷ []);
  turns = suc s.turns;
  most = s.most;
}

unfoldable pub later_done : State → List Entry → Entry → ℕ → Found → Free State
later_done s rest e n (Found.finished a) = comes (later_wrote s rest e n)
later_done s rest e n Found.goes = comes (Later.gone s rest)
later_done s rest e n (Found.fails m) = comes (Later.turned s (failed s.heap m) s.choices rest (e ∷ []))
later_done s rest e n (Found.rewrites m x vs) =
    let p = place x (map (λ (v : Slot). arrow_at s.heap v) vs) (length s.heap) s.choices in
    comes (Later.turned s (rewritten s.heap m p) p.choices rest (e ∷ []))
later_done s rest e n (Found.pulls m j i l r) = comes (Later.turned s (pulled s.heap m j i l r) s.choices rest (e ∷ []))
later_done s rest e n Found.far = far

-- what the turn comes to with room enough, and the state that it leaves if it is refused
pub record Freed : Type 0 where
  pub left : State
  pub came : Free State

unfoldable pub later_at : Following → Book → State → List Entry → Entry → ℕ → Node → Freed
later_at leaves B s rest e n fail = record { left = s; came = comes (Later.gone s rest) }
later_at leaves B s rest e n (forward m) = record { left = s; came = comes (Later.gone s rest) }
later_at leaves B s rest e n (choice i l r) =
    record { left = s; came = comes (later_split s rest e.question i l r e.decisions (get_or e.decisions i Open)) }
later_at leaves B s rest e n (apply f xs) =
    let w = walk leaves B n s.heap in
    record { left = with_nodes s w.nodes; came = later_done (with_nodes s w.nodes) rest e n w.found }

unfoldable pub later_free : Following → Book → State → Entry → List Entry → Freed
later_free leaves B s e rest =
    let n = follow s.heap e.root in
    let t = with_nodes s (leaves s.heap e.root) in
    later_at leaves B t rest e n (at t.heap n)

abbrev pub later_written : Bool → State → ℕ
later_written row s = length (answer_bytes row s.answers)

unfoldable pub judge_later : Bool → Rooms → State → Free State → Later.Turned
judge_later row room left (comes t) =
    judge_by (λ c. Later.refused c left) (Later.whole t) room (length t.heap) t.choices (length t.waiting) (later_written row t)
judge_later row room left far = Later.refused 24 left

abbrev pub LaterWithin : Bool → Rooms → State → Type 0
LaterWithin row room s = Fits room (length s.heap) s.choices (length s.waiting) (later_written row s)

module _ (leaves : Following) (B : Book) (row : Bool) (room : Rooms) where
  module _ (s : State) (e : Entry) (rest : List Entry) (front : s.waiting ≡ e ∷ rest) (within : LaterWithin row room s) where
    later-behind : suc (length rest) ≤ room.places
    later-behind = rw front at within.places-fit

    later-one_joins : (x : Entry) → length (rest ++ (x ∷ [])) ≤ room.places
    later-one_joins x = rw (length-append rest (x ∷ [])) (omega (arith, later-behind))

    later-none_joins : length (rest ++ []) ≤ room.places
    later-none_joins = rw (length-append rest []) (omega (arith, later-behind))

    later-same-nodes : (joining : List Entry) → length (rest ++ joining) ≤ room.places
        → Later.whole (Later.turned s s.heap s.choices rest joining)
        ≡ judge_later row room s (comes (Later.turned s s.heap s.choices rest joining))
    unfolding judge_later Later.turned
    later-same-nodes joining le = by-none (λ c. Later.refused c s) _ room _ _ _ _ within.nodes-fit within.choices-fit le within.bytes_fit

    later-split-judged : (i l r : ℕ) (ds : Decisions) (c : Side)
        → Later.split leaves B row room s rest e.question i l r ds c ≡ judge_later row room s (comes (later_split s rest e.question i l r ds c))
    unfolding Later.split later_split judge_later Later.turned
    later-split-judged i l r ds Left = later-same-nodes (Later.entry e.question l ds ∷ []) (later-one_joins _)
    later-split-judged i l r ds Right = later-same-nodes (Later.entry e.question r ds ∷ []) (later-one_joins _)
    later-split-judged i l r ds Open =
        rw (length-append rest (Later.entry e.question l (set ds i Left) ∷ Later.entry e.question r (set ds i Right) ∷ []))
        (by-split (λ c. Later.refused c s) _ room _ _ _ _ within.nodes-fit within.choices-fit within.bytes_fit)

    later-step-judged : (h : Heap) (k : ℕ)
        → Later.stepped leaves B row room s rest e h k ≡ judge_later row room s (comes (Later.turned s h k rest (e ∷ [])))
    unfolding Later.stepped judge_later Later.turned
    later-step-judged h k = by-step (λ c. Later.refused c s) _ room _ k _ _ (later-one_joins e) within.bytes_fit

    later-done-judged : (n : ℕ) (y : Found) → Later.done leaves B row room s rest e n y ≡ judge_later row room s (later_done s rest e n y)
    unfolding Later.done later_done judge_later Later.gone Later.answered later_wrote
    later-done-judged n (Found.finished a) =
        by_answer (λ c. Later.refused c s) _ room _ _ _ _ within.nodes-fit within.choices-fit (omega (arith, later-behind))
    later-done-judged n Found.goes = later-same-nodes [] later-none_joins
    later-done-judged n (Found.fails m) = later-step-judged (failed s.heap m) s.choices
    later-done-judged n (Found.rewrites m x vs) =
        let p = place x (map (λ (v : Slot). arrow_at s.heap v) vs) (length s.heap) s.choices in
        later-step-judged (rewritten s.heap m p) p.choices
    later-done-judged n (Found.pulls m j i l r) = later-step-judged (pulled s.heap m j i l r) s.choices
    later-done-judged n Found.far = refl

  -- AN ATTEMPT is the turn with room enough, judged by the room; `same_size` says that following and walking add and take no nodes
  module _ (s : State) (e : Entry) (rest : List Entry) (front : s.waiting ≡ e ∷ rest) (within : LaterWithin row room s)
      (root-size : length (leaves s.heap e.root) ≡ length s.heap)
      (walk-size : length (walk leaves B (follow s.heap e.root) (leaves s.heap e.root)).nodes ≡ length s.heap) where
    pub attempt-judged : Later.attempt leaves B row room s e rest
        ≡ judge_later row room (later_free leaves B s e rest).left (later_free leaves B s e rest).came
    unfolding Later.attempt Later.turn_at later_free later_at with_nodes Later.gone
    attempt-judged = go (at t.heap n)
      where
        n : ℕ
        n = follow s.heap e.root

        t : State
        t = with_nodes s (leaves s.heap e.root)

        u : State
        u = with_nodes t (walk leaves B n t.heap).nodes

        within-t : LaterWithin row room t
        within-t = record {
          nodes-fit = rw root-size within.nodes-fit;
          choices-fit = within.choices-fit;
          places-fit = within.places-fit;
          bytes_fit = within.bytes_fit;
        }

        within_u : LaterWithin row room u
        within_u = record {
          nodes-fit = rw walk-size within.nodes-fit;
          choices-fit = within.choices-fit;
          places-fit = within.places-fit;
          bytes_fit = within.bytes_fit;
        }

        go : (y : Node) → Later.turn_at leaves B row room t rest e n y
            ≡ judge_later row room (later_at leaves B t rest e n y).left (later_at leaves B t rest e n y).came
        go fail = later-same-nodes t e rest front within-t [] (later-none_joins t e rest front within-t)
        go (forward m) = later-same-nodes t e rest front within-t [] (later-none_joins t e rest front within-t)
        go (choice i l r) = later-split-judged t e rest front within-t i l r e.decisions (get_or e.decisions i Open)
        go (apply f xs) = later-done-judged u e rest front within_u n (walk leaves B n t.heap).found
