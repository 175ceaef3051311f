-- THE TURN as it is judged by the room, nodes dropped where it lacks fresh ones: a whole turn is one of the question's own run with room enough; a
-- refused one leaves the shared run alike all own runs as they were.
use mathlib.Core.Bool.{Bool, true, false}
use mathlib.Core.Path.{◌≡◌, refl, ap, ◌∙◌}
use mathlib.Core.List.{List, [], ◌∷◌, map}
use Prim.Native.Nat.{ℕ, ◌<◌, ◌≤◌}
use native.Mathlib.Omega.{arith}
use borrow.Author.Tests.{ltb-false, ne_eqb}
use lib.Dec.{ltb}
use lib.ListN.{length}
use Rattle.limits.specs.Sizes.{most_choices}
use Rattle.limits.specs.Lent.{Entry as PlainEntry}
use Rattle.book.specs.Rules.{Book}
use Rattle.nodes.specs.Nodes.{Heap}
use Rattle.machine.specs.Turn as Plain
use Rattle.machine.specs.Turn.{Rooms}
use Rattle.rewriting.specs.Rewriting.{Value}
use Rattle.rewriting.proofs.Steers.{Lawful}
use Rattle.meaning.proofs.Turns.{Good}
use Rattle.forwards.specs.Shorten.{Following}
use Rattle.alike.specs.Asked.{Entry}
use Rattle.alike.specs.Turning as Later
use Rattle.alike.specs.Turning.{State, with_nodes, moved, dropped}
use Rattle.alike.proofs.Alike.{Pairing}
use Rattle.alike.proofs.Shortcuts.{Harmless}
use Rattle.alike.proofs.Free.{Free, free, later_free, later_written, judge_of, judge_by, judge_later, LaterWithin, attempt-judged}
use Rattle.alike.proofs.Shared.{Shared}
use Rattle.alike.proofs.Turns.{Counts, Onward, Came, Alongside, free_alike}
use Rattle.alike.proofs.Dropping.{marks, shared-dropped, dropped-fewer, dropped-waiting, dropped-front}

-- 0, or the number with which a state is refused
abbrev pub verdict : Bool → Rooms → State → ℕ
verdict row room T = judge_by (λ c. c) 0 room (length T.heap) T.choices (length T.waiting) (later_written row T)

-- how a state is judged
pub data Judged (row : Bool) (room : Rooms) (left : State) : Free State → Later.Turned → Type 0 where
  whole : {T : State} → LaterWithin row room T → Judged row room left (Free.comes T) (Later.whole T)
  lacks : {T : State} → verdict row room T ≡ 21 → Judged row room left (Free.comes T) (Later.refused 21 left)
  refused : {T : State} {c : ℕ} → 21 < c → verdict row room T ≡ c → Judged row room left (Free.comes T) (Later.refused c left)
  far : Judged row room left Free.far (Later.refused 24 left)

pub judged : (row : Bool) (room : Rooms) (left : State) (y : Free State) → Judged row room left y (judge_later row room left y)
unfolding judge_later judge_of
judged row room left Free.far = Judged.far
judged row room left (Free.comes T) =
    by (ltb room.nodes (length T.heap)) refl (ltb most_choices T.choices) refl (ltb room.places (length T.waiting)) refl
    (ltb room.bytes (later_written row T)) refl
  where
    by : (n : Bool) → ltb room.nodes (length T.heap) ≡ n → (k : Bool) → ltb most_choices T.choices ≡ k
        → (w : Bool) → ltb room.places (length T.waiting) ≡ w → (b : Bool) → ltb room.bytes (later_written row T) ≡ b
        → Judged row room left (Free.comes T) (judge_of (λ c. Later.refused c left) (Later.whole T) n k w b)
    by true en k ek w ew b eb = Judged.lacks {T = T} (rw en refl)
    by false en true ek w ew b eb = Judged.refused {T = T} {c = 22} (omega arith) (rw (en, ek) refl)
    by false en false ek true ew b eb = Judged.refused {T = T} {c = 23} (omega arith) (rw (en, ek, ew) refl)
    by false en false ek false ew true eb = Judged.refused {T = T} {c = 25} (omega arith) (rw (en, ek, ew, eb) refl)
    by false en false ek false ew false eb = Judged.whole (record {
      nodes-fit = ltb-false _ _ en;
      choices-fit = ltb-false _ _ ek;
      places-fit = ltb-false _ _ ew;
      bytes_fit = ltb-false _ _ eb;
    })

-- ---- what a turn comes to, beside the own run of the front entry's question

module _ (B : Book) (row : Bool) (room : Rooms) (alone : ℕ → Plain.State) (numbers : ℕ → List ℕ) (S : State) (q : ℕ) where
  -- a turn that would come to T, with room enough, is one of the own run. Its nodes are counted from the state `base`, which is S but for shortened
  -- forwards and dropped nodes.
  pub record Would (T : State) : Type 1 where
    pub entry : PlainEntry
    pub behind : List PlainEntry
    pub in_front : (alone q).waiting ≡ entry ∷ behind
    pub next : Plain.State
    pub comes : free B (alone q) entry behind ≡ Free.comes next
    pub base : State
    pub base_choices : base.choices ≡ S.choices
    pub base_waiting : length base.waiting ≡ length S.waiting
    pub base_answers : length base.answers ≡ length S.answers
    pub base_turns : base.turns ≡ S.turns
    pub base_nodes : length base.heap ≤ length S.heap
    pub counts : Counts (alone q) next base T
    pub onward : T.choices ≤ most_choices → Onward alone q next T

  -- a refused one leaves all own runs where they were
  pub record Stays (T : State) : Type 1 where
    pub pairs : ℕ → Pairing
    pub shared : Shared alone numbers pairs T
    pub choices : T.choices ≡ S.choices
    pub waiting : length T.waiting ≡ length S.waiting
    pub answers : T.answers ≡ S.answers
    pub turns : T.turns ≡ S.turns
    pub nodes : length T.heap ≤ length S.heap

  -- and with 24 it is one that goes too far in the own run
  pub record TooFar : Type 0 where
    pub entry : PlainEntry
    pub behind : List PlainEntry
    pub in_front : (alone q).waiting ≡ entry ∷ behind
    pub far : free B (alone q) entry behind ≡ Free.far

  -- why a turn is refused
  pub data Why (c : ℕ) : Type 1 where
    too_far : c ≡ 24 → TooFar → Why c
    no_room : {T : State} → Would T → verdict row room T ≡ c → Why c

  pub data Result : Later.Turned → Type 1 where
    whole : {T : State} → Would T → LaterWithin row room T → Result (Later.whole T)
    refused : {c : ℕ} {T : State} → 20 < c → Stays T → LaterWithin row room T → Why c → Result (Later.refused c T)

  -- of a first attempt: it may lack fresh nodes
  pub data Attempted : Later.Turned → Type 1 where
    whole : {T : State} → Would T → LaterWithin row room T → Attempted (Later.whole T)
    lacks : {T : State} → Stays T → LaterWithin row room T → T.waiting ≡ S.waiting → Why 21 → Attempted (Later.refused 21 T)
    refused : {c : ℕ} {T : State} → 21 < c → Stays T → LaterWithin row room T → Why c → Attempted (Later.refused c T)

-- the front entry of a state at its turn
pub attempted-is : (leaves : Following) (B : Book) (row : Bool) (room : Rooms) (S : State) {e : Entry} {rest : List Entry} → S.waiting ≡ e ∷ rest
    → Later.attempted leaves B row room S ≡ Later.attempt leaves B row room S e rest
unfolding Later.attempted
attempted-is leaves B row room S front =
    ap (λ (l : List Entry). elim l [ [] ↦ Later.whole S | e ∷ rest ↦ Later.attempt leaves B row room S e rest ]) front

-- a state that differs in its nodes alone, of which there are as many
record Same (S T : State) : Type 0 where
  choices : T.choices ≡ S.choices
  waiting : T.waiting ≡ S.waiting
  answers : T.answers ≡ S.answers
  turns : T.turns ≡ S.turns
  nodes : length T.heap ≡ length S.heap

module _ (leaves : Following) (harmless : Harmless leaves) (B : Book) (P : Heap → Type 0) (law : Lawful B P) (W : ℕ → Value → Type 0) (row : Bool) (room : Rooms)
    {alone : ℕ → Plain.State} {numbers : ℕ → List ℕ} (good : (q : ℕ) → Good B P (W q) (alone q)) where
  module _ {N : ℕ → Pairing} {S : State} (x : Shared alone numbers N S) (within : LaterWithin row room S)
      (e : Entry) (rest : List Entry) (front : S.waiting ≡ e ∷ rest) where
    abbrev along : Alongside leaves harmless B P law W x good e rest front (later_free leaves B S e rest)
    along = free_alike leaves harmless B P law W x good e rest front

    abbrev left : State
    left = (later_free leaves B S e rest).left

    left-same : Same S left
    unfolding with_nodes
    left-same = record {
      choices = ap (λ (T : State). T.choices) along.left_is;
      waiting = ap (λ (T : State). T.waiting) along.left_is;
      answers = ap (λ (T : State). T.answers) along.left_is;
      turns = ap (λ (T : State). T.turns) along.left_is;
      nodes = along.short.size;
    }

    -- there is room for it
    left-within : LaterWithin row room left
    left-within = record {
      nodes-fit = omega (arith, left-same.nodes, within.nodes-fit);
      choices-fit = omega (arith, left-same.choices, within.choices-fit);
      places-fit = rw left-same.waiting within.places-fit;
      bytes_fit = rw left-same.answers within.bytes_fit;
    }

    left_stays : Stays B row room alone numbers S e.question left
    left_stays = record {
      pairs = N;
      shared = along.left;
      choices = left-same.choices;
      waiting = ap length left-same.waiting;
      answers = left-same.answers;
      turns = left-same.turns;
      nodes = omega (arith, left-same.nodes);
    }

    -- what it would come to
    abbrev would : {t : Plain.State} {T : State} → free B (alone e.question) along.entry along.behind ≡ Free.comes t
        → Counts (alone e.question) t left T → (T.choices ≤ most_choices → Onward alone e.question t T)
        → Would B row room alone numbers S e.question T
    would {t} {T} is counts on = record {
      entry = along.entry;
      behind = along.behind;
      in_front = along.in_front;
      next = t;
      comes = is;
      base = left;
      base_choices = left-same.choices;
      base_waiting = ap length left-same.waiting;
      base_answers = ap length left-same.answers;
      base_turns = left-same.turns;
      base_nodes = omega (arith, left-same.nodes);
      counts = counts;
      onward = on;
    }

    -- AN ATTEMPT
    pub attempt-result : Attempted B row room alone numbers S e.question (Later.attempt leaves B row room S e rest)
    attempt-result =
        rw (attempt-judged leaves B row room S e rest front within along.root-size along.walk-size)
        (go refl (judged row room left (later_free leaves B S e rest).came) along.came)
      where
        go : {z : Free Plain.State} {y : Free State} {w : Later.Turned} → free B (alone e.question) along.entry along.behind ≡ z
            → Judged row room left y w → Came alone e.question left z y → Attempted B row room alone numbers S e.question w
        go is (Judged.whole fits) (Came.comes counts on) = Attempted.whole (would is counts on) fits
        go is (Judged.lacks v) (Came.comes counts on) = Attempted.lacks left_stays left-within left-same.waiting (Why.no_room (would is counts on) v)
        go is (Judged.refused lt v) (Came.comes counts on) = Attempted.refused lt left_stays left-within (Why.no_room (would is counts on) v)
        go is Judged.far Came.far = Attempted.refused {c = 24} (omega arith) left_stays left-within
            (Why.too_far refl (record { entry = along.entry; behind = along.behind; in_front = along.in_front; far = is }))

  module _ {N : ℕ → Pairing} {S : State} (x : Shared alone numbers N S) (within : LaterWithin row room S)
      (e : Entry) (rest : List Entry) (front : S.waiting ≡ e ∷ rest) where
    -- the second attempt, after nodes have been dropped
    second : (T : State) → Stays B row room alone numbers S e.question T → LaterWithin row room T → T.waiting ≡ S.waiting
        → Result B row room alone numbers S e.question (Later.attempted leaves B row room (dropped T))
    unfolding dropped moved
    second T stays fits same =
        rw (attempted-is leaves B row room (dropped T) ahead)
        (go (attempt-result (shared-dropped stays.shared) fits' (moved (marks T) e) (map (moved (marks T)) rest) ahead))
      where
        ahead : (dropped T).waiting ≡ moved (marks T) e ∷ map (moved (marks T)) rest
        ahead = dropped-front T (same ∙ front)

        fewer : length (dropped T).heap ≤ length T.heap
        fewer = dropped-fewer T

        waits : length (dropped T).waiting ≡ length T.waiting
        waits = dropped-waiting T

        fits' : LaterWithin row room (dropped T)
        fits' = record {
          nodes-fit = omega (arith, fewer, fits.nodes-fit);
          choices-fit = fits.choices-fit;
          places-fit = omega (arith, waits, fits.places-fit);
          bytes_fit = fits.bytes_fit;
        }

        stays_on : {U : State} → Stays B row room alone numbers (dropped T) e.question U → Stays B row room alone numbers S e.question U
        stays_on u = record {
          pairs = u.pairs;
          shared = u.shared;
          choices = u.choices ∙ stays.choices;
          waiting = u.waiting ∙ waits ∙ stays.waiting;
          answers = u.answers ∙ stays.answers;
          turns = u.turns ∙ stays.turns;
          nodes = omega (arith, u.nodes, fewer, stays.nodes);
        }

        would_on : {U : State} → Would B row room alone numbers (dropped T) e.question U → Would B row room alone numbers S e.question U
        would_on w = record {
          entry = w.entry;
          behind = w.behind;
          in_front = w.in_front;
          next = w.next;
          comes = w.comes;
          base = w.base;
          base_choices = w.base_choices ∙ stays.choices;
          base_waiting = w.base_waiting ∙ waits ∙ stays.waiting;
          base_answers = w.base_answers ∙ ap length stays.answers;
          base_turns = w.base_turns ∙ stays.turns;
          base_nodes = omega (arith, w.base_nodes, fewer, stays.nodes);
          counts = w.counts;
          onward = w.onward;
        }

        why_on : {c : ℕ} → Why B row room alone numbers (dropped T) e.question c → Why B row room alone numbers S e.question c
        why_on (Why.too_far e u) = Why.too_far e (record { entry = u.entry; behind = u.behind; in_front = u.in_front; far = u.far })
        why_on (Why.no_room w v) = Why.no_room (would_on w) v

        go : {y : Later.Turned} → Attempted B row room alone numbers (dropped T) e.question y → Result B row room alone numbers S e.question y
        go (Attempted.whole w fits) = Result.whole (would_on w) fits
        go (Attempted.lacks u fits w why) = Result.refused {c = 21} (omega arith) (stays_on u) fits (why_on why)
        go (Attempted.refused {c} lt u fits why) =
            Result.refused {c = c} (omega arith) (stays_on u) fits (why_on why)

    -- THE TURN
    pub turn-result : Result B row room alone numbers S e.question (Later.turn leaves B row room S e rest)
    unfolding Later.turn Later.again
    turn-result = go (attempt-result x within e rest front)
      where
        go : {y : Later.Turned} → Attempted B row room alone numbers S e.question y
            → Result B row room alone numbers S e.question (Later.again (Later.attempted leaves B row room) y)
        go (Attempted.whole w fits) = Result.whole w fits
        go (Attempted.lacks {T} u fits same why) = second T u fits same
        go (Attempted.refused {c} {T} lt u fits z) = rw (Later.again, ne_eqb c 21 (λ e. omega arith)) (Result.refused {c = c} (omega arith) u fits z)
