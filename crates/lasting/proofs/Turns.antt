-- EVERY TURN leaves an accepted state accepted, whole or refused, whoever left it; so do nodes dropped, and all turns of a run.
use mathlib.Core.Bool.{Bool, true, false}
use mathlib.Core.Path.{◌≡◌, refl, sym, ap, subst, ◌∙◌}
use mathlib.Core.List.{List, [], ◌∷◌, map}
use Prim.Native.Nat.{ℕ, zero, suc, ◌<◌}
use native.Mathlib.Omega.{arith}
use lib.Dec.{eqb}
use lib.ListN.{length, length-map}
use Rattle.limits.specs.Lent.{Entry as PlainEntry}
use Rattle.book.specs.Rules.{Rules, book_of}
use Rattle.nodes.specs.Nodes.{Heap, at}
use Rattle.machine.specs.Turn as Plain
use Rattle.machine.specs.Turn.{Rooms}
use Rattle.rewriting.specs.Lists.{All}
use Rattle.rewriting.proofs.Lists.{all_map}
use Rattle.rewriting.specs.Paths.{In, first, later}
use Rattle.sorts.specs.Sorts.{RulesFit}
use Rattle.accepted.specs.Accepted.{AcceptedEntry}
use Rattle.accepted.specs.Turnable.{Turnable}
use Rattle.accepted.proofs.Laws.{argues_lawful}
use Rattle.accepted.proofs.Turns.{Counted, accepted_turnable, accepted-counted, turnable_accepted, TurnableTurn, turn_turnable}
use Rattle.forwards.specs.Shorten.{Following, shortened}
use Rattle.alike.specs.Reuse.{Marks, arrows_of, moved_down}
use Rattle.alike.specs.Asked.{Entry}
use Rattle.alike.specs.Turning as Later
use Rattle.alike.specs.Turning.{State, Turned, Ended, with_nodes, moved, dropped}
use Rattle.alike.specs.AsPlain.{Shortcut, plain_entry, forgotten}
use Rattle.alike.specs.Lacking.{Lacking}
use Rattle.alike.proofs.Shortcuts.{Harmless, shortened_harmless}
use Rattle.alike.proofs.Reached.{Marked, reached-size, roots-reached, arrows-reached}
use Rattle.alike.proofs.Dropping.{marks, dropped-fewer, dropped-front}
use Rattle.alike.proofs.Instance.{Forgets, with_bytes}
use Rattle.alike.proofs.Lacking.{lacking}
use Rattle.lasting.specs.Lasting.{LaterAccepted, LaterTurnable, InUse, StateLeft, Keeps, Lasts}
use Rattle.lasting.proofs.Shortcuts.{shortcut_turnable}
use Rattle.lasting.proofs.MovedDown.{inside-moved, moved_turnable}
use Rattle.lasting.proofs.PlainTurn.{FromThere, attempt-there}

-- state t, which state s led to: it is turnable, and its counts fit if those of s did
pub record Kept (r : Rules) (room : Rooms) (s t : State) : Type 0 where
  pub turnable : LaterTurnable r t
  pub counts : (before : ℕ) → Counted room before (forgotten s) → Counted room before (forgotten t)
  pub in_use : InUse s → InUse t

-- one after the other
kept_on : {r : Rules} {room : Rooms} {s t u : State} → Kept r room s t → Kept r room t u → Kept r room s u
kept_on a b = record { turnable = b.turnable; counts = λ before c. b.counts before (a.counts before c); in_use = λ le. b.in_use (a.in_use le) }

-- ---- an attempt

-- the same counts in other answer room
other-bytes : {room : Rooms} {before : ℕ} {s : Plain.State} (b : ℕ) → Counted room before s → Counted (with_bytes room b) before s
other-bytes b c = record { answers = c.answers; some = c.some; nodes = c.nodes; places = c.places }

own-bytes : {room : Rooms} {before : ℕ} {s : Plain.State} (b : ℕ) → Counted (with_bytes room b) before s → Counted room before s
own-bytes b c = record { answers = c.answers; some = c.some; nodes = c.nodes; places = c.places }

-- shortened forwards
short-kept : {r : Rules} {room : Rooms} {s : State} {g : Heap} → Shortcut s.heap g → LaterTurnable r s → Kept r room s (with_nodes s g)
unfolding with_nodes
short-kept short turnable = record {
  turnable = record {
    heap = shortcut_turnable short turnable.heap;
    few = turnable.few;
    entries = all_map (λ e x. record { inside = rw short.size x.inside; sized = x.sized; free = x.free }) turnable.entries;
  };
  counts = λ before c. record {
    answers = c.answers;
    some = rw short.size c.some;
    nodes = rw short.size c.nodes;
    places = c.places;
  };
  in_use = λ le. rw short.size le;
}

module _ (r : Rules) (room : Rooms) (s : State) where
  -- what a turn comes to; a refused one leaves all entries waiting
  abbrev pub KeptAttempt : Turned → Type 0
  KeptAttempt (Turned.whole t) = Kept r room s t
  KeptAttempt (Turned.refused c t) = Kept r room s t × (t.waiting ≡ s.waiting)

module _ (leaves : Following) (harmless : Harmless leaves) (r : Rules) (row : Bool) (room : Rooms) where
  module _ (s : State) (e : Entry) (rest : List Entry) (front : s.waiting ≡ e ∷ rest) (turnable : LaterTurnable r s) where
    entry_here : AcceptedEntry s.choices s.heap (plain_entry e)
    entry_here = by (rw front at turnable.entries)
      where
        by : {a : PlainEntry} {us : List PlainEntry} → All (AcceptedEntry s.choices s.heap) (a ∷ us) → AcceptedEntry s.choices s.heap a
        by (All.more x xs) = x

    from-there : FromThere leaves harmless (book_of r) row room s e rest turnable.heap.range ((argues_lawful r).steers turnable.heap.argues)
        entry_here.inside (turnable.heap.ends e.root) (Later.attempt leaves (book_of r) row room s e rest)
    from-there = attempt-there leaves harmless (book_of r) row room s e rest turnable.heap.range ((argues_lawful r).steers turnable.heap.argues)
        entry_here.inside (turnable.heap.ends e.root)

    -- AN ATTEMPT
    pub attempt-kept : KeptAttempt r room s (Later.attempt leaves (book_of r) row room s e rest)
    unfolding with_nodes
    attempt-kept =
        go from-there.forgets
        (turn_turnable r (with_bytes room b) (forgotten u) (plain_entry e) (map plain_entry rest) (ap (map plain_entry) front) left.turnable)
      where
        b : ℕ
        b = from-there.bytes

        u : State
        u = with_nodes s from-there.nodes

        left : Kept r room s u
        left = short-kept from-there.short turnable

        go : {y : Turned} {y₀ : Plain.Turned} → Forgets u y y₀ → TurnableTurn r (with_bytes room b) (forgotten u) y₀ → KeptAttempt r room s y
        go (Forgets.whole {t} {u = t₀} is most) (good, counts) = record {
          turnable = subst (Turnable r) (sym is) good;
          counts = λ before c. subst (Counted room before) (sym is) (own-bytes b (counts before (other-bytes b (left.counts before c))));
          in_use = λ le. most (left.in_use le);
        }
        go Forgets.refused is = (left, refl)

-- ---- nodes dropped

abbrev roots_of : List Entry → List ℕ
roots_of es = map (λ (e : Entry). e.root) es

module _ (r : Rules) (room : Rooms) (s : State) (e : Entry) (rest : List Entry) (front : s.waiting ≡ e ∷ rest) (turnable : LaterTurnable r s) where
  abbrev ms : Marks
  ms = marks s

  abbrev g : Heap
  g = moved_down ms s.heap

  sized : length ms ≡ length s.heap
  sized = reached-size s.heap (roots_of s.waiting)

  closed : (n y : ℕ) → Marked ms n → In y (arrows_of (at s.heap n)) → y < length s.heap → Marked ms y
  closed n y m i lt = arrows-reached s.heap (roots_of s.waiting) n y m i lt

  -- an entry on a root that is marked
  entry-moved : (x : Entry) → In x.root (roots_of s.waiting) → AcceptedEntry s.choices s.heap (plain_entry x)
      → AcceptedEntry s.choices g (plain_entry (moved ms x))
  unfolding moved
  entry-moved x i a = record {
    inside = inside-moved ms s.heap sized turnable.heap.range closed x.root (roots-reached s.heap (roots_of s.waiting) i a.inside);
    sized = a.sized;
    free = a.free;
  }

  entries-moved : (es : List Entry) → ((y : ℕ) → In y (roots_of es) → In y (roots_of s.waiting))
      → All (AcceptedEntry s.choices s.heap) (map plain_entry es) → All (AcceptedEntry s.choices g) (map plain_entry (map (moved ms) es))
  entries-moved [] those All.none = All.none
  entries-moved (x ∷ es) those (All.more a rest) = All.more (entry-moved x (those x.root first) a) (entries-moved es (λ y i. those y (later i)) rest)

  -- NODES DROPPED: some entry waits, so some node stays
  pub dropped-kept : Kept r room s (dropped s)
  unfolding dropped
  dropped-kept = record {
    turnable = record { heap = moved_turnable ms sized closed turnable.heap; few = turnable.few; entries = entries };
    counts = λ before c. record {
      answers = c.answers;
      some = there s.waiting front entries;
      nodes = omega (arith, c.nodes, dropped-fewer s);
      places = rw (length-map, length-map) (rw length-map at c.places);
    };
    in_use = λ le. omega (arith, dropped-fewer s);
  }
    where
      entries : All (AcceptedEntry s.choices g) (map plain_entry (map (moved ms) s.waiting))
      entries = entries-moved s.waiting (λ y i. i) turnable.entries

      there : (es : List Entry) → es ≡ e ∷ rest → All (AcceptedEntry s.choices g) (map plain_entry (map (moved ms) es)) → 0 < length g
      there [] is all = absurd (let z = ap length is in omega arith)
      there (x ∷ es) is (All.more a all) = omega (arith, a.inside)

-- ---- a turn: nodes are dropped and it is tried once more, if it lacks fresh ones

-- what follows is left, too
left-map : {P Q : State → Type 0} (y : Turned) → ((t : State) → P t → Q t) → StateLeft P y → StateLeft Q y
left-map (Turned.whole t) f p = f t p
left-map (Turned.refused c t) f p = f t p

attempt-left : (r : Rules) (room : Rooms) (s : State) (y : Turned) → KeptAttempt r room s y → StateLeft (Kept r room s) y
attempt-left r room s (Turned.whole t) kept = kept
attempt-left r room s (Turned.refused c t) (kept, same) = kept

module _ (leaves : Following) (harmless : Harmless leaves) (r : Rules) (row : Bool) (room : Rooms) where
  -- the second attempt, where the first left state t
  second-kept : (t : State) (e : Entry) (rest : List Entry) → t.waiting ≡ e ∷ rest → LaterTurnable r t
      → StateLeft (Kept r room t) (Later.attempted leaves (book_of r) row room (dropped t))
  unfolding Later.attempted
  second-kept t e rest front turnable =
      let ahead = dropped-front t front in
      let drop = dropped-kept r room t e rest front turnable in
      let y = Later.attempt leaves (book_of r) row room (dropped t) (moved (marks t) e) (map (moved (marks t)) rest) in
      let kept = attempt-kept leaves harmless r row room (dropped t) (moved (marks t) e) (map (moved (marks t)) rest) ahead drop.turnable in
      subst (λ (l : List Entry). StateLeft (Kept r room t) (elim l [
        | [] ↦ Turned.whole (dropped t)
        | x ∷ xs ↦ Later.attempt leaves (book_of r) row room (dropped t) x xs
      ])) (sym ahead) (left-map y (λ u. kept_on {u = u} drop) (attempt-left r room (dropped t) y kept))

  -- THE TURN
  pub turn-kept : (s : State) (e : Entry) (rest : List Entry) → s.waiting ≡ e ∷ rest → LaterTurnable r s
      → StateLeft (Kept r room s) (Later.turn leaves (book_of r) row room s e rest)
  unfolding Later.turn Later.again
  turn-kept s e rest front turnable = go (Later.attempt leaves (book_of r) row room s e rest) (attempt-kept leaves harmless r row room s e rest front turnable)
    where
      go : (y : Turned) → KeptAttempt r room s y → StateLeft (Kept r room s) (Later.again (Later.attempted leaves (book_of r) row room) y)
      go (Turned.whole t) kept = kept
      go (Turned.refused c t) (kept, same) = by (eqb c 21)
        where
          by : (lacks : Bool) → StateLeft (Kept r room s) (elim lacks [
            | true ↦ Later.attempted leaves (book_of r) row room (dropped t)
            | false ↦ Turned.refused c t
          ])
          by true =
              left-map (Later.attempted leaves (book_of r) row room (dropped t)) (λ u. kept_on {u = u} kept)
              (second-kept t e rest (same ∙ front) kept.turnable)
          by false = kept

-- the state that a run left
abbrev state_of : Ended → State
state_of r = r.state

-- ALL TURNS of a kind keep what each of them keeps
pub turns_keep : (P : State → Type 0) (step : State → Entry → List Entry → Turned) → Keeps P step → (fuel : ℕ) (s : State) → P s
    → P (Later.turns_by step fuel s).state
unfolding Later.turns_by Later.after
turns_keep P step keeps zero s p = go s.waiting
  where
    go : (l : List Entry) → P (state_of (elim l [ [] ↦ record { number = 0; state = s } | e ∷ rest ↦ record { number = 20; state = s } ]))
    go [] = p
    go (e ∷ rest) = p
turns_keep P step keeps (suc fuel) s p = go s.waiting refl (λ t. turns_keep P step keeps fuel t)
  where
    by : (y : Turned) → StateLeft P y → ((t : State) → P t → P (Later.turns_by step fuel t).state) → P (Later.after y (λ t. Later.turns_by step fuel t)).state
    by (Turned.whole t) q ih = ih t q
    by (Turned.refused c t) q ih = q

    go : (l : List Entry) → s.waiting ≡ l → ((t : State) → P t → P (Later.turns_by step fuel t).state)
        → P (state_of (elim l [ [] ↦ record { number = 0; state = s } | e ∷ rest ↦ Later.after (step s e rest) (λ t. Later.turns_by step fuel t) ]))
    go [] q ih = p
    go (e ∷ rest) q ih = by (step s e rest) (keeps s e rest q p) ih

-- ---- what lasts

module _ (r : Rules) (row : Bool) (room : Rooms) where
  -- what a turnable state hands on to each state that it leads to
  lasts_by : (P : State → Type 0) → ((s : State) → P s → LaterTurnable r s) → ((s t : State) → P s → Kept r room s t → P t) → Lasts r row room P
  unfolding Later.turns
  lasts_by P good on = record {
    attempt = λ s e rest front p.
        let y = Later.attempt shortened (book_of r) row room s e rest in
        left-map y (λ t. on s t p) (attempt-left r room s y (attempt-kept shortened shortened_harmless r row room s e rest front (good s p)));
    dropped = λ s e rest front p. on s (dropped s) p (dropped-kept r room s e rest front (good s p));
    turn = turn;
    turns = turns_keep P (Later.turn shortened (book_of r) row room) turn;
  }
    where
      turn : Keeps P (Later.turn shortened (book_of r) row room)
      turn s e rest front p =
          left-map (Later.turn shortened (book_of r) row room s e rest) (λ t. on s t p)
          (turn-kept shortened shortened_harmless r row room s e rest front (good s p))

  -- TURNABLE states stay so
  pub turnable_lasts : Lasts r row room (LaterTurnable r)
  turnable_lasts = lasts_by (LaterTurnable r) (λ s p. p) (λ s t p kept. kept.turnable)

  -- and have no more nodes in use than ever were
  pub in_use_lasts : Lasts r row room (λ s. LaterTurnable r s × InUse s)
  in_use_lasts = lasts_by (λ s. LaterTurnable r s × InUse s) (λ s p. p.0) (λ s t p kept. (kept.turnable, kept.in_use p.1))

  -- ACCEPTED states stay so
  pub accepted_lasts : RulesFit r → (before : ℕ) → Lasts r row room (LaterAccepted r.symbols room before)
  accepted_lasts rules before =
      lasts_by (LaterAccepted r.symbols room before) (λ s p. accepted_turnable rules p)
      (λ s t p kept. turnable_accepted kept.turnable (kept.counts before (accepted-counted p)))

-- 21 is given exactly when the reachable nodes plus those needed pass the room, from every accepted state
pub lacking_accepted : (r : Rules) → RulesFit r → (row : Bool) (room : Rooms) (before : ℕ) (s : State) (e : Entry) (rest : List Entry) → s.waiting ≡ e ∷ rest
    → LaterAccepted r.symbols room before s → Lacking shortened (book_of r) row room s e rest
lacking_accepted r rules row room before s e rest front accepted =
    let turnable = accepted_turnable rules accepted in
    let here = entry_here shortened shortened_harmless r row room s e rest front turnable in
    lacking shortened shortened_harmless (book_of r) row room s e rest front turnable.heap.range ((argues_lawful r).steers turnable.heap.argues)
    here.inside (turnable.heap.ends e.root) accepted.nodes
