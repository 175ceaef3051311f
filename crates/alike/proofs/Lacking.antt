-- 21 IS GIVEN EXACTLY WHEN the reachable nodes plus those needed pass the room (request L10): after nodes have been dropped the second walk finds the same
-- as the first, so it needs as many.
use mathlib.Core.Bool.{Bool, true, false}
use mathlib.Core.Path.{◌≡◌, refl, sym, ap, subst, ◌∙◌}
use mathlib.Core.Logic.{◌↔◌, ◌≢◌}
use mathlib.Core.List.{List, [], ◌∷◌, map}
use Prim.Native.Nat.{ℕ, suc, ◌+◌, ◌<◌, ◌≤◌}
use native.Mathlib.Decide.{dec_lt}
use native.Mathlib.Omega.{arith}
use borrow.Author.Tests.{ltb-true, ltb-false, ne_eqb}
use lib.Dec.{ltb}
use lib.ListN.{length, get_or, length-set}
use Rattle.limits.specs.Sizes.{most_choices}
use Rattle.limits.specs.declared.Side.{Side}
use Rattle.limits.specs.declared.Side.TheVariants.{Open, Left, Right}
use Rattle.limits.specs.Decisions.{Decisions}
use Rattle.book.specs.Rules.{Book}
use Rattle.nodes.specs.Nodes.{Node, apply, choice, fail, forward, Heap, at}
use Rattle.nodes.specs.Forwards.{follow}
use Rattle.nodes.specs.Steps.{failed}
use Rattle.nodes.proofs.Pulled.{pulled-length}
use Rattle.machine.specs.Made.{place, rewritten}
use Rattle.machine.specs.Walk as PlainWalk
use Rattle.machine.specs.Walk.{Found, Slot, arrow_at}
use Rattle.machine.specs.Turn.{Rooms}
use Rattle.rewriting.proofs.Heaps.{grown_length}
use Rattle.rewriting.proofs.Counted.{place-counts}
use Rattle.rewriting.proofs.Steers.{Steerable}
use Rattle.rewriting.specs.Heaps.{InRange}
use Rattle.rewriting.specs.Paths.{In, first, Finite}
use Rattle.forwards.specs.Shorten.{Following}
use Rattle.alike.specs.Reuse.{Marks, arrows_of, moved_to, kept_by, moved_down}
use Rattle.alike.specs.Asked.{Entry, Answer, answer_bytes}
use Rattle.alike.specs.Walking.{Walked, walk}
use Rattle.alike.specs.Turning as Later
use Rattle.alike.specs.Turning.{State, Turned, with_nodes, moved, dropped}
use Rattle.alike.specs.AsPlain.{Shortcut}
use Rattle.alike.specs.Lacking.{count, reachable, needed, walk_at, turn_walk, Lacking}
use Rattle.alike.proofs.Alike.{Pairing, NodeAlike, Arrows, Alike, still', followed}
use Rattle.alike.proofs.Shortcuts.{unchanged, ◌further◌, Harmless, alike_shortcut}
use Rattle.alike.proofs.Walks.{FoundAlike, walk_alike}
use Rattle.alike.proofs.Shorts.{Itself, Same, arrows-itself, alike_itself}
use Rattle.alike.proofs.Reached.{Marked, reached-size, roots-reached, arrows-reached}
use Rattle.alike.proofs.Dropped.{Moves, arrows-moved, alike_moved}
use Rattle.alike.proofs.Dropping.{marks, dropped-fewer, dropped-front}
use Rattle.alike.proofs.Judged.{attempted-is}

-- ---- one attempt

-- it is not refused with 21
abbrev Not21 : Turned → Type 0
Not21 (Turned.whole t) = Unit {0}
Not21 (Turned.refused c t) = c ≢ 21

-- it is if so many nodes pass the room, and leaves this state then; else it is not
record Judges (room : Rooms) (left : State) (many : ℕ) (y : Turned) : Type 0 where
  lacks : room.nodes < many → y ≡ Turned.refused 21 left
  enough : many ≤ room.nodes → Not21 y

-- where nothing is needed
needs_none : (room : Rooms) (left : State) {many : ℕ} {y : Turned} → many ≤ room.nodes → Not21 y → Judges room left many y
needs_none room left fits not = record { lacks = λ lt. absurd (omega arith); enough = λ le. not }

module _ (leaves : Following) (B : Book) (row : Bool) (room : Rooms) (s : State) (e : Entry) (rest : List Entry) where
  stepped_judges : (h : Heap) (k many : ℕ) → length h ≡ many → Judges room s many (Later.stepped leaves B row room s rest e h k)
  unfolding Later.stepped
  stepped_judges h k many is = by (ltb room.nodes (length h)) refl (ltb most_choices k)
    where
      by : (full : Bool) → ltb room.nodes (length h) ≡ full → (more : Bool) → Judges room s many (elim full [
        | true ↦ Turned.refused 21 s
        | false ↦ elim more [ true ↦ Turned.refused 22 s | false ↦ Turned.whole (Later.turned s h k rest (e ∷ [])) ]
      ])
      by true test more = record { lacks = λ lt. refl; enough = λ le. absurd (omega (arith, ltb-true room.nodes (length h) test)) }
      by false test true = record { lacks = λ lt. absurd (omega (arith, ltb-false room.nodes (length h) test)); enough = λ le z. omega arith }
      by false test false = record { lacks = λ lt. absurd (omega (arith, ltb-false room.nodes (length h) test)); enough = λ le. tt }

  answered-not : (answers : List Answer) → Not21 (Later.answered leaves B row room s rest answers)
  unfolding Later.answered
  answered-not answers = by (ltb room.bytes (length (answer_bytes row answers)))
    where
      by : (full : Bool) → Not21 (elim full [
        | true ↦ Turned.refused 25 s
        | false ↦ Turned.whole (record { heap = s.heap; choices = s.choices; waiting = rest; answers = answers; turns = suc s.turns; most = s.most })
      ])
      by true = λ z. omega arith
      by false = tt

  split-not : (q i l r : ℕ) (ds : Decisions) (c : Side) → Not21 (Later.split leaves B row room s rest q i l r ds c)
  unfolding Later.split
  split-not q i l r ds Left = tt
  split-not q i l r ds Right = tt
  split-not q i l r ds Open = by (ltb room.places (length rest + 2)) _
    where
      by : (full : Bool) (t : State) → Not21 (elim full [ true ↦ Turned.refused 23 s | false ↦ Turned.whole t ])
      by true t = λ z. omega arith
      by false t = tt

  -- what the walk found, done, where the nodes as they are have room
  done_judges : length s.heap ≤ room.nodes → (n : ℕ) (y : Found) → Judges room s (length s.heap + needed y) (Later.done leaves B row room s rest e n y)
  unfolding Later.done needed failed rewritten
  done_judges fits n (Found.finished a) = needs_none room s (omega arith) (answered-not _)
  done_judges fits n Found.goes = needs_none room s (omega arith) tt
  done_judges fits n (Found.fails m) = stepped_judges _ _ _ (omega (arith, length-set s.heap m fail))
  done_judges fits n (Found.rewrites m x vs) =
      let env = map (λ (v : Slot). arrow_at s.heap v) vs in
      let p = place x env (length s.heap) s.choices in
      let fresh = (place-counts x env (length s.heap) s.choices).0 in
      stepped_judges _ _ _ (grown_length s.heap m p.top p.nodes ∙ ap (λ k. length s.heap + k) fresh)
  done_judges fits n (Found.pulls m j i l r) = stepped_judges _ _ _ (pulled-length s.heap m j i l r)
  done_judges fits n Found.far = needs_none room s (omega arith) (λ z. omega arith)

-- AN ATTEMPT; following and walking take no node
attempt_judges : (leaves : Following) (B : Book) (row : Bool) (room : Rooms) (s : State) (e : Entry) (rest : List Entry)
    → let w = turn_walk leaves B s e in
    length w.nodes ≡ length s.heap → length s.heap ≤ room.nodes
    → Judges room (with_nodes s w.nodes) (length s.heap + needed w.found) (Later.attempt leaves B row room s e rest)
unfolding Later.attempt Later.turn_at turn_walk walk_at with_nodes needed
attempt_judges leaves B row room s e rest = go (at g n)
  where
    n : ℕ
    n = follow s.heap e.root

    g : Heap
    g = leaves s.heap e.root

    go : (y : Node)
        → let w = walk_at leaves B n g y in
        length w.nodes ≡ length s.heap → length s.heap ≤ room.nodes
        → Judges room (with_nodes s w.nodes) (length s.heap + needed w.found) (Later.turn_at leaves B row room (with_nodes s g) rest e n y)
    go fail size fits = needs_none room (with_nodes s g) (omega arith) tt
    go (forward m) size fits = needs_none room (with_nodes s g) (omega arith) tt
    go (choice i l r) size fits =
        needs_none room (with_nodes s g) (omega arith)
        (split-not leaves B row room (with_nodes s g) e rest e.question i l r e.decisions (get_or e.decisions i Open))
    go (apply f xs) size fits =
        let w = walk leaves B n g in
        let t = with_nodes s w.nodes in
        subst (λ (k : ℕ). Judges room t (k + needed w.found) (Later.done leaves B row room t rest e n w.found)) size
        (done_judges leaves B row room t e rest (rw size fits) n w.found)

-- ---- two walks

-- what is found alike needs as many
needs_same : {h h' : Heap} {N C A : Pairing} {y y' : Found} → FoundAlike h h' N C A y y' → needed y' ≡ needed y
unfolding needed
needs_same FoundAlike.finished = refl
needs_same FoundAlike.goes = refl
needs_same (FoundAlike.fails p) = refl
needs_same (FoundAlike.rewrites p vs scoped) = refl
needs_same (FoundAlike.pulls p c l r q is is') = refl
needs_same FoundAlike.far = refl

-- what the plain walk from node n needs
plain_need : Book → Heap → ℕ → Node → ℕ
plain_need B h n (apply f xs) = needed (PlainWalk.walk B h n)
plain_need B h n (choice i l r) = 0
plain_need B h n fail = 0
plain_need B h n (forward m) = 0

-- a walk of state s beside the plain walk of heap h from where x leads
record Beside (B : Book) (h : Heap) (x : ℕ) (s : State) (w : Walked) : Type 0 where
  short : Shortcut s.heap w.nodes
  needs : needed w.found ≡ plain_need B h (follow h x) (at h (follow h x))

-- so it is where the heaps are alike
module _ (leaves : Following) (harmless : Harmless leaves) (B : Book) {N C : Pairing} {h : Heap} (steerable : Steerable B h) (s : State) (e : Entry)
    (alike : Alike N C h s.heap) (x : ℕ) (root : Arrows h s.heap N x e.root) where
  walk-beside : Beside B h x s (turn_walk leaves B s e)
  unfolding turn_walk walk_at plain_need needed
  walk-beside = go (after.nodes pair) refl
    where
      n : ℕ
      n = follow h x

      n' : ℕ
      n' = follow s.heap e.root

      pair : N n n'
      pair = followed alike root

      g : Heap
      g = leaves s.heap e.root

      led : Shortcut s.heap g
      led = harmless s.heap e.root root.node' root.leads' (still' alike root.same)

      after : Alike N C h g
      after = alike_shortcut alike led

      go : {y y' : Node} → NodeAlike (Arrows h g N) C y y' → at h n ≡ y → Beside B h x s (walk_at leaves B n' g y')
      go (NodeAlike.applies b) is =
          let walks = walk_alike N C h leaves harmless B steerable n n' g after pair in
          record { short = ◌further◌ led walks.short; needs = rw is (needs_same walks.found) }
      go (NodeAlike.chooses c l r) is = record { short = led; needs = rw is refl }
      go NodeAlike.fails is = record { short = led; needs = rw is refl }
      go (NodeAlike.forwards a) is = record { short = led; needs = rw is refl }

-- ---- the turn

-- as many nodes are kept as are marked
kept-count : (to : ℕ → ℕ) (ms : Marks) (h : Heap) → length ms ≡ length h → length (kept_by to ms h) ≡ count ms
unfolding kept_by count
kept-count to [] h is = refl
kept-count to (m ∷ ms) [] is = absurd (omega arith)
kept-count to (true ∷ ms) (x ∷ h) is = ap suc (kept-count to ms h (omega arith))
kept-count to (false ∷ ms) (x ∷ h) is = kept-count to ms h (omega arith)

-- a turn that is not refused with 21 is not tried again
again-not : (f : State → Turned) (y : Turned) → Not21 y → Later.again f y ≡ y
unfolding Later.again
again-not f (Turned.whole t) not = refl
again-not f (Turned.refused c t) not = rw (Later.again, ne_eqb c 21 not) refl

not_21 : {y : Turned} {t : State} → Not21 y → ¬ (y ≡ Turned.refused 21 t)
not_21 not is = (subst Not21 is not) refl

module _ (leaves : Following) (harmless : Harmless leaves) (B : Book) (row : Bool) (room : Rooms) (s : State) (e : Entry) (rest : List Entry)
    (front : s.waiting ≡ e ∷ rest) (range : InRange s.heap) (steerable : Steerable B s.heap) (inside : e.root < length s.heap)
    (ends : Finite s.heap e.root) (fits : length s.heap ≤ room.nodes) where
  abbrev h : Heap
  h = s.heap

  abbrev w : Walked
  w = turn_walk leaves B s e

  -- the state that the first attempt leaves, and that with nodes dropped
  abbrev left : State
  left = with_nodes s w.nodes

  abbrev ms : Marks
  ms = marks left

  abbrev e' : Entry
  e' = moved ms e

  walks : Beside B h e.root s w
  walks = walk-beside leaves harmless B steerable s e (alike_itself range unchanged) e.root (arrows-itself range unchanged inside ends)

  front-left : left.waiting ≡ e ∷ rest
  unfolding with_nodes
  front-left = front

  abbrev roots : List ℕ
  roots = map (λ (x : Entry). x.root) left.waiting

  size : length ms ≡ length left.heap
  size = reached-size left.heap roots

  closed : (n y : ℕ) → Marked ms n → In y (arrows_of (at left.heap n)) → y < length left.heap → Marked ms y
  closed n y m i lt = arrows-reached left.heap roots n y m i lt

  -- the nodes that are left, and those that stay, are alike
  alike_left : Alike (Itself h) Same h left.heap
  unfolding with_nodes
  alike_left = alike_itself range walks.short

  root-left : Arrows h left.heap (Itself h) e.root e.root
  unfolding with_nodes
  root-left = arrows-itself range walks.short inside ends

  marked : Marked ms e.root
  unfolding with_nodes
  marked = roots-reached left.heap roots (ap_in front-left) (rw walks.short.size inside)
    where
      ap_in : {es : List Entry} → es ≡ e ∷ rest → In e.root (map (λ (x : Entry). x.root) es)
      ap_in is = rw is first

  -- so are those that stay
  alike_dropped : Alike (Moves (Itself h) ms) Same h (dropped left).heap
  unfolding dropped
  alike_dropped = alike_moved alike_left ms size closed

  root-dropped : Arrows h (dropped left).heap (Moves (Itself h) ms) e.root e'.root
  unfolding dropped moved
  root-dropped = arrows-moved alike_left ms size closed root-left marked

  -- the walk once more
  walks-again : Beside B h e.root (dropped left) (turn_walk leaves B (dropped left) e')
  walks-again = walk-beside leaves harmless B steerable (dropped left) e' alike_dropped e.root root-dropped

  same_need : needed (turn_walk leaves B (dropped left) e').found ≡ needed w.found
  same_need = walks-again.needs ∙ sym walks.needs

  -- the nodes that stay are those that can be reached
  dropped-count : length (dropped left).heap ≡ reachable left
  unfolding dropped moved_down reachable
  dropped-count = kept-count (moved_to ms) ms left.heap size

  left-size : length left.heap ≡ length h
  unfolding with_nodes
  left-size = walks.short.size

  -- the first attempt
  first_judges : Judges room left (length h + needed w.found) (Later.attempt leaves B row room s e rest)
  first_judges = attempt_judges leaves B row room s e rest walks.short.size fits

  -- and the second
  abbrev second : Turned
  second = Later.attempt leaves B row room (dropped left) e' (map (moved ms) rest)

  second_judges : Judges room (with_nodes (dropped left) (turn_walk leaves B (dropped left) e').nodes) (reachable left + needed w.found) second
  second_judges =
      subst (λ (k : ℕ). Judges room (with_nodes (dropped left) (turn_walk leaves B (dropped left) e').nodes) k second)
      (ap (λ (k : ℕ). k + needed (turn_walk leaves B (dropped left) e').found) dropped-count ∙ ap (λ (k : ℕ). reachable left + k) same_need)
      (attempt_judges leaves B row room (dropped left) e' (map (moved ms) rest) walks-again.short.size (omega (arith, dropped-fewer left, left-size)))

  -- EXACTLY WHEN
  pub lacking : Lacking leaves B row room s e rest
  unfolding Lacking Later.turn Later.again
  lacking = go (dec_lt room.nodes (length h + needed w.found))
    where
      y : Turned
      y = Later.attempt leaves B row room s e rest

      again : Turned → Turned
      again = Later.again (Later.attempted leaves B row room)

      fewer : reachable left ≤ length h
      fewer = omega (arith, dropped-count, dropped-fewer left, left-size)

      -- it is tried once more
      once_more : room.nodes < length h + needed w.found → again y ≡ second
      once_more lt =
          ap again (first_judges.lacks lt) ∙ attempted-is leaves B row room (dropped left) (dropped-front left front-left)

      go : Dec (room.nodes < length h + needed w.found)
          → ((t : State) × (again y ≡ Turned.refused 21 t)) ↔ (room.nodes < reachable left + needed w.found)
      go (yes lt) = (to, from)
        where
          to : (t : State) × (again y ≡ Turned.refused 21 t) → room.nodes < reachable left + needed w.found
          to (t, is) = by (dec_lt room.nodes (reachable left + needed w.found))
            where
              by : Dec (room.nodes < reachable left + needed w.found) → room.nodes < reachable left + needed w.found
              by (yes less) = less
              by (no ge) = absurd (not_21 (second_judges.enough (omega arith)) (sym (once_more lt) ∙ is))

          from : room.nodes < reachable left + needed w.found → (t : State) × (again y ≡ Turned.refused 21 t)
          from less = (_, once_more lt ∙ second_judges.lacks less)
      go (no ge) = (to, from)
        where
          not : Not21 y
          not = first_judges.enough (omega arith)

          to : (t : State) × (again y ≡ Turned.refused 21 t) → room.nodes < reachable left + needed w.found
          to (t, is) = absurd (not_21 not (sym (again-not (Later.attempted leaves B row room) y not) ∙ is))

          from : room.nodes < reachable left + needed w.found → (t : State) × (again y ≡ Turned.refused 21 t)
          from less = absurd (omega (arith, fewer))
