-- REQUEST L7, node for node: a run that shortens forwards leaves the plain machine's state but for forwards, which lead to the same nodes.
use mathlib.Core.Bool.{Bool, true, false}
use mathlib.Core.Path.{◌≡◌, refl, sym, ap, ap₂, subst, ◌∙◌}
use mathlib.Core.Logic.{◌⊎◌, inl, inr}
use mathlib.Core.List.{List, [], ◌∷◌, ◌++◌, map, map-append, append-nil}
use Prim.Native.Nat.{ℕ, zero, suc, ◌+◌, ◌-◌, ◌<◌, ◌≤◌}
use native.Mathlib.Omega.{arith}
use lib.Dec.{ltb}
use lib.ListN.{length, get_or, set, length-map}
use Rattle.limits.specs.Sizes.{most_choices, most_depth}
use Rattle.limits.specs.declared.Side.{Side}
use Rattle.limits.specs.declared.Side.TheVariants.{Open, Left, Right}
use Rattle.limits.specs.Decisions.{Decisions}
use Rattle.limits.specs.Lent.{Entry as PlainEntry}
use Rattle.expressions.specs.Expressions.{Expr}
use Rattle.book.specs.Rules.{Book}
use Rattle.nodes.specs.Nodes.{Node, apply, choice, fail, forward, Heap, at, arguments}
use Rattle.nodes.specs.Forwards.{follow}
use Rattle.nodes.specs.Steps.{failed, with_arrow, pulled}
use Rattle.machine.specs.Made.{Placed, place, rewritten}
use Rattle.machine.specs.Answers as PlainAnswers
use Rattle.machine.specs.Answers.{Answer as PlainAnswer}
use Rattle.machine.specs.Walk as PlainWalk
use Rattle.machine.specs.Walk.{Found, Slot, arrow_at}
use Rattle.machine.specs.Turn as Plain
use Rattle.machine.specs.Turn.{Rooms}
use Rattle.rewriting.specs.Scoped.{Scoped}
use Rattle.rewriting.specs.Rewriting.{Leads, Value}
use Rattle.rewriting.specs.Heaps.{InRange}
use Rattle.rewriting.proofs.Heaps.{there, apply≢fail, grown}
use Rattle.rewriting.proofs.Kept.{place-choices}
use Rattle.rewriting.specs.Lists.{All, none, more}
use Rattle.rewriting.proofs.Lists.{all-at, all_anywhere}
use Rattle.rewriting.proofs.Steers.{Steerable, Lawful}
use Rattle.rewriting.specs.Paths.{Finite}
use Rattle.meaning.proofs.Finite.{finite-arguments, rewrite-finite}
use Rattle.rewriting.specs.Heaps.{NoForward}
use Rattle.meaning.proofs.Follows.{follow-leads, follow-ends}
use Rattle.meaning.specs.Demand3.{question}
use Rattle.meaning.proofs.AllTurns.{Had, loaded-good}
use Rattle.meaning.specs.Entries.{Fit}
use Rattle.meaning.proofs.Turns.{Good, Kept, turn-kept}
use Rattle.meaning.proofs.Walks.{Stepwise, Finds, walk-right}
use Rattle.forwards.specs.Shorten.{Following}
use Rattle.alike.specs.Asked as Asked
use Rattle.alike.specs.Asked.{Entry, Answer}
use Rattle.alike.specs.Walking.{walk}
use Rattle.alike.specs.Turning as Later
use Rattle.alike.specs.Turning.{State, Turned, with_nodes}
use Rattle.alike.specs.AsWithRoom.{plainly}
use Rattle.alike.proofs.Pairs.{Both}
use Rattle.alike.proofs.Alike.{Pairing, NodeAlike, Arrows, still', here, followed, same-symbols}
use Rattle.alike.specs.AsPlain.{Shortcut, plain_entry, Short, AsPlain}
use Rattle.alike.proofs.Shortcuts.{unchanged, ◌further◌, Harmless}
use Rattle.alike.proofs.Walks.{SlotAlike, FoundAlike, Goes, walk_alike}
use Rattle.alike.proofs.Made.{place_alike}
use Rattle.alike.proofs.Ending.{no_loop}
use Rattle.alike.proofs.Shorts.{Itself, Same, EndsAway, leads-inside, arrows-itself, alike_itself, found-same, short_grown}
use Rattle.alike.proofs.Instance.{same_length, same_bytes}

pub data ShortTurned (s : Plain.State) : Plain.Turned → Turned → Type 0 where
  whole : {t : Plain.State} {T : State} → Short t T → ShortTurned s (Plain.whole t) (Turned.whole T)
  refused : {c : ℕ} {T : State} → Short s T → ShortTurned s (Plain.refused c) (Turned.refused c T)

-- ---- deeds on the heaps

-- the arrows of such slots are the same, and paths from them end
slots_arrows : {h g : Heap} {vs vs' : List Slot} → InRange h → Shortcut h g → Both (SlotAlike h (Itself h)) vs vs'
    → (map (λ (v : Slot). arrow_at g v) vs ≡ map (λ (v : Slot). arrow_at h v) vs)
    × All (λ (t : ℕ). Finite h t × (t < length h)) (map (λ (v : Slot). arrow_at h v) vs)
unfolding arrow_at arguments
slots_arrows range short Both.none = (refl, none)
slots_arrows {h} {g} range short (Both.more {a = v} s rest) =
    let (same, ends) = slots_arrows range short rest in
    let here : at g v.holder ≡ at h v.holder = short.others v.holder s.holders.2 in
    (ap₂ ◌∷◌ (ap (λ (y : Node). get_or (arguments y) v.slot 0) here) same, more (go (at h v.holder) refl s.stored) ends)
  where
    go : (y : Node) → at h v.holder ≡ y → v.slot < length (arguments y)
        → Finite h (get_or (arguments y) v.slot 0) × (get_or (arguments y) v.slot 0 < length h)
    go (apply f xs) is lt = (all-at 0 v.slot (finite-arguments s.holders.3 is) lt, all-at 0 v.slot (rw is at (range v.holder)) lt)
    go (choice i l r) is lt = absurd (omega arith)
    go fail is lt = absurd (omega arith)
    go (forward m) is lt = absurd (omega arith)

-- a forward is alike forwards only
forward_of : {A C : Pairing} {y y' : Node} {t : ℕ} → NodeAlike A C y y' → y ≡ forward t → (t' : ℕ) × A t t'
forward_of (NodeAlike.applies b) e = absurd (let z : ◌≡◌ {A = ℕ} 0 1 = cc in omega arith)
forward_of (NodeAlike.chooses c l r) e = absurd (let z : ◌≡◌ {A = ℕ} 0 1 = cc in omega arith)
forward_of NodeAlike.fails e = absurd (let z : ◌≡◌ {A = ℕ} 0 1 = cc in omega arith)
forward_of {A} (NodeAlike.forwards {m} {m'} a) e = (m', subst (λ (q : ℕ). A q m') (let w = e in cc) a)

-- each with itself
with_itself : {P : ℕ → Type 0} {Q : Pairing} → ((x : ℕ) → P x → Q x x) → {xs : List ℕ} → All P xs → Both Q xs xs
with_itself f none = Both.none
with_itself f (more p ps) = Both.more (f _ p) (with_itself f ps)

-- a forward is put where the top is one variable: it is one that P holds of, or a node made
place-forward : (P : ℕ → Type 0) (x : Expr) (env : List ℕ) (n k t : ℕ) → Scoped (length env) x → All P env → (place x env n k).top ≡ forward t
    → P t ⊎ (n ≤ t)
place-forward P x env n k t scoped each top =
    let p = place x env n k in
    let up = (place-choices env x n k).0 in
    let placed = place_alike (λ a b. P a ⊎ (n ≤ a)) (λ a b. Unit {0}) n n (length p.nodes) (λ j lt. inr (omega arith)) k k (p.choices - k) (λ j lt. tt)
    (with_itself (λ y q. inl q) each) x scoped n n k k 0 0 (omega arith) (omega arith) (omega arith) (omega arith) (omega arith) (omega arith) in
    (forward_of placed.top top).1

-- no forwards are made besides
any_pairs : (env : List ℕ) → Both (λ (a b : ℕ). Unit {0}) env env
any_pairs [] = Both.none
any_pairs (x ∷ env) = Both.more tt (any_pairs env)

place_still : (x : Expr) (env : List ℕ) (n k : ℕ) → Scoped (length env) x → (j : ℕ) → NoForward (get_or (place x env n k).nodes j fail)
place_still x env n k scoped j =
    let p = place x env n k in
    let up = (place-choices env x n k).0 in
    let placed = place_alike (λ a b. Unit {0}) (λ a b. Unit {0}) n n (length p.nodes) (λ j lt. tt) k k (p.choices - k) (λ j lt. tt) (any_pairs env) x scoped
    n n k k 0 0 (omega arith) (omega arith) (omega arith) (omega arith) (omega arith) (omega arith) in
    all_anywhere fail j tt placed.still

module _ {h g : Heap} (range : InRange h) (short : Shortcut h g) (m : ℕ) {f : ℕ} {xs : List ℕ} (is : at h m ≡ apply f xs) where
  lt : m < length h
  lt = there h m (apply≢fail is)

  still-m : NoForward (at h m)
  still-m = rw is tt

  same-m : at g m ≡ at h m
  same-m = short.others m still-m

  -- A FAIL
  failed-short : Shortcut (failed h m) (failed g m)
  unfolding failed
  failed-short =
      subst (λ (k : Heap). Shortcut (set h m fail) k) (append-nil (set g m fail)) (subst (λ (k : Heap). Shortcut k (set g m fail ++ [])) (append-nil (set h m fail))
      (short_grown range short m fail [] lt still-m (λ t e. absurd (let z : ◌≡◌ {A = ℕ} 0 1 = cc in omega arith)) (λ j. tt)))

  -- A PULL-UP
  pulled-short : (j i l r : ℕ) → Shortcut (pulled h m j i l r) (pulled g m j i l r)
  unfolding pulled with_arrow
  pulled-short j i l r =
      subst (λ (k : ℕ). Shortcut (pulled h m j i l r) (set g m (choice i k (suc k)) ++ (with_arrow (at g m) j l ∷ with_arrow (at g m) j r ∷ []))) (sym short.size)
      (subst (λ (y : Node). Shortcut (pulled h m j i l r) (set g m (choice i (length h) (suc (length h))) ++ (with_arrow y j l ∷ with_arrow y j r ∷ []))) (sym same-m)
      (short_grown range short m (choice i (length h) (suc (length h))) (with_arrow (at h m) j l ∷ with_arrow (at h m) j r ∷ []) lt still-m
      (λ t e. absurd (let z : ◌≡◌ {A = ℕ} 0 1 = cc in omega arith)) stills))
    where
      copy : (l : ℕ) → NoForward (with_arrow (at h m) j l)
      copy l = rw is (kept f xs l)
        where
          kept : (f : ℕ) (xs : List ℕ) (l : ℕ) → NoForward (with_arrow (apply f xs) j l)
          kept f xs l = tt

      stills : (k : ℕ) → NoForward (get_or (with_arrow (at h m) j l ∷ with_arrow (at h m) j r ∷ []) k fail)
      stills zero = copy l
      stills (suc zero) = copy r
      stills (suc (suc k)) = tt

  -- A REWRITE
  rewritten-short : (p : Placed) → ((t : ℕ) → p.top ≡ forward t → EndsAway h m t ⊎ (length h ≤ t))
      → ((j : ℕ) → NoForward (get_or p.nodes j fail)) → Shortcut (rewritten h m p) (rewritten g m p)
  unfolding rewritten
  rewritten-short p ends stills = short_grown range short m p.top p.nodes lt still-m ends stills

-- ---- a turn

module _ (leaves : Following) (B : Book) (room : Rooms) {s : Plain.State} {S : State} (sh : Short s S) (e : Entry) (rest : List Entry) where
  abbrev rest₀ : List PlainEntry
  rest₀ = map plain_entry rest

  abbrev e₀ : PlainEntry
  e₀ = plain_entry e

  turned-short : (h g : Heap) (k k' : ℕ) (joining : List Entry) → Shortcut h g → k' ≡ k
      → ShortTurned s (Plain.whole (Plain.turned s h k rest₀ (map plain_entry joining))) (Turned.whole (Later.turned S g k' rest joining))
  unfolding Plain.turned Later.turned
  turned-short h g k k' joining short same = ShortTurned.whole (record {
    heaps = short;
    choices = same;
    waiting = map-append plain_entry rest joining;
    answers = sh.answers;
    turns = ap suc sh.turns;
  })

  tests_short : (b b' : Bool) (c : ℕ) {y : Plain.Turned} {y' : Turned} → b ≡ b' → ShortTurned s y y'
      → ShortTurned s (elim b [ true ↦ Plain.refused c | false ↦ y ]) (elim b' [ true ↦ Turned.refused c S | false ↦ y' ])
  tests_short true true c q f = ShortTurned.refused sh
  tests_short false false c q f = f
  tests_short true false c q f = absurd (let z : ◌≡◌ {A = ℕ} 0 1 = cc in omega arith)
  tests_short false true c q f = absurd (let z : ◌≡◌ {A = ℕ} 0 1 = cc in omega arith)

  split-short : (i l r : ℕ) (ds : Decisions) (c : Side)
      → ShortTurned s (Plain.split B room s rest₀ i l r ds c) (Later.split leaves B false room S rest e.question i l r ds c)
  unfolding Plain.split Later.split
  split-short i l r ds Left = turned-short s.heap S.heap s.choices S.choices (Later.entry e.question l ds ∷ []) sh.heaps sh.choices
  split-short i l r ds Right = turned-short s.heap S.heap s.choices S.choices (Later.entry e.question r ds ∷ []) sh.heaps sh.choices
  split-short i l r ds Open =
      tests_short (ltb room.places (length rest₀ + 2)) (ltb room.places (length rest + 2)) 23 (ap (λ n. ltb room.places (n + 2)) (sym (same_length rest)))
      (turned-short s.heap S.heap s.choices S.choices
      (Later.entry e.question l (set ds i Left) ∷ Later.entry e.question r (set ds i Right) ∷ []) sh.heaps sh.choices)

  step-short : (h g : Heap) (k k' : ℕ) → Shortcut h g → k' ≡ k
      → ShortTurned s (Plain.stepped B room s rest₀ e₀ h k) (Later.stepped leaves B false room S rest e g k')
  unfolding Plain.stepped Later.stepped
  step-short h g k k' short same =
      tests_short (ltb room.nodes (length h)) (ltb room.nodes (length g)) 21 (ap (λ n. ltb room.nodes n) (sym short.size))
      (tests_short (ltb most_choices k) (ltb most_choices k') 22 (ap (λ n. ltb most_choices n) (sym same)) (turned-short h g k k' (e ∷ []) short same))

  answer_short : (answers₀ : List PlainAnswer) (answers : List Answer) → map plainly answers ≡ answers₀
      → ShortTurned s (Plain.answered B room s rest₀ answers₀) (Later.answered leaves B false room S rest answers)
  unfolding Plain.answered Later.answered
  answer_short answers₀ answers same =
      tests_short (ltb room.bytes (length (PlainAnswers.answer_bytes answers₀))) (ltb room.bytes (length (Asked.answer_bytes false answers))) 25
      (ap (λ n. ltb room.bytes n) (sym (same_bytes answers answers₀ same)))
      (ShortTurned.whole (record { heaps = sh.heaps; choices = sh.choices; waiting = refl; answers = same; turns = ap suc sh.turns }))

  module _ (range : InRange s.heap) (steerable : Steerable B s.heap) where
    done-short : (n : ℕ) → Itself s.heap n n → {A : Pairing} {y y' : Found} → FoundAlike s.heap S.heap (Itself s.heap) Same A y y'
        → Finds B s.heap (suc most_depth) n y → ShortTurned s (Plain.done B room s rest₀ e₀ n y) (Later.done leaves B false room S rest e n y)
    unfolding Plain.done Later.done Plain.gone Later.gone rewritten
    done-short n p FoundAlike.finished finds = answer_short _ _
        (map-append plainly S.answers _ ∙ ap₂ ◌++◌ sh.answers (ap (λ (l : List ℕ). record { symbols = l; decisions = e.decisions } ∷ [])
        (sym (same-symbols (alike_itself range sh.heaps) (suc most_depth) (here (alike_itself range sh.heaps) p)))))
    done-short n p FoundAlike.goes finds = turned-short s.heap S.heap s.choices S.choices [] sh.heaps sh.choices
    done-short n p FoundAlike.far finds = ShortTurned.refused sh
    done-short n p (FoundAlike.fails {m} q) (Finds.steps (Stepwise.fails is op stops)) =
        step-short (failed s.heap m) (failed S.heap m) s.choices S.choices (failed-short range sh.heaps m is) sh.choices
    done-short n p (FoundAlike.pulls {m} {j} {i} {l} {r} q c al ar pc o o') (Finds.steps (Stepwise.pulls is lt₁ leads at_c)) =
        step-short (pulled s.heap m j i l r) (pulled S.heap m j i l r) s.choices S.choices (pulled-short range sh.heaps m is j i l r) sh.choices
    done-short n p (FoundAlike.rewrites {m} {x} {vs} q slots scoped) (Finds.steps (Stepwise.rewrites is op ends)) =
        subst (λ (k : ℕ). ShortTurned s (Plain.stepped B room s rest₀ e₀ (rewritten s.heap m p₀) p₀.choices)
        (Later.stepped leaves B false room S rest e (rewritten S.heap m (place x env' (length S.heap) k)) (place x env' (length S.heap) k).choices))
        (sym sh.choices)
        (subst (λ (k : ℕ). ShortTurned s (Plain.stepped B room s rest₀ e₀ (rewritten s.heap m p₀) p₀.choices)
        (Later.stepped leaves B false room S rest e (rewritten S.heap m (place x env' k s.choices)) (place x env' k s.choices).choices))
        (sym sh.heaps.size)
        (subst (λ (l : List ℕ). ShortTurned s (Plain.stepped B room s rest₀ e₀ (rewritten s.heap m p₀) p₀.choices)
        (Later.stepped leaves B false room S rest e (rewritten S.heap m (place x l (length s.heap) s.choices)) (place x l (length s.heap) s.choices).choices))
        (sym (slots_arrows range sh.heaps slots).0)
        (step-short (rewritten s.heap m p₀) (rewritten S.heap m p₀) p₀.choices p₀.choices
        (rewritten-short range sh.heaps m is p₀ leads_away (place_still x env (length s.heap) s.choices scoped')) refl)))
      where
        env : List ℕ
        env = map (λ (v : Slot). arrow_at s.heap v) vs

        env' : List ℕ
        env' = map (λ (v : Slot). arrow_at S.heap v) vs

        p₀ : Placed
        p₀ = place x env (length s.heap) s.choices

        scoped' : Scoped (length env) x
        scoped' = rw length-map scoped

        ends-after : Finite (rewritten s.heap m p₀) m
        ends-after = rewrite-finite m s.choices range is op ends steerable q.3 (there s.heap m (apply≢fail is))

        leads_away : (t : ℕ) → p₀.top ≡ forward t → EndsAway s.heap m t ⊎ (length s.heap ≤ t)
        leads_away t top =
            go (place-forward (λ (y : ℕ). Finite s.heap y × (y < length s.heap)) x env (length s.heap) s.choices t scoped' (slots_arrows range sh.heaps slots).1 top)
          where
            away : (t : ℕ) → p₀.top ≡ forward t → ¬ Leads s.heap t m
            away t top = no_loop s.heap m t p₀.top p₀.nodes q.2 q.1 (unfolded ends-after) top
              where
                unfolded : Finite (rewritten s.heap m p₀) m → Finite (grown s.heap m p₀.top p₀.nodes) m
                unfolded e = e

            go : (Finite s.heap t × (t < length s.heap)) ⊎ (length s.heap ≤ t) → EndsAway s.heap m t ⊎ (length s.heap ≤ t)
            go (inl (ends-t, lt-t)) =
                let l = follow-leads s.heap t in
                inl (
                  follow s.heap t,
                  l,
                  follow-ends ends-t,
                  (λ same. away t top (subst (λ (k : ℕ). Leads s.heap t k) same l)),
                  leads-inside range sh.heaps l lt-t,
                )
            go (inr le) = inr le

-- the same state with other forwards
short_on : {s : Plain.State} {S : State} {g : Heap} → Short s S → Shortcut S.heap g → Short s (with_nodes S g)
unfolding with_nodes
short_on sh short = record {
  heaps = ◌further◌ sh.heaps short;
  choices = sh.choices;
  waiting = sh.waiting;
  answers = sh.answers;
  turns = sh.turns;
}

-- THE TURN, node for node
pub turn-short : (leaves : Following) → Harmless leaves → (B : Book) (P : Heap → Type 0) → Lawful B P → (W : Value → Type 0) (room : Rooms) {s : Plain.State} {S : State}
    → Short s S → Good B P W s → (e : Entry) (rest : List Entry) → s.waiting ≡ plain_entry e ∷ map plain_entry rest
    → ShortTurned s (Plain.turn B room s (plain_entry e) (map plain_entry rest)) (Later.attempt leaves B false room S e rest)
unfolding Plain.turn Later.attempt Plain.turn_at Later.turn_at Plain.gone Later.gone with_nodes
turn-short leaves harmless B P law W room {s} {S} sh good e rest front =
    subst (λ (k : ℕ). ShortTurned s (Plain.turn_at B room s (map plain_entry rest) (plain_entry e) n (at s.heap n))
    (Later.turn_at leaves B false room (with_nodes S g) rest e k (at g k))) pair.0
    (subst (λ (y : Node). ShortTurned s (Plain.turn_at B room s (map plain_entry rest) (plain_entry e) n (at s.heap n))
    (Later.turn_at leaves B false room (with_nodes S g) rest e n y)) (sym (short.others n pair.2)) (go (at s.heap n) refl))
  where
    fit : Fit s.heap s.choices (plain_entry e)
    fit = by (rw front at good.fits)
      where
        by : {a : PlainEntry} {us : List PlainEntry} → All (Fit s.heap s.choices) (a ∷ us) → Fit s.heap s.choices a
        by (more f fs) = f

    n : ℕ
    n = follow s.heap e.root

    n' : ℕ
    n' = follow S.heap e.root

    root : Arrows s.heap S.heap (Itself s.heap) e.root e.root
    root = arrows-itself good.range sh.heaps fit.inside fit.ends

    pair : Itself s.heap n n'
    pair = followed (alike_itself good.range sh.heaps) root

    g : Heap
    g = leaves S.heap e.root

    first : Shortcut S.heap g
    first = harmless S.heap e.root root.node' root.leads' (still' (alike_itself good.range sh.heaps) root.same)

    short : Shortcut s.heap g
    short = ◌further◌ sh.heaps first

    self : Itself s.heap n n
    self = (refl, pair.1, pair.2, pair.3)

    walks : Goes (Itself s.heap) Same s.heap g (PlainWalk.walk B s.heap n) (walk leaves B n g)
    walks = walk_alike (Itself s.heap) Same s.heap leaves harmless B (law.steers good.lawful) n n g (alike_itself good.range short) self

    go : (y : Node) → at s.heap n ≡ y
        → ShortTurned s (Plain.turn_at B room s (map plain_entry rest) (plain_entry e) n y) (Later.turn_at leaves B false room (with_nodes S g) rest e n y)
    go fail is = turned-short leaves B room (short_on sh first) e rest s.heap g s.choices S.choices [] short sh.choices
    go (forward m) is = absurd (rw is at pair.2)
    go (choice i l r) is = split-short leaves B room (short_on sh first) e rest i l r e.decisions (get_or e.decisions i Open)
    go (apply f xs) is =
        subst (λ (y : Found). ShortTurned s (Plain.done B room s (map plain_entry rest) (plain_entry e) n (PlainWalk.walk B s.heap n))
        (Later.done leaves B false room (with_nodes S (walk leaves B n g).nodes) rest e n y)) (found-same (◌further◌ short walks.short) walks.found)
        (done-short leaves B room (short_on sh (◌further◌ first walks.short)) e rest good.range (law.steers good.lawful) n self walks.found
        (walk-right B s.heap (law.steers good.lawful) n is pair.3))

-- RUNS, node for node
module _ (leaves : Following) (harmless : Harmless leaves) (B : Book) (P : Heap → Type 0) (law : Lawful B P) (W : Value → Type 0) (room : Rooms) where
  pub runs-short : (fuel : ℕ) (s : Plain.State) (S : State) → Short s S → Good B P W s
      → AsPlain (Plain.turns B room fuel s) (Later.attempts leaves B false room fuel S)
  unfolding Plain.turns Plain.after Later.attempts Later.turns_by Later.after
  runs-short zero s S sh good =
      subst (λ (l : List PlainEntry). AsPlain (elim l [ [] ↦ record { number = 0; state = s } | e ∷ rest ↦ record { number = 20; state = s } ])
      (elim S.waiting [ [] ↦ record { number = 0; state = S } | e ∷ rest ↦ record { number = 20; state = S } ])) sh.waiting (go S.waiting)
    where
      go : (l : List Entry)
          → AsPlain (elim (map plain_entry l) [ [] ↦ record { number = 0; state = s } | e ∷ rest ↦ record { number = 20; state = s } ])
          (elim l [ [] ↦ record { number = 0; state = S } | e ∷ rest ↦ record { number = 20; state = S } ])
      go [] = record { number = refl; state = sh }
      go (e ∷ rest) = record { number = refl; state = sh }
  runs-short (suc fuel) s S sh good =
      subst (λ (l : List PlainEntry). AsPlain (elim l [
        | [] ↦ record { number = 0; state = s }
        | e ∷ rest ↦ Plain.after (Plain.turn B room s e rest) s (λ t. Plain.turns B room fuel t)
      ]) (elim S.waiting [
        | [] ↦ record { number = 0; state = S }
        | e ∷ rest ↦ Later.after (Later.attempt leaves B false room S e rest) (λ t. Later.turns_by (Later.attempt leaves B false room) fuel t)
      ])) sh.waiting (go S.waiting (sym sh.waiting) (runs-short fuel))
    where
      by : {y : Plain.Turned} {y' : Turned} → ShortTurned s y y' → Kept B P W room y
          → ((t : Plain.State) (T : State) → Short t T → Good B P W t
          → AsPlain (Plain.turns B room fuel t) (Later.turns_by (Later.attempt leaves B false room) fuel T))
          → AsPlain (Plain.after y s (λ t. Plain.turns B room fuel t)) (Later.after y' (λ t. Later.turns_by (Later.attempt leaves B false room) fuel t))
      by (ShortTurned.whole {t} {T} sh') (Kept.whole good') ih = ih t T sh' good'
      by (ShortTurned.refused sh') kept ih = record { number = refl; state = sh' }

      go : (l : List Entry) → s.waiting ≡ map plain_entry l
          → ((t : Plain.State) (T : State) → Short t T → Good B P W t
          → AsPlain (Plain.turns B room fuel t) (Later.turns_by (Later.attempt leaves B false room) fuel T))
          → AsPlain (elim (map plain_entry l) [
            | [] ↦ record { number = 0; state = s }
            | e ∷ rest ↦ Plain.after (Plain.turn B room s e rest) s (λ t. Plain.turns B room fuel t)
          ]) (elim l [
            | [] ↦ record { number = 0; state = S }
            | e ∷ rest ↦ Later.after (Later.attempt leaves B false room S e rest) (λ t. Later.turns_by (Later.attempt leaves B false room) fuel t)
          ])
      go [] q ih = record { number = refl; state = sh }
      go (e ∷ rest) q ih =
          by (turn-short leaves harmless B P law W room sh good e rest q) (turn-kept B P W room s (plain_entry e) (map plain_entry rest) q good law) ih

-- AS THE PLAIN MACHINE, of a question: the same number, turns, answers, choices and entries, and the plain machine's nodes but for forwards, which lead to the
-- same nodes
pub as_plain : (leaves : Following) → Harmless leaves → (B : Book) (P : Heap → Type 0) → Lawful B P → (x : Expr) → Scoped 0 x
    → (question x).choices ≤ most_choices → P (question x).heap → (room : Rooms) (fuel : ℕ)
    → AsPlain (Plain.turns B room fuel (Plain.loaded x)) (Later.attempts leaves B false room fuel (Later.loaded (x ∷ [])))
unfolding Plain.loaded Later.loaded Later.loaded_on
as_plain leaves harmless B P law x closed few lawful room fuel =
    runs-short leaves harmless B P law (Had B P x closed few lawful) room fuel (Plain.loaded x) (Later.loaded (x ∷ [])) (record {
      heaps = unchanged;
      choices = refl;
      waiting = refl;
      answers = refl;
      turns = refl;
    }) (loaded-good B P x closed few lawful)
