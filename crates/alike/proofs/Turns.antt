-- THE TURN: with room enough, the front entry's turn in the shared run is the turn of its question's own run; and what a refused turn leaves of the
-- shared run is alike all own runs as before.
use mathlib.Core.Path.{◌≡◌, refl, sym, ap, subst, ◌∙◌}
use mathlib.Core.Logic.{◌≢◌, inl}
use mathlib.Core.List.{List, [], ◌∷◌, ◌++◌, map, append-nil}
use Prim.Native.Nat.{ℕ, suc, ◌+◌, ◌-◌, ◌<◌, ◌≤◌}
use native.Mathlib.Nat.{le_refl}
use native.Mathlib.Omega.{arith}
use lib.ListN.{length, get_or, set, length-append, length-map}
use Rattle.limits.specs.Sizes.{most_choices, most_depth}
use Rattle.limits.specs.declared.Side.{Side}
use Rattle.limits.specs.declared.Side.TheVariants.{Open, Left, Right}
use Rattle.limits.specs.Lent.{Entry as PlainEntry}
use Rattle.book.specs.Rules.{Book}
use Rattle.nodes.specs.Nodes.{Node, forward, Heap, at}
use Rattle.nodes.specs.Forwards.{follow}
use Rattle.machine.specs.Made.{Placed, place, rewritten}
use Rattle.machine.specs.Answers.{symbols_from}
use Rattle.machine.specs.Walk.{Found, Slot, arrow_at}
use Rattle.machine.specs.Walk as PlainWalk
use Rattle.machine.specs.Turn as Plain
use Rattle.rewriting.specs.Rewriting.{Leads, Value}
use Rattle.rewriting.proofs.Heaps.{there, apply≢fail}
use Rattle.rewriting.proofs.Kept.{place-choices}
use Rattle.rewriting.specs.Lists.{All, none, more, firsts}
use Rattle.rewriting.proofs.Steers.{Lawful}
use Rattle.rewriting.proofs.Update.{update}
use Rattle.rewriting.specs.Paths.{Finite}
use Rattle.meaning.proofs.Finite.{rewrite-finite}
use Rattle.meaning.proofs.PathsEnd.{leads-finite}
use Rattle.rewriting.specs.Heaps.{NoForward}
use Rattle.meaning.proofs.Follows.{follow-leads}
use Rattle.meaning.specs.Entries.{Fit}
use Rattle.meaning.proofs.Turns.{Good}
use Rattle.meaning.proofs.Walks.{Stepwise, Finds, walk-right}
use Rattle.forwards.specs.Shorten.{Following}
use Rattle.alike.specs.Walking.{walk}
use Rattle.alike.specs.Asked.{Entry}
use Rattle.alike.specs.Turning as Later
use Rattle.alike.specs.Turning.{State, with_nodes}
use Rattle.alike.proofs.Pairs.{Both, both_images}
use Rattle.alike.proofs.Alike.{Pairing, NodeAlike, Arrows, Alike, still', here, followed, same-symbols}
use Rattle.alike.specs.AsPlain.{Shortcut}
use Rattle.alike.proofs.Shortcuts.{◌further◌, Harmless, arrows_shortcut, alike_shortcut}
use Rattle.alike.proofs.Walks.{SlotAlike, FoundAlike, Goes, walk_alike, arrows-at}
use Rattle.alike.proofs.Grown.{Grows, arrows-beside, alike_beside}
use Rattle.alike.proofs.Deeds.{Deed, failed_alike, pulled_alike, rewritten_alike, rewritten-choices}
use Rattle.alike.proofs.Ending.{Ending, no_loop, arrows-any, alike_ending}
use Rattle.alike.proofs.Entries.{Among, among_append, among-map, Numbered, Below, Longer, rising-few, numbered_on, numbered_on_length}
use Rattle.alike.proofs.Entries.{numbered-old, numbered-new, numbered_on_longer, numbered_on_below, numbered_on_rising}
use Rattle.alike.proofs.Entries.{DecisionsAlike, decisions_longer, decisions-set, EntryAlike, Of}
use Rattle.alike.proofs.Free.{Free, free_split, wrote, free_done, free_at, free, later_split, later_wrote, later_done, later_at, later_free, Freed}
use Rattle.alike.proofs.Shared.{Follows, Shared, shared_shortcut, Front, front_mine, front-map, shared-next, others-stay, others_wait, none_theirs}

-- how the counts of two states have changed: by the same
pub record Counts (s t : Plain.State) (S T : State) : Type 0 where
  pub nodes : ℕ
  pub nodes-are : length t.heap ≡ length s.heap + nodes
  pub nodes_are' : length T.heap ≡ length S.heap + nodes
  pub choices : ℕ
  pub choices-are : t.choices ≡ s.choices + choices
  pub choices_are' : T.choices ≡ S.choices + choices
  pub entries : length t.waiting + length S.waiting ≡ length T.waiting + length s.waiting
  pub answers : length t.answers + length S.answers ≡ length T.answers + length s.answers
  pub turns : t.turns ≡ suc s.turns
  pub turns' : T.turns ≡ suc S.turns

-- the runs beside a shared run that has come to T, where question q's own run has come to t
pub record Onward (alone : ℕ → Plain.State) (q : ℕ) (t : Plain.State) (T : State) : Type 1 where
  pub numbers : ℕ → List ℕ
  pub pairs : ℕ → Pairing
  pub shared : Shared (update alone q t) numbers pairs T

-- what two turns came to
pub data Came (alone : ℕ → Plain.State) (q : ℕ) (S : State) : Free Plain.State → Free State → Type 1 where
  far : Came alone q S Free.far Free.far
  comes : {t : Plain.State} {T : State} → Counts (alone q) t S T → (T.choices ≤ most_choices → Onward alone q t T) → Came alone q S (Free.comes t) (Free.comes T)

module _ {alone : ℕ → Plain.State} {numbers : ℕ → List ℕ} {N : ℕ → Pairing} {S : State} (x : Shared alone numbers N S)
    (e : Entry) (rest : List Entry) (front : S.waiting ≡ e ∷ rest)
    (fr : Front (Of e.question) (EntryAlike (alone e.question).heap S.heap (N e.question) (numbers e.question)) (alone e.question).waiting e rest) where
  abbrev q : ℕ
  q = e.question

  abbrev s : Plain.State
  s = alone q

  abbrev f : Follows q (N q) (numbers q) s S
  f = x.each q

  abbrev R : PlainEntry → Entry → Type 0
  R = EntryAlike s.heap S.heap (N q) (numbers q)

  -- the entry of the own run
  abbrev e₀ : PlainEntry
  e₀ = fr.entry

  abbrev rest₀ : List PlainEntry
  rest₀ = fr.rest

  counts-entries : (js : List PlainEntry) (js' : List Entry) → length js ≡ length js'
      → length (rest₀ ++ js) + length S.waiting ≡ length (rest ++ js') + length s.waiting
  counts-entries js js' same =
      omega (arith, length-append rest₀ js, length-append rest js', ap length front, ap length fr.is)

  -- ---- the nodes stay: the entry becomes js, at the back
  stays : (js : List PlainEntry) (js' : List Entry) → length js ≡ length js' → Among (Of q) R js js' → All (λ (y : Entry). y.question ≡ q) js'
      → Came alone q S (Free.comes (Plain.turned s s.heap s.choices rest₀ js)) (Free.comes (Later.turned S S.heap S.choices rest js'))
  unfolding Plain.turned Later.turned
  stays js js' same joined mine = Came.comes {t = Plain.turned s s.heap s.choices rest₀ js} {T = Later.turned S S.heap S.choices rest js'}
      (record {
        nodes = 0;
        nodes-are = omega arith;
        nodes_are' = omega arith;
        choices = 0;
        choices-are = omega arith;
        choices_are' = omega arith;
        entries = counts-entries js js' same;
        answers = omega arith;
        turns = refl;
        turns' = refl;
      })
      (λ few. record {
        numbers = _;
        pairs = _;
        shared = shared-next x q (Plain.turned s s.heap s.choices rest₀ js) (numbers q) (N q) (Later.turned S S.heap S.choices rest js')
            (record {
              heaps = f.heaps;
              waiting = among_append fr.behind joined;
              answers = f.answers;
              numbered = f.numbered;
              rising = f.rising;
              below = f.below;
            })
            (λ r other. others-stay x e rest front r other S.heap S.choices js' refl (le_refl _) mine)
            (λ m m' p. inl (m, p)) few;
      })

  -- ---- a deed: nodes change, and the entry waits again
  changes : {N₁ : Pairing} {g g' : Heap} (many k k' : ℕ) → k ≡ s.choices + many → k' ≡ S.choices + many
      → Deed (N q) (Numbered (numbers q)) N₁ (Numbered (numbered_on S.choices many (numbers q))) s.heap S.heap g g'
      → Came alone q S (Free.comes (Plain.turned s g k rest₀ (e₀ ∷ []))) (Free.comes (Later.turned S g' k' rest (e ∷ [])))
  unfolding Plain.turned Later.turned
  changes {N₁} {g} {g'} many k k' ek ek' d = Came.comes {t = Plain.turned s g k rest₀ (e₀ ∷ [])} {T = Later.turned S g' k' rest (e ∷ [])}
      (record {
        nodes = d.many;
        nodes-are = d.size;
        nodes_are' = d.size';
        choices = many;
        choices-are = ek;
        choices_are' = ek';
        entries = counts-entries (e₀ ∷ []) (e ∷ []) refl;
        answers = omega arith;
        turns = refl;
        turns' = refl;
      })
      (λ few. record {
        numbers = _;
        pairs = _;
        shared = shared-next x q (Plain.turned s g k rest₀ (e₀ ∷ [])) cs N₁ (Later.turned S g' k' rest (e ∷ []))
            (record {
              heaps = d.alike;
              waiting = among_append (among-map on fr.behind) (Among.mine refl (on e₀ e fr.related) Among.none);
              answers = among-map (λ a a' y. record { symbols = y.symbols; decisions = decisions_longer longer f.below y.decisions }) f.answers;
              numbered = numbered_on_length S.choices many (numbers q) ∙ rw f.numbered (sym ek);
              rising = numbered_on_rising S.choices many (numbers q) f.below f.rising;
              below = rw ek' (numbered_on_below S.choices many (numbers q) f.below);
            })
            others d.own few;
      })
    where
      cs : List ℕ
      cs = numbered_on S.choices many (numbers q)

      longer : Longer S.choices (numbers q) cs
      longer = numbered_on_longer S.choices many (numbers q)

      on : (a : PlainEntry) (a' : Entry) → R a a' → EntryAlike g g' N₁ cs a a'
      on a a' y = record { roots = d.arrows a.root a'.root y.roots; decisions = decisions_longer longer f.below y.decisions }

      -- the other questions' nodes are elsewhere
      others : (r : ℕ) → r ≢ q → Follows r (N r) (numbers r) (alone r) (Later.turned S g' k' rest (e ∷ []))
      others r other =
          let fo = x.each r in
          let apart : (m m' : ℕ) → N r m m' → m' ≢ d.place' = λ m m' p same. other (x.parted r q m d.place m' p (rw same d.there)) in
          let still = still' f.heaps d.there in
          record {
            heaps = rw d.is (alike_beside fo.heaps d.place' d.node d.nodes still apart);
            waiting = rw (← append-nil (alone r).waiting) (among_append
                (among-map (λ a a' y. record {
                  roots = rw d.is (arrows-beside fo.heaps d.place' d.node d.nodes still apart y.roots);
                  decisions = y.decisions;
                }) (others_wait x e rest front r other))
                (none_theirs x e rest front r other (more refl none)));
            answers = fo.answers;
            numbered = fo.numbered;
            rising = fo.rising;
            below = λ i lt. omega (arith, fo.below i lt);
          }

  -- ---- the entry goes
  goes : Came alone q S (Free.comes (Plain.gone s rest₀)) (Free.comes (Later.gone S rest))
  unfolding Plain.gone Later.gone
  goes = stays [] [] refl Among.none none

  -- ---- a value is written
  writes : (n n' : ℕ) → symbols_from (suc most_depth) s.heap n ≡ symbols_from (suc most_depth) S.heap n'
      → Came alone q S (Free.comes (wrote s rest₀ e₀ n)) (Free.comes (later_wrote S rest e n'))
  unfolding wrote later_wrote
  writes n n' same = Came.comes {t = wrote s rest₀ e₀ n} {T = later_wrote S rest e n'}
      (record {
        nodes = 0;
        nodes-are = omega arith;
        nodes_are' = omega arith;
        choices = 0;
        choices-are = omega arith;
        choices_are' = omega arith;
        entries = omega (arith, ap length front, ap length fr.is);
        answers = omega (
          arith,
          length-append s.answers (record { symbols = symbols_from (suc most_depth) s.heap n; decisions = e₀.decisions } ∷ []),
          length-append S.answers
              (record { question = q; symbols = symbols_from (suc most_depth) S.heap n'; decisions = e.decisions } ∷ []),
        );
        turns = refl;
        turns' = refl;
      })
      (λ few. record {
        numbers = _;
        pairs = _;
        shared = shared-next x q (wrote s rest₀ e₀ n) (numbers q) (N q) (later_wrote S rest e n')
            (record {
              heaps = f.heaps;
              waiting = fr.behind;
              answers = among_append f.answers (Among.mine refl (record { symbols = same; decisions = fr.related.decisions }) Among.none);
              numbered = f.numbered;
              rising = f.rising;
              below = f.below;
            })
            (λ r other. let fo = x.each r in
            record {
              heaps = fo.heaps;
              waiting = others_wait x e rest front r other;
              answers = rw (← append-nil (alone r).answers) (among_append fo.answers (Among.other (λ p. other (sym p)) Among.none));
              numbered = fo.numbered;
              rising = fo.rising;
              below = fo.below;
            })
            (λ m m' p. inl (m, p)) few;
      })

  -- ---- a choice at the root
  splits : (i i' l l' r r' : ℕ) → Numbered (numbers q) i i' → Arrows s.heap S.heap (N q) l l' → Arrows s.heap S.heap (N q) r r'
      → (c c' : Side) → c ≡ c'
      → Came alone q S (Free.comes (free_split s rest₀ i l r e₀.decisions c)) (Free.comes (later_split S rest q i' l' r' e.decisions c'))
  unfolding free_split later_split
  splits i i' l l' r r' number al ar c c' same = rw (← same) (go c)
    where
      d : DecisionsAlike (numbers q) e₀.decisions e.decisions
      d = fr.related.decisions

      -- all numbers are below 256, and so many are the choices at most
      below : Below most_choices (numbers q)
      below i lt = omega (arith, f.below i lt, x.few)

      few : length (numbers q) ≤ most_choices
      few = rising-few (numbers q) f.rising below

      decided : (c : Side) → DecisionsAlike (numbers q) (set e₀.decisions i c) (set e.decisions i' c)
      decided c = decisions-set f.rising below few i i' c number d

      go : (c : Side)
          → Came alone q S (Free.comes (free_split s rest₀ i l r e₀.decisions c)) (Free.comes (later_split S rest q i' l' r' e.decisions c))
      go Left = stays (Plain.entry l e₀.decisions ∷ []) (Later.entry q l' e.decisions ∷ []) refl
          (Among.mine refl (record { roots = al; decisions = d }) Among.none) (more refl none)
      go Right = stays (Plain.entry r e₀.decisions ∷ []) (Later.entry q r' e.decisions ∷ []) refl
          (Among.mine refl (record { roots = ar; decisions = d }) Among.none) (more refl none)
      go Open =
          stays (Plain.entry l (set e₀.decisions i Left) ∷ Plain.entry r (set e₀.decisions i Right) ∷ [])
          (Later.entry q l' (set e.decisions i' Left) ∷ Later.entry q r' (set e.decisions i' Right) ∷ []) refl
          (Among.mine refl (record { roots = al; decisions = decided Left }) (Among.mine refl (record { roots = ar; decisions = decided Right }) Among.none))
          (more refl (more refl none))

  -- ---- what the walk found, done
  abbrev cs : List ℕ
  cs = numbers q

  -- a deed that makes no choices
  no_choices : {N₁ : Pairing} {g g' : Heap} → Deed (N q) (Numbered cs) N₁ (Numbered cs) s.heap S.heap g g'
      → Came alone q S (Free.comes (Plain.turned s g s.choices rest₀ (e₀ ∷ []))) (Free.comes (Later.turned S g' S.choices rest (e ∷ [])))
  unfolding firsts
  no_choices {N₁} {g} {g'} d =
      changes 0 s.choices S.choices (omega arith) (omega arith)
      (subst (λ (ds : List ℕ). Deed (N q) (Numbered cs) N₁ (Numbered ds) s.heap S.heap g g') (sym (append-nil cs)) d)

  -- slots of pairs from which paths end
  slot-any : (v v' : Slot) → SlotAlike s.heap (Ending s.heap (N q)) v v' → SlotAlike s.heap (N q) v v'
  slot-any v v' a = record { holders = a.holders.0; slots = a.slots; belows = a.belows; stored = a.stored }

  module _ (B : Book) (P : Heap → Type 0) (law : Lawful B P) (W : Value → Type 0) (good : Good B P W s) where
    done_alike : (n n' : ℕ) → N q n n' → {y y' : Found}
        → FoundAlike s.heap S.heap (Ending s.heap (N q)) (Numbered cs) (Arrows s.heap S.heap (Ending s.heap (N q))) y y'
        → Finds B s.heap (suc most_depth) n y
        → Came alone q S (free_done s rest₀ e₀ n y) (later_done S rest e n' y')
    unfolding free_done later_done rewritten
    done_alike n n' p FoundAlike.finished finds = writes n n' (same-symbols f.heaps (suc most_depth) (here f.heaps p))
    done_alike n n' p FoundAlike.goes finds = goes
    done_alike n n' p (FoundAlike.fails m) finds = no_choices (failed_alike f.heaps m.0)
    done_alike n n' p (FoundAlike.pulls {j} m c l r o is is') finds = no_choices (pulled_alike f.heaps m.0 j c (arrows-any l) (arrows-any r))
    done_alike n n' p FoundAlike.far finds = Came.far
    done_alike n n' p (FoundAlike.rewrites {m} {m'} {x = rule} {vs} {vs'} pair slots scoped) (Finds.steps (Stepwise.rewrites is op ends)) =
        changes many placed.choices placed'.choices (omega (arith, up)) (omega (arith, made)) deed
      where
        env : List ℕ
        env = map (λ (v : Slot). arrow_at s.heap v) vs

        env' : List ℕ
        env' = map (λ (v : Slot). arrow_at S.heap v) vs'

        placed : Placed
        placed = place rule env (length s.heap) s.choices

        placed' : Placed
        placed' = place rule env' (length S.heap) S.choices

        up : s.choices ≤ placed.choices
        up = (place-choices env rule (length s.heap) s.choices).0

        many : ℕ
        many = placed.choices - s.choices

        k : ℕ
        k = S.choices

        vars : Both (Arrows s.heap S.heap (N q)) env env'
        vars = both_images (λ v. arrow_at s.heap v) (λ v. arrow_at S.heap v) (λ v v' a. arrows-at f.heaps (slot-any v v' a)) slots

        news : (j : ℕ) → j < many → Numbered (numbered_on k many cs) (s.choices + j) (k + j)
        news j lt = subst (λ (n : ℕ). Numbered (numbered_on k many cs) (n + j) (k + j)) f.numbered (numbered-new k many cs j lt)

        ends-after : Finite (rewritten s.heap m placed) m
        ends-after =
            rewrite-finite m s.choices good.range is op ends (law.steers good.lawful) pair.1 (there s.heap m (apply≢fail is))

        circle : (y : ℕ) → placed.top ≡ forward y → ¬ Leads s.heap y m
        circle y = no_loop s.heap m y placed.top placed.nodes (f.heaps.still pair.0) (there s.heap m (apply≢fail is)) ends-after

        deed : Deed (N q) (Numbered cs) (Grows (N q) s.heap S.heap m m' placed.top (length placed.nodes)) (Numbered (numbered_on k many cs)) s.heap S.heap (rewritten s.heap m placed) (rewritten S.heap m' placed')
        deed = rewritten_alike f.heaps pair.0 (Numbered (numbered_on k many cs)) (numbered-old k many cs) s.choices k many news vars rule
            (rw length-map scoped) (omega arith) circle

        made : placed'.choices ≡ k + many
        made =
            let (c, is, is') = rewritten-choices f.heaps pair.0 (Numbered (numbered_on k many cs)) (numbered-old k many cs) s.choices k many news vars rule
            (rw length-map scoped) (omega arith) circle in
            omega (arith, is, is', up)

-- ---- the turn

module _ (leaves : Following) (harmless : Harmless leaves) (B : Book) (P : Heap → Type 0) (law : Lawful B P) (W : ℕ → Value → Type 0)
    {alone : ℕ → Plain.State} {numbers : ℕ → List ℕ} {N : ℕ → Pairing} {S : State} (x : Shared alone numbers N S)
    (good : (q : ℕ) → Good B P (W q) (alone q)) (e : Entry) (rest : List Entry) (front : S.waiting ≡ e ∷ rest) where
  -- what the later turn comes to with room enough, and what it leaves if it is refused
  abbrev freed : Freed
  freed = later_free leaves B S e rest

  -- of the shared run and the own run of the front entry's question
  pub record Alongside (f : Freed) : Type 1 where
    pub entry : PlainEntry
    pub behind : List PlainEntry
    pub in_front : (alone e.question).waiting ≡ entry ∷ behind
    pub short : Shortcut S.heap f.left.heap
    pub left_is : f.left ≡ with_nodes S f.left.heap
    pub root-size : length (leaves S.heap e.root) ≡ length S.heap
    pub walk-size : length (walk leaves B (follow S.heap e.root) (leaves S.heap e.root)).nodes ≡ length S.heap
    pub left : Shared alone numbers N f.left
    pub came : Came alone e.question f.left (free B (alone e.question) entry behind) f.came

  -- THE TURN
  pub free_alike : Alongside (later_free leaves B S e rest)
  unfolding later_free later_at free free_at with_nodes
  free_alike = go (after.nodes pair) refl (after.still pair)
    where
      s : Plain.State
      s = alone e.question

      f : Follows e.question (N e.question) (numbers e.question) s S
      f = x.each e.question

      fr₀ : Front (Of e.question) (EntryAlike s.heap S.heap (N e.question) (numbers e.question)) s.waiting e rest
      fr₀ = front_mine e rest f.waiting front refl

      root : Arrows s.heap S.heap (N e.question) fr₀.entry.root e.root
      root = fr₀.related.roots

      n : ℕ
      n = follow s.heap fr₀.entry.root

      n' : ℕ
      n' = follow S.heap e.root

      pair : N e.question n n'
      pair = followed f.heaps root

      g : Heap
      g = leaves S.heap e.root

      short : Shortcut S.heap g
      short = harmless S.heap e.root root.node' root.leads' (still' f.heaps root.same)

      after : Alike (N e.question) (Numbered (numbers e.question)) s.heap g
      after = alike_shortcut f.heaps short

      -- a shortened heap: the shared run, and the entry in front
      shared_at : {k : Heap} → Shortcut S.heap k → Shared alone numbers N (with_nodes S k)
      shared_at sc = shared_shortcut sc x

      front_at : {k : Heap} → Shortcut S.heap k
          → Front (Of e.question) (EntryAlike s.heap k (N e.question) (numbers e.question)) s.waiting e rest
      front_at sc = front-map (λ a a' y. record { roots = arrows_shortcut f.heaps sc y.roots; decisions = y.decisions }) fr₀

      -- the entry's paths end
      ends : Finite s.heap fr₀.entry.root
      ends = by (rw fr₀.is at (good e.question).fits)
        where
          by : {a : PlainEntry} {us : List PlainEntry} → All (Fit s.heap s.choices) (a ∷ us) → Finite s.heap a.root
          by (more fit fits) = fit.ends

      ends_there : Finite s.heap n
      ends_there = leads-finite (follow-leads s.heap fr₀.entry.root) ends

      -- the walk
      walks : Goes (Ending s.heap (N e.question)) (Numbered (numbers e.question)) s.heap g (PlainWalk.walk B s.heap n) (walk leaves B n' g)
      walks = walk_alike (Ending s.heap (N e.question)) (Numbered (numbers e.question)) s.heap leaves harmless B
          (law.steers (good e.question).lawful) n n' g (alike_ending after) (pair, ends_there)

      go : {y y' : Node} → NodeAlike (Arrows s.heap g (N e.question)) (Numbered (numbers e.question)) y y' → at s.heap n ≡ y → NoForward y
          → Alongside (later_at leaves B (with_nodes S g) rest e n' y')
      go NodeAlike.fails is still = record {
        entry = fr₀.entry;
        behind = fr₀.rest;
        in_front = fr₀.is;
        short = short;
        left_is = refl;
        root-size = short.size;
        walk-size = walks.short.size ∙ short.size;
        left = shared_at short;
        came = rw is (goes (shared_at short) e rest front (front_at short));
      }
      go (NodeAlike.forwards a) is still = absurd still
      go (NodeAlike.chooses {i} {i'} {l} {l'} {r} {r'} c al ar) is still = record {
        entry = fr₀.entry;
        behind = fr₀.rest;
        in_front = fr₀.is;
        short = short;
        left_is = refl;
        root-size = short.size;
        walk-size = walks.short.size ∙ short.size;
        left = shared_at short;
        came = rw is (splits (shared_at short) e rest front (front_at short) i i' l l' r r' c al ar _ _
            (fr₀.related.decisions.same i c.0 ∙ ap (λ m. get_or e.decisions m Open) c.1));
      }
      go (NodeAlike.applies {f = h₀} {xs} b) is still = record {
        entry = fr₀.entry;
        behind = fr₀.rest;
        in_front = fr₀.is;
        short = all;
        left_is = refl;
        root-size = short.size;
        walk-size = walks.short.size ∙ short.size;
        left = shared_at all;
        came = rw is (done_alike (shared_at all) e rest front (front_at all) B P law (W e.question) (good e.question) n n' pair walks.found
            (walk-right B s.heap (law.steers (good e.question).lawful) n is ends_there));
      }
        where
          all : Shortcut S.heap (walk leaves B n' g).nodes
          all = ◌further◌ short walks.short
