-- A ROW OF QUESTIONS, loaded: what is there of each is alike that question loaded alone.
use mathlib.Core.Path.{◌≡◌, refl, sym, ap, ◌∙◌}
use mathlib.Core.Logic.{◌≢◌, inl, inr}
use mathlib.Core.List.{List, [], ◌∷◌, ◌++◌, append-nil}
use Prim.Native.Nat.{ℕ, zero, suc, ◌+◌, ◌<◌, ◌≤◌}
use native.Mathlib.Nat.{le_refl, not-suc-le-zero}
use native.Mathlib.Omega.{arith}
use native.Mathlib.Decide.{ℕ_discrete}
use lib.ListN.{length, get_or, length-append, length-replicate, get_or-append}
use lib.Seq.{get_or-append-add}
use Rattle.limits.specs.Sizes.{most_choices}
use Rattle.limits.specs.declared.Side.TheVariants.{Open}
use Rattle.limits.specs.Decisions.{all_open}
use Rattle.expressions.specs.Expressions.{Expr}
use Rattle.book.specs.Rules.{Book}
use Rattle.nodes.specs.Nodes.{Node, fail, Heap}
use Rattle.machine.specs.Made.{make}
use Rattle.machine.specs.Turn as Plain
use Rattle.rewriting.specs.Scoped.{Scoped}
use Rattle.rewriting.specs.Rewriting.{Leads, Value}
use Rattle.rewriting.proofs.Heaps.{there, forward≢fail}
use Rattle.rewriting.proofs.Kept.{make-choices}
use Rattle.rewriting.specs.Lists.{All, none, more}
use Rattle.rewriting.proofs.Lists.{all-at, all_append}
use Rattle.rewriting.proofs.Update.{update, update_same, update_other}
use Rattle.meaning.specs.Demand3.{question}
use Rattle.meaning.specs.Readings.{CanBe}
use Rattle.meaning.proofs.Turns.{Good, Holds, sides}
use Rattle.meaning.proofs.Members.{Pairwise}
use Rattle.meaning.proofs.Entries.{can_be_fail}
use Rattle.meaning.proofs.AllTurns.{open_at, loaded-good}
use Rattle.limits.specs.Lent.{Entry as PlainEntry}
use Rattle.alike.specs.Asked.{Entry}
use Rattle.alike.specs.Turning as Later
use Rattle.alike.specs.Turning.{State}
use Rattle.alike.proofs.Pairs.{Both, both_at, both-length}
use Rattle.alike.proofs.Alike.{Pairing, node-map, Arrows, Alike}
use Rattle.alike.proofs.Made.{MadeAlike, make_alike}
use Rattle.alike.proofs.Entries.{Among, among_append, among-map, Numbered, numbered_on, numbered_on_length, numbered-new}
use Rattle.alike.proofs.Entries.{numbered_on_below, numbered_on_rising, DecisionsAlike, EntryAlike, Of}
use Rattle.alike.proofs.Shared.{Follows, Shared, Next, shared-next}

-- ---- nodes added behind those of a heap

leads-behind : {H : Heap} (ys : List Node) {y z : ℕ} → Leads H y z → Leads (H ++ ys) y z
leads-behind ys Leads.here = Leads.here
leads-behind {H} ys (Leads.along {n = y} e l) = Leads.along (get_or-append H ys fail y (there H y (forward≢fail e)) ∙ e) (leads-behind ys l)

arrows-behind : {N : Pairing} {h H : Heap} (ys : List Node) (x x' : ℕ) → Arrows h H N x x' → Arrows h (H ++ ys) N x x'
arrows-behind ys x x' a =
    record { node = a.node; node' = a.node'; leads = a.leads; leads' = leads-behind ys a.leads'; same = a.same }

alike_behind : {N C : Pairing} {h H : Heap} (ys : List Node) → Alike N C h H → Alike N C h (H ++ ys)
alike_behind {H} ys alike = record {
  inside = alike.inside;
  inside' = λ p. rw (length-append H ys) (omega (arith, alike.inside' p));
  once = alike.once;
  once' = alike.once';
  still = alike.still;
  nodes = λ {m} {m'} p. rw (get_or-append H ys fail m' (alike.inside' p)) (node-map (arrows-behind ys) (λ i i' c. c) (alike.nodes p));
}

-- ---- one question more

-- all are open
all_open_lem : (cs : List ℕ) → DecisionsAlike cs all_open all_open
unfolding all_open
all_open_lem cs = record {
  sized = length-replicate most_choices Open;
  sized' = length-replicate most_choices Open;
  same = λ i lt. open_at most_choices i ∙ sym (open_at most_choices (get_or cs i 0));
  open_past = λ i le. open_at most_choices i;
  open_others = λ i' n. open_at most_choices i';
}

module _ (q : ℕ) (x : Expr) (closed : Scoped 0 x) (H : Heap) (k : ℕ) where
  abbrev h : Heap
  h = (make x [] 0 0).nodes

  abbrev ys : List Node
  ys = (make x [] (length H) k).nodes

  abbrev many : ℕ
  many = (make x [] 0 0).choices

  -- its nodes in order
  abbrev N₁ : Pairing
  N₁ m m' = (m < length h) × (m' ≡ length H + m)

  abbrev cs : List ℕ
  cs = numbered_on k many []

  abbrev A₁ : Pairing
  A₁ = Arrows h (H ++ ys) N₁

  fresh : (j : ℕ) → j < length h → A₁ (0 + j) (length H + j)
  fresh j lt = record { node = 0 + j; node' = length H + j; leads = Leads.here; leads' = Leads.here; same = (omega arith, omega arith) }

  made : MadeAlike A₁ (Numbered cs) 0 (length H) (length h) fresh 0 k many (λ j lt. numbered-new k many [] j lt)
      (make x [] 0 0) (make x [] (length H) k)
  made = make_alike A₁ (Numbered cs) 0 (length H) (length h) fresh 0 k many (λ j lt. numbered-new k many [] j lt) Both.none x closed
      0 (length H) 0 k 0 0 (omega arith) (omega arith) (omega arith) (omega arith) (omega arith) (omega arith)

  alike_new : Alike N₁ (Numbered cs) h (H ++ ys)
  alike_new = record {
    inside = λ p. p.0;
    inside' = λ p. rw (length-append H ys) (omega (arith, p.0, p.1, both-length made.nodes));
    once = λ p p'. omega (arith, p.1, p'.1);
    once' = λ p p'. omega (arith, p.1, p'.1);
    still = λ {m} {m'} p. all-at fail m made.still p.0;
    nodes = λ {m} {m'} p. rw (p.1, get_or-append-add H ys m fail) (both_at fail fail m made.nodes p.0);
  }

  -- the state after it
  pub follows_new : (waiting : List Entry) → Among (Of q) (EntryAlike h (H ++ ys) N₁ cs) [] waiting
      → Follows q N₁ cs (Plain.loaded x) (record {
        heap = H ++ ys;
        choices = (make x [] (length H) k).choices;
        waiting = waiting ++ (Later.entry q (make x [] (length H) k).arrow all_open ∷ []);
        answers = [];
        turns = 0;
        most = length (H ++ ys);
      })
  unfolding Plain.loaded
  follows_new waiting none_yet = record {
    heaps = alike_new;
    waiting = among_append none_yet (Among.mine refl
        (record { roots = made.arrow; decisions = all_open_lem cs }) Among.none);
    answers = Among.none;
    numbered = numbered_on_length k many [] ∙ omega arith;
    rising = numbered_on_rising k many [] (λ i lt. absurd (not-suc-le-zero lt)) (λ i j lt lt'. absurd (not-suc-le-zero lt'));
    below = λ i lt. omega (arith, numbered_on_below k many [] (λ i lt. absurd (not-suc-le-zero lt)) i lt, made.choices, made.choices');
  }

  -- as many choices as alone
  pub made-choices : (make x [] (length H) k).choices ≡ k + many
  made-choices = omega (arith, made.choices, made.choices')

-- ---- all questions

-- the own run of a question that is not there
abbrev pub idle : Plain.State
idle = record { heap = []; choices = 0; waiting = []; answers = []; turns = 0 }

-- the own runs' starts: from number q on, those of these questions
pub starts_on : ℕ → List Expr → (ℕ → Plain.State) → ℕ → Plain.State
starts_on q [] starts = starts
starts_on q (x ∷ xs) starts = starts_on (suc q) xs (update starts q (Plain.loaded x))

-- choices are only added
loaded_on-choices : (q : ℕ) (xs : List Expr) (H : Heap) (k : ℕ) (waiting : List Entry) → k ≤ (Later.loaded_on q xs H k waiting).choices
unfolding Later.loaded_on
loaded_on-choices q [] H k waiting = le_refl k
loaded_on-choices q (x ∷ xs) H k waiting =
    omega (
      arith,
      (make-choices [] x (length H) k).0,
      loaded_on-choices (suc q) xs (H ++ (make x [] (length H) k).nodes) (make x [] (length H) k).choices
          (waiting ++ (Later.entry q (make x [] (length H) k).arrow all_open ∷ [])),
    )

-- no entry of question q waits
abbrev NoneOf : ℕ → List Entry → Type 0
NoneOf q es = All (λ (e : Entry). e.question ≢ q) es

none-among : {A : Type 0} {R : A → Entry → Type 0} {q : ℕ} {es : List Entry} → NoneOf q es → Among (Of q) R [] es
none-among none = Among.none
none-among (more n ns) = Among.other n (none-among ns)

-- the node that the front entry waits on
abbrev root_in : List PlainEntry → ℕ
root_in es = elim es [ [] ↦ 0 | e ∷ rest ↦ e.root ]

module _ (B : Book) (P : Heap → Type 0) (empty : P []) where
  -- the values that a loaded question can have
  abbrev pub Had : Plain.State → Value → Type 0
  Had s v = CanBe B s.heap (sides all_open) (root_in s.waiting) v

  -- a question that can be loaded
  pub record Fine (x : Expr) : Type 0 where
    pub closed : Scoped 0 x
    pub lawful : P (question x).heap

  idle-good : Good B P (Had idle) idle
  idle-good = record {
    range = λ m. tt;
    numbered = λ m. tt;
    few = omega arith;
    lawful = empty;
    fits = none;
    values = [];
    decided = none;
    writes = refl;
    holds = λ v. (only v, λ c. absurd (can_be_fail {n = 0} refl c));
    apart = Pairwise.none;
  }
    where
      only : (v : Value) → Holds B [] [] [] v → Had idle v
      only v (inl x) = elim x [ ]
      only v (inr x) = elim x [ ]

  -- a loaded question
  good_of : (x : Expr) → Scoped 0 x → (question x).choices ≤ most_choices → P (question x).heap → Good B P (Had (Plain.loaded x)) (Plain.loaded x)
  unfolding Plain.loaded
  good_of x closed few lawful = loaded-good B P x closed few lawful

  -- the own runs' starts are alike the state, each as it should be
  pub record Started (starts : ℕ → Plain.State) (S : State) : Type 1 where
    pub numbers : ℕ → List ℕ
    pub pairs : ℕ → Pairing
    pub shared : Shared starts numbers pairs S
    pub good : (q : ℕ) → Good B P (Had (starts q)) (starts q)

  -- a state in loading
  abbrev loaded_so_far : Heap → ℕ → List Entry → State
  loaded_so_far H k waiting = record { heap = H; choices = k; waiting = waiting; answers = []; turns = 0; most = length H }

  -- one question more
  one_more : (q : ℕ) (x : Expr) (H : Heap) (k : ℕ) (waiting : List Entry) (starts : ℕ → Plain.State) → Fine x → NoneOf q waiting
      → (make x [] (length H) k).choices ≤ most_choices → Started starts (loaded_so_far H k waiting)
      → Started (update starts q (Plain.loaded x)) (loaded_so_far (H ++ (make x [] (length H) k).nodes) (make x [] (length H) k).choices
      (waiting ++ (Later.entry q (make x [] (length H) k).arrow all_open ∷ [])))
  one_more q x H k waiting starts fine free few st = record {
    numbers = update st.numbers q cs₁;
    pairs = Next st.pairs q N₂;
    shared = shared-next st.shared q (Plain.loaded x) cs₁ N₂ S₁ (follows_new q x fine.closed H k waiting (none-among free)) others
        (λ m m' p. inr (omega (arith, p.1))) few;
    good = λ r. good r (ℕ_discrete r q);
  }
    where
      cs₁ : List ℕ
      cs₁ = numbered_on k (make x [] 0 0).choices []

      N₂ : Pairing
      N₂ m m' = (m < length (make x [] 0 0).nodes) × (m' ≡ length H + m)

      S₁ : State
      S₁ = loaded_so_far (H ++ (make x [] (length H) k).nodes) (make x [] (length H) k).choices
          (waiting ++ (Later.entry q (make x [] (length H) k).arrow all_open ∷ []))

      others : (r : ℕ) → r ≢ q → Follows r (st.pairs r) (st.numbers r) (starts r) S₁
      others r n =
          let f = st.shared.each r in
          record {
            heaps = alike_behind (make x [] (length H) k).nodes f.heaps;
            waiting = rw (← append-nil (starts r).waiting) (among_append
                (among-map (λ e e' a. record {
                  roots = arrows-behind (make x [] (length H) k).nodes e.root e'.root a.roots;
                  decisions = a.decisions;
                }) f.waiting) (Among.other (λ e. n (sym e)) Among.none));
            answers = f.answers;
            numbered = f.numbered;
            rising = f.rising;
            below = λ i lt. omega (arith, f.below i lt, (make-choices [] x (length H) k).0);
          }

      good : (r : ℕ) → Dec (r ≡ q) → Good B P (Had (update starts q (Plain.loaded x) r)) (update starts q (Plain.loaded x) r)
      good r (yes e) = rw (update_same starts q (Plain.loaded x) r e) loaded
        where
          loaded : Good B P (Had (Plain.loaded x)) (Plain.loaded x)
          loaded = good_of x fine.closed (omega (arith, made-choices q x fine.closed H k)) fine.lawful
      good r (no n) = rw (update_other starts q (Plain.loaded x) r n) (st.good r)

  -- all the questions from number q on
  loaded_on-started : (q : ℕ) (xs : List Expr) (H : Heap) (k : ℕ) (waiting : List Entry) (starts : ℕ → Plain.State) → All Fine xs
      → ((r : ℕ) → q ≤ r → NoneOf r waiting) → (Later.loaded_on q xs H k waiting).choices ≤ most_choices → Started starts (loaded_so_far H k waiting)
      → Started (starts_on q xs starts) (Later.loaded_on q xs H k waiting)
  unfolding Later.loaded_on starts_on
  loaded_on-started q [] H k waiting starts fine free few st = st
  loaded_on-started q (x ∷ xs) H k waiting starts (more f fine) free few st =
      let m = make x [] (length H) k in
      loaded_on-started (suc q) xs (H ++ m.nodes) m.choices (waiting ++ (Later.entry q m.arrow all_open ∷ [])) (update starts q (Plain.loaded x)) fine
      (λ r le. all_append (free r (omega arith)) (more (λ e. omega arith) none)) few
      (one_more q x H k waiting starts f (free q (le_refl q))
      (omega (arith, few, loaded_on-choices (suc q) xs (H ++ m.nodes) m.choices (waiting ++ (Later.entry q m.arrow all_open ∷ [])))) st)

  -- nothing loaded
  none-started : Started (λ q. idle) (loaded_so_far [] 0 [])
  none-started = record {
    numbers = λ q. [];
    pairs = λ q m m'. ⊥;
    shared = record {
      each = λ q. record {
        heaps = record {
          inside = λ p. absurd p;
          inside' = λ p. absurd p;
          once = λ p p'. absurd p;
          once' = λ p p'. absurd p;
          still = λ p. absurd p;
          nodes = λ p. absurd p;
        };
        waiting = Among.none;
        answers = Among.none;
        numbered = refl;
        rising = λ i j lt lt'. absurd (not-suc-le-zero lt');
        below = λ i lt. absurd (not-suc-le-zero lt);
      };
      parted = λ q r m k m' p p'. absurd p;
      few = omega arith;
    };
    good = λ q. idle-good;
  }

  -- LOADED
  pub loaded-started : (xs : List Expr) → All Fine xs → (Later.loaded xs).choices ≤ most_choices → Started (starts_on 0 xs (λ q. idle)) (Later.loaded xs)
  unfolding Later.loaded
  loaded-started xs fine few = loaded_on-started 0 xs [] 0 [] (λ q. idle) fine (λ r le. none) few none-started

-- the start of a question's own run is that question, loaded alone
starts_on_before : (q : ℕ) (xs : List Expr) (starts : ℕ → Plain.State) (r : ℕ) → r < q → starts_on q xs starts r ≡ starts r
unfolding starts_on
starts_on_before q [] starts r lt = refl
starts_on_before q (x ∷ xs) starts r lt =
    starts_on_before (suc q) xs (update starts q (Plain.loaded x)) r (omega arith) ∙ update_other starts q (Plain.loaded x) r (λ e. omega arith)

pub starts_on_at : (q : ℕ) (xs : List Expr) (starts : ℕ → Plain.State) (i : ℕ) (d : Expr) → i < length xs
    → starts_on q xs starts (q + i) ≡ Plain.loaded (get_or xs i d)
unfolding starts_on
starts_on_at q [] starts i d lt = absurd (not-suc-le-zero lt)
starts_on_at q (x ∷ xs) starts zero d lt =
    starts_on_before (suc q) xs (update starts q (Plain.loaded x)) (q + 0) (omega arith) ∙ update_same starts q (Plain.loaded x) (q + 0) (omega arith)
starts_on_at q (x ∷ xs) starts (suc i) d lt =
    ap (starts_on (suc q) xs (update starts q (Plain.loaded x))) (omega arith) ∙ starts_on_at (suc q) xs (update starts q (Plain.loaded x)) i d (omega arith)
