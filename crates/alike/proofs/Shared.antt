-- A shared run beside the runs of its questions alone: what it holds of each question is alike the state of that question's own run.
use mathlib.Core.Path.{◌≡◌, refl, sym, ap, ◌∙◌}
use mathlib.Core.Logic.{◌≢◌, ◌⊎◌, inl, inr}
use mathlib.Core.List.{List, [], ◌∷◌, append-nil}
use Prim.Native.Nat.{ℕ, ◌≤◌}
use native.Mathlib.Omega.{arith}
use native.Mathlib.Decide.{ℕ_discrete}
use lib.ListN.{length}
use Rattle.limits.specs.Sizes.{most_choices}
use Rattle.limits.specs.Lent.{Entry as PlainEntry}
use Rattle.nodes.specs.Nodes.{Heap}
use Rattle.machine.specs.Turn as Plain
use Rattle.rewriting.specs.Lists.{All, none, more}
use Rattle.rewriting.proofs.Update.{update, update_same, update_other}
use Rattle.alike.specs.Asked.{Entry}
use Rattle.alike.specs.Turning as Later
use Rattle.alike.specs.Turning.{State, with_nodes}
use Rattle.alike.proofs.Alike.{Pairing, node-map, Arrows, Alike}
use Rattle.alike.specs.AsPlain.{Shortcut}
use Rattle.alike.proofs.Shortcuts.{arrows_shortcut, alike_shortcut}
use Rattle.alike.proofs.Entries.{Among, among_append, among-map, Numbered, Rising, Below}
use Rattle.alike.proofs.Entries.{EntryAlike, AnswerAlike, Of, To}

-- Question q's own run is at state s, the shared run at state S.
pub record Follows (q : ℕ) (N : Pairing) (cs : List ℕ) (s : Plain.State) (S : State) : Type 0 where
  pub heaps : Alike N (Numbered cs) s.heap S.heap
  pub waiting : Among (Of q) (EntryAlike s.heap S.heap N cs) s.waiting S.waiting
  pub answers : Among (To q) (AnswerAlike cs) s.answers S.answers
  pub numbered : length cs ≡ s.choices
  pub rising : Rising cs
  pub below : Below S.choices cs

-- So are those of all questions; no node of the shared run is of two of them.
pub record Shared (alone : ℕ → Plain.State) (numbers : ℕ → List ℕ) (N : ℕ → Pairing) (S : State) : Type 0 where
  pub each : (q : ℕ) → Follows q (N q) (numbers q) (alone q) S
  pub parted : (q r m k m' : ℕ) → N q m m' → N r k m' → q ≡ r
  pub few : S.choices ≤ most_choices

-- ---- the same pairs, said otherwise

arrows-same : {N N₁ : Pairing} {h h' : Heap} → ((m m' : ℕ) → N m m' → N₁ m m') → (x x' : ℕ) → Arrows h h' N x x' → Arrows h h' N₁ x x'
arrows-same to x x' a = record { node = a.node; node' = a.node'; leads = a.leads; leads' = a.leads'; same = to _ _ a.same }

pub alike_same : {N N₁ C : Pairing} {h h' : Heap} → ((m m' : ℕ) → N m m' → N₁ m m') → ((m m' : ℕ) → N₁ m m' → N m m') → Alike N C h h' → Alike N₁ C h h'
alike_same to back alike = record {
  inside = λ p. alike.inside (back _ _ p);
  inside' = λ p. alike.inside' (back _ _ p);
  once = λ p q. alike.once (back _ _ p) (back _ _ q);
  once' = λ p q. alike.once' (back _ _ p) (back _ _ q);
  still = λ p. alike.still (back _ _ p);
  nodes = λ p. node-map (arrows-same to) (λ i i' c. c) (alike.nodes (back _ _ p));
}

pub follows_same : {q : ℕ} {N N₁ : Pairing} {cs : List ℕ} {s : Plain.State} {S : State} → ((m m' : ℕ) → N m m' → N₁ m m') → ((m m' : ℕ) → N₁ m m' → N m m')
    → Follows q N cs s S → Follows q N₁ cs s S
follows_same to back f = record {
  heaps = alike_same to back f.heaps;
  waiting = among-map (λ e e' a. record { roots = arrows-same to e.root e'.root a.roots; decisions = a.decisions }) f.waiting;
  answers = f.answers;
  numbered = f.numbered;
  rising = f.rising;
  below = f.below;
}

-- ---- forwards shortened

pub follows_shortcut : {q : ℕ} {N : Pairing} {cs : List ℕ} {s : Plain.State} {S : State} {g : Heap} → Shortcut S.heap g → Follows q N cs s S
    → Follows q N cs s (with_nodes S g)
unfolding with_nodes
follows_shortcut short f = record {
  heaps = alike_shortcut f.heaps short;
  waiting = among-map (λ e e' a. record { roots = arrows_shortcut f.heaps short a.roots; decisions = a.decisions }) f.waiting;
  answers = f.answers;
  numbered = f.numbered;
  rising = f.rising;
  below = f.below;
}

-- SHORTENED, the shared run is as it was for all questions
pub shared_shortcut : {alone : ℕ → Plain.State} {numbers : ℕ → List ℕ} {N : ℕ → Pairing} {S : State} {g : Heap} → Shortcut S.heap g
    → Shared alone numbers N S → Shared alone numbers N (with_nodes S g)
unfolding with_nodes
shared_shortcut short x = record { each = λ q. follows_shortcut short (x.each q); parted = x.parted; few = x.few }

-- ---- the entry in front

-- if it is one of these, it is the first of them
pub record Front {A B : Type 0} (M : B → Type 0) (R : A → B → Type 0) (us : List A) (b : B) (vs : List B) : Type 0 where
  pub entry : A
  pub rest : List A
  pub is : us ≡ entry ∷ rest
  pub related : R entry b
  pub behind : Among M R rest vs

module _ {A B : Type 0} {M : B → Type 0} {R : A → B → Type 0} where
  -- what follows for them
  abbrev pub front-map : {S : A → B → Type 0} {us : List A} {b : B} {vs : List B} → ((a : A) (b : B) → R a b → S a b) → Front M R us b vs → Front M S us b vs
  front-map g f = record { entry = f.entry; rest = f.rest; is = f.is; related = g _ _ f.related; behind = among-map g f.behind }

  pub front_mine : {us : List A} {ws : List B} (b : B) (vs : List B) → Among M R us ws → ws ≡ b ∷ vs → M b → Front M R us b vs
  front_mine b vs Among.none e m = absurd (let z : ◌≡◌ {A = ℕ} 0 1 = cc (ap length e) in omega arith)
  front_mine b vs (Among.mine {a} {b = c} {us} {vs = ws} n r p) e m =
      let same : c ≡ b = cc in
      let rest : ws ≡ vs = cc in
      record { entry = a; rest = us; is = refl; related = rw same at r; behind = rw rest at p }
  front_mine b vs (Among.other {b = c} n p) e m = let same : c ≡ b = cc in absurd (n (rw same m))

  -- else they wait behind it
  pub front-other : {us : List A} {ws : List B} (b : B) (vs : List B) → Among M R us ws → ws ≡ b ∷ vs → ¬ M b → Among M R us vs
  front-other b vs Among.none e m = absurd (let z : ◌≡◌ {A = ℕ} 0 1 = cc (ap length e) in omega arith)
  front-other b vs (Among.mine {b = c} n r p) e m = let same : c ≡ b = cc in absurd (m (rw same at n))
  front-other b vs (Among.other {b = c} {vs = ws} n p) e m = let rest : ws ≡ vs = cc in rw rest at p

-- ---- after a deed

-- the pairs of question q are N₁ now, those of the others as they were
pub data Next (N : ℕ → Pairing) (q : ℕ) (N₁ : Pairing) (r m m' : ℕ) : Type 0 where
  mine : r ≡ q → N₁ m m' → Next N q N₁ r m m'
  other : r ≢ q → N r m m' → Next N q N₁ r m m'

module _ {alone : ℕ → Plain.State} {numbers : ℕ → List ℕ} {N : ℕ → Pairing} {S : State} (x : Shared alone numbers N S) where
  -- A TURN OF QUESTION q: its own run is at t now, the others' where they were
  pub shared-next : (q : ℕ) (t : Plain.State) (cs : List ℕ) (N₁ : Pairing) (S' : State) → Follows q N₁ cs t S'
      → ((r : ℕ) → r ≢ q → Follows r (N r) (numbers r) (alone r) S')
      → ((m m' : ℕ) → N₁ m m' → ((k : ℕ) × N q k m') ⊎ (length S.heap ≤ m')) → S'.choices ≤ most_choices
      → Shared (update alone q t) (update numbers q cs) (Next N q N₁) S'
  shared-next q t cs N₁ S' f others own few = record { each = λ r. each r (ℕ_discrete r q); parted = parted; few = few }
    where
      each : (r : ℕ) → Dec (r ≡ q) → Follows r (Next N q N₁ r) (update numbers q cs r) (update alone q t r) S'
      each r (yes e) =
          rw (update_same alone q t r e, update_same numbers q cs r e, e)
          (follows_same (λ m m' p. Next.mine refl p) (λ m m' p. only p) f)
        where
          only : {m m' : ℕ} → Next N q N₁ q m m' → N₁ m m'
          only (Next.mine e p) = p
          only (Next.other n p) = absurd (n refl)
      each r (no n) =
          rw (update_other alone q t r n, update_other numbers q cs r n)
          (follows_same (λ m m' p. Next.other n p) (λ m m' p. only p) (others r n))
        where
          only : {m m' : ℕ} → Next N q N₁ r m m' → N r m m'
          only (Next.mine e p) = absurd (n e)
          only (Next.other n p) = p

      apart : (r m k m' : ℕ) → r ≢ q → N₁ m m' → N r k m' → ⊥
      apart r m k m' n p p' = by (own m m' p)
        where
          by : ((k : ℕ) × N q k m') ⊎ (length S.heap ≤ m') → ⊥
          by (inl (j, p₀)) = n (x.parted r q k j m' p' p₀)
          by (inr le) = absurd (omega (arith, (x.each r).heaps.inside' p'))

      parted : (a b m k m' : ℕ) → Next N q N₁ a m m' → Next N q N₁ b k m' → a ≡ b
      parted a b m k m' (Next.mine e p) (Next.mine e' p') = e ∙ sym e'
      parted a b m k m' (Next.mine e p) (Next.other n p') = absurd (apart b m k m' n p p')
      parted a b m k m' (Next.other n p) (Next.mine e p') = absurd (apart a k m m' n p' p)
      parted a b m k m' (Next.other n p) (Next.other n' p') = x.parted a b m k m' p p'

  module _ (e : Entry) (rest : List Entry) (front : S.waiting ≡ e ∷ rest) (r : ℕ) (not-mine : r ≢ e.question) where
    abbrev f : Follows r (N r) (numbers r) (alone r) S
    f = x.each r

    pub others_wait : Among (Of r) (EntryAlike (alone r).heap S.heap (N r) (numbers r)) (alone r).waiting rest
    others_wait = front-other e rest f.waiting front (λ q. not-mine (sym q))

    -- none of question q's entries are theirs
    pub none_theirs : {R : PlainEntry → Entry → Type 0} {es : List Entry} → All (λ (y : Entry). y.question ≡ e.question) es → Among (Of r) R [] es
    none_theirs none = Among.none
    none_theirs (more q qs) = Among.other (λ p. not-mine (sym p ∙ q)) (none_theirs qs)

    -- OTHERS, while the nodes are as they were
    pub others-stay : (h : Heap) (k : ℕ) (joining : List Entry) → h ≡ S.heap → S.choices ≤ k → All (λ (y : Entry). y.question ≡ e.question) joining
        → Follows r (N r) (numbers r) (alone r) (Later.turned S h k rest joining)
    unfolding Later.turned
    others-stay h k joining same le theirs = record {
      heaps = rw same f.heaps;
      waiting = rw (same, ← append-nil (alone r).waiting) (among_append others_wait (none_theirs theirs));
      answers = f.answers;
      numbered = f.numbered;
      rising = f.rising;
      below = λ i lt. omega (arith, f.below i lt);
    }
