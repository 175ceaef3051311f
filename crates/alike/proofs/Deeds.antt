-- What a turn does to heaps that are alike leaves them alike: a node made a fail, a rewrite, a pull-up.
use mathlib.Core.Path.{◌≡◌, refl, sym, ap, subst, ◌∙◌}
use mathlib.Core.Logic.{◌⊎◌, inl, inr}
use mathlib.Core.List.{List, [], ◌∷◌, append-nil}
use Prim.Native.Nat.{ℕ, suc, ◌+◌, ◌<◌, ◌≤◌}
use native.Mathlib.Omega.{arith}
use lib.ListN.{length, set, length-set}
use Rattle.expressions.specs.Expressions.{Expr}
use Rattle.nodes.specs.Nodes.{Node, apply, choice, fail, forward, Heap, at}
use Rattle.nodes.specs.Steps.{failed, with_arrow, pulled}
use Rattle.machine.specs.Made.{Placed, place, rewritten}
use Rattle.rewriting.specs.Scoped.{Scoped}
use Rattle.rewriting.specs.Rewriting.{Leads}
use Rattle.rewriting.proofs.Heaps.{grown, grown_length}
use Rattle.rewriting.specs.Lists.{All}
use Rattle.rewriting.specs.Heaps.{NoForward}
use Rattle.alike.proofs.Pairs.{Both, none, more, both-map, both-set, both-length}
use Rattle.alike.proofs.Alike.{Pairing, NodeAlike, node-map, Arrows, Alike}
use Rattle.alike.proofs.Grown.{Grows, old, new, top, Tops, arrows_grown, arrows-new, alike_grown}
use Rattle.alike.proofs.Made.{PlacedAlike, place_alike}

-- The heaps h and h', whose pairs were N, have become g and g' by a deed at the pair n, n', with the pairs N₁ and the choices C₁.
pub record Deed (N C N₁ C₁ : Pairing) (h h' g g' : Heap) : Type 0 where
  pub alike : Alike N₁ C₁ g g'
  pub arrows : (x x' : ℕ) → Arrows h h' N x x' → Arrows g g' N₁ x x'
  -- no node without a partner has got one
  pub own : (m m' : ℕ) → N₁ m m' → ((k : ℕ) × N k m') ⊎ (length h' ≤ m')
  -- the second heap has changed at n' alone, which had a partner
  pub place : ℕ
  pub place' : ℕ
  pub there : N place place'
  pub node : Node
  pub nodes : List Node
  pub is : g' ≡ grown h' place' node nodes
  -- both have so many nodes more
  pub many : ℕ
  pub size : length g ≡ length h + many
  pub size' : length g' ≡ length h' + many

-- what Grows pairs off
own_grown : {N : Pairing} {h h' : Heap} {n n' : ℕ} {x : Node} {many : ℕ} → N n n' → (m m' : ℕ) → Grows N h h' n n' x many m m'
    → ((k : ℕ) × N k m') ⊎ (length h' ≤ m')
own_grown {n} p m m' (old q ne) = inl (m, q)
own_grown {n} p m m' (new j lt e e') = inr (omega arith)
own_grown {n} p m m' (top u e e') = inl (n, rw e' p)

module _ {N C : Pairing} {h h' : Heap} (alike : Alike N C h h') {n n' : ℕ} (p : N n n') where
  -- A FAIL
  pub failed_alike : Deed N C (Grows N h h' n n' fail 0) C h h' (failed h n) (failed h' n')
  unfolding failed
  failed_alike =
      let tops : Tops N h h' n 0 fail fail = Tops.fresh tt in
      record {
        alike = rw (append-nil (set h n fail), append-nil (set h' n' fail)) at
            (alike_grown alike p [] [] tops C (λ i i' c. c) (λ u. NodeAlike.fails) none All.none);
        arrows = λ x x' a. rw (append-nil (set h n fail), append-nil (set h' n' fail)) at (arrows_grown alike p [] [] tops a);
        own = own_grown p;
        place = n;
        place' = n';
        there = p;
        node = fail;
        nodes = [];
        is = sym (append-nil (set h' n' fail));
        many = 0;
        size = omega (arith, length-set h n fail);
        size' = omega (arith, length-set h' n' fail);
      }

  -- the copies of a pull-up
  copies_alike : {A C₁ : Pairing} {y y' : Node} (j : ℕ) {l l' : ℕ} → NodeAlike A C₁ y y' → A l l' → NodeAlike A C₁ (with_arrow y j l) (with_arrow y' j l')
  unfolding with_arrow
  copies_alike j (NodeAlike.applies b) a = NodeAlike.applies (both-set j b a)
  copies_alike j (NodeAlike.chooses c l r) a = NodeAlike.chooses c l r
  copies_alike j NodeAlike.fails a = NodeAlike.fails
  copies_alike j (NodeAlike.forwards b) a = NodeAlike.forwards b

  copies_still : (y : Node) (j l : ℕ) → NoForward y → NoForward (with_arrow y j l)
  unfolding with_arrow
  copies_still (apply f xs) j l u = tt
  copies_still (choice i a b) j l u = tt
  copies_still fail j l u = tt
  copies_still (forward m) j l u = absurd u

  -- A PULL-UP
  pub pulled_alike : (j : ℕ) {i i' l l' r r' : ℕ} → C i i' → Arrows h h' N l l' → Arrows h h' N r r'
      → Deed N C (Grows N h h' n n' (choice i (length h) (suc (length h))) 2) C h h' (pulled h n j i l r) (pulled h' n' j i' l' r')
  unfolding pulled
  pulled_alike j {i} {i'} {l} {l'} {r} {r'} c al ar = record {
    alike = alike_grown alike p ys ys' tops C (λ a b x. x) (λ u. NodeAlike.chooses c first second)
        (more (copies_alike j was (on al)) (more (copies_alike j was (on ar)) none))
        (All.more (copies_still (at h n) j l (alike.still p)) (All.more (copies_still (at h n) j r (alike.still p)) All.none));
    arrows = λ x x' a. on a;
    own = own_grown p;
    place = n;
    place' = n';
    there = p;
    node = x';
    nodes = ys';
    is = refl;
    many = 2;
    size = grown_length h n x ys;
    size' = grown_length h' n' x' ys';
  }
    where
      x : Node
      x = choice i (length h) (suc (length h))

      x' : Node
      x' = choice i' (length h') (suc (length h'))

      ys : List Node
      ys = with_arrow (at h n) j l ∷ with_arrow (at h n) j r ∷ []

      ys' : List Node
      ys' = with_arrow (at h' n') j l' ∷ with_arrow (at h' n') j r' ∷ []

      tops : Tops N h h' n 2 x x'
      tops = Tops.fresh tt

      A₁ : Pairing
      A₁ = Arrows (grown h n x ys) (grown h' n' x' ys') (Grows N h h' n n' x 2)

      on : {y y' : ℕ} → Arrows h h' N y y' → Arrows (grown h n x ys) (grown h' n' x' ys') (Grows N h h' n n' x 2) y y'
      on a = arrows_grown alike p ys ys' tops a

      first : A₁ (length h) (length h')
      first = subst (λ k. A₁ k (length h')) (omega arith) (subst (λ k. A₁ (length h + 0) k) (omega arith) (arrows-new alike p ys ys' tops 0 (omega arith)))

      second : A₁ (suc (length h)) (suc (length h'))
      second =
          subst (λ k. A₁ k (suc (length h'))) (omega arith) (subst (λ k. A₁ (length h + 1) k) (omega arith) (arrows-new alike p ys ys' tops 1 (omega arith)))

      was : NodeAlike A₁ C (at h n) (at h' n')
      was = node-map (λ y y' a. on a) (λ i i' c. c) (alike.nodes p)

  -- A REWRITE by the expression x, whose variables have paired arrows. `many` choices are made; C₁ pairs them off, too. A rule that is one variable
  -- makes no circle.
  module _ (C₁ : Pairing) (wider : (i i' : ℕ) → C i i' → C₁ i i') (k k' many : ℕ) (numbers : (j : ℕ) → j < many → C₁ (k + j) (k' + j))
      {env env' : List ℕ} (vars : Both (Arrows h h' N) env env') (x : Expr) (scoped : Scoped (length env) x)
      (few : (place x env (length h) k).choices ≤ k + many) (no_loop : (y : ℕ) → (place x env (length h) k).top ≡ forward y → ¬ Leads h y n) where
    abbrev m₁ : Placed
    m₁ = place x env (length h) k

    abbrev m₁' : Placed
    m₁' = place x env' (length h') k'

    abbrev N₁ : Pairing
    N₁ = Grows N h h' n n' m₁.top (length m₁.nodes)

    abbrev g : Heap
    g = grown h n m₁.top m₁.nodes

    abbrev g' : Heap
    g' = grown h' n' m₁'.top m₁'.nodes

    -- the arrows before the deed: they lead to a pair, or to nodes that are to be added, one beside the other
    abbrev Early : Pairing
    Early y y' = Arrows h h' N y y' ⊎ ((j : ℕ) × (j < length m₁.nodes) × (y ≡ length h + j) × (y' ≡ length h' + j))

    tops_of : {y y' : Node} → NodeAlike Early C₁ y y' → m₁.top ≡ y → Tops N h h' n (length m₁.nodes) y y'
    tops_of (NodeAlike.applies b) is = Tops.fresh tt
    tops_of (NodeAlike.chooses c l r) is = Tops.fresh tt
    tops_of NodeAlike.fails is = Tops.fresh tt
    tops_of (NodeAlike.forwards {m} (inl a)) is = Tops.leads a (no_loop m is)
    tops_of (NodeAlike.forwards (inr (j, lt, e, e'))) is = Tops.added j lt e e'

    -- what takes the places
    place_tops : Tops N h h' n (length m₁.nodes) m₁.top m₁'.top
    place_tops =
        tops_of (place_alike Early C₁ (length h) (length h') (length m₁.nodes) (λ j lt. inr (j, lt, refl, refl)) k k' many numbers
        (both-map (λ y y' a. inl a) vars) x scoped (length h) (length h') k k' 0 0 (omega arith) (omega arith) (omega arith) (omega arith) (omega arith) few).top refl

    -- arrows lead on to pairs
    on : (y y' : ℕ) → Arrows h h' N y y' → Arrows g g' N₁ y y'
    on y y' a = arrows_grown alike p m₁.nodes m₁'.nodes place_tops a

    placed : PlacedAlike (Arrows g g' N₁) C₁ (length h) (length h') (length m₁.nodes)
        (λ j lt. arrows-new alike p m₁.nodes m₁'.nodes place_tops j lt) k k' many numbers m₁ m₁'
    placed =
        place_alike (Arrows g g' N₁) C₁ (length h) (length h') (length m₁.nodes) (λ j lt. arrows-new alike p m₁.nodes m₁'.nodes place_tops j lt)
        k k' many numbers (both-map on vars) x scoped (length h) (length h') k k' 0 0 (omega arith) (omega arith) (omega arith) (omega arith) (omega arith) few

    pub rewritten_alike : Deed N C N₁ C₁ h h' (rewritten h n m₁) (rewritten h' n' m₁')
    unfolding rewritten
    rewritten_alike = record {
      alike = alike_grown alike p m₁.nodes m₁'.nodes place_tops C₁ wider (λ u. placed.top) placed.nodes placed.still;
      arrows = on;
      own = own_grown p;
      place = n;
      place' = n';
      there = p;
      node = m₁'.top;
      nodes = m₁'.nodes;
      is = refl;
      many = length m₁.nodes;
      size = grown_length h n m₁.top m₁.nodes;
      size' = grown_length h' n' m₁'.top m₁'.nodes ∙ ap (λ m. length h' + m) (sym (both-length placed.nodes));
    }

    -- as many choices have been made on both sides
    pub rewritten-choices : (made : ℕ) × (m₁.choices ≡ k + made) × (m₁'.choices ≡ k' + made)
    rewritten-choices = (placed.made, placed.choices, placed.choices')
