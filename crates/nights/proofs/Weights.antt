-- Weights: what still has to be done for a waiting entry, as a number that every turn pays for. No symbol of the book takes arguments, and every rule is a nest of
-- choices of such symbols, so an entry waits on a tree of choices.
use mathlib.Core.Path.{◌≡◌, refl, ap, ◌∙◌}
use mathlib.Core.Logic.{◌≢◌}
use mathlib.Core.List.{List, [], ◌∷◌, ◌++◌}
use Prim.Native.Nat.{ℕ, suc, ◌+◌, ◌*◌, ◌≤◌, ◌<◌}
use native.Mathlib.Omega.{arith}
use native.Mathlib.Decide.{ℕ_discrete}
use lib.ListN.{length, set, length-append, length-set}
use Rattle.limits.specs.Lent.{Entry}
use Rattle.expressions.specs.Expressions.{Expr, Exprs}
use Rattle.nodes.specs.Nodes.{apply, choice, fail, Heap, at}
use Rattle.machine.specs.Made.{make, place, rewritten, expr_nodes, expr_choices}
use Rattle.rewriting.proofs.Heaps.{there, apply≢fail, choice≢fail, grown_old, grown_new, grown_at}
use Rattle.rewriting.proofs.Holds.{Holds, holds_of, holds_append}
use Rattle.standing.proofs.Counted.{make-counts}

-- Q: the symbols that can come; φ: what each weighs; κ and γ: what a choice and a fail weigh
module _ (Q : ℕ → Type 0) (φ : ℕ → ℕ) (κ γ : ℕ) where
  -- a nest of such symbols, and its weight
  pub data Plain : Expr → ℕ → Type 0 where
    leaf : {f : ℕ} → Q f → Plain (Expr.apply f Exprs.no_exprs) (φ f)
    fails : Plain Expr.fail γ
    both : {a b : Expr} {v w : ℕ} → Plain a v → Plain b w → Plain (Expr.choice a b) (κ + v + w)

  -- node n stands for such a nest
  pub data Weighs (h : Heap) : ℕ → ℕ → Type 0 where
    leaf : {n f : ℕ} → at h n ≡ apply f [] → Q f → Weighs h n (φ f)
    fails : {n : ℕ} → at h n ≡ fail → n < length h → Weighs h n γ
    both : {n i l r v w : ℕ} → at h n ≡ choice i l r → Weighs h l v → Weighs h r w → Weighs h n (κ + v + w)

  -- ---- nodes that are made

  make-weighs : {h : Heap} {e : Expr} {w : ℕ} → Plain e w → (next k : ℕ) → Holds (at h) next (make e [] next k).nodes
      → next + length (make e [] next k).nodes ≤ length h → Weighs h (make e [] next k).arrow w
  unfolding make
  make-weighs (Plain.leaf q) next k (is, r) room = Weighs.leaf is q
  make-weighs Plain.fails next k (is, r) room = Weighs.fails is (omega arith)
  make-weighs {h} (Plain.both {a} {b} p q) next k (is, r) room =
      let m = make a [] (suc next) (suc k) in
      let m' = make b [] (suc next + length m.nodes) m.choices in
      let parts = holds_append (at h) (suc next) m.nodes m'.nodes r in
      let long = length-append m.nodes m'.nodes in
      Weighs.both is (make-weighs p (suc next) (suc k) parts.0 (omega arith)) (make-weighs q _ _ parts.1 (omega arith))

  place-weighs : {h : Heap} {e : Expr} {w : ℕ} → Plain e w → (next k n : ℕ) → Holds (at h) next (place e [] next k).nodes
      → next + length (place e [] next k).nodes ≤ length h → n < length h → at h n ≡ (place e [] next k).top → Weighs h n w
  unfolding place make
  place-weighs (Plain.leaf q) next k n r room low is = Weighs.leaf is q
  place-weighs Plain.fails next k n r room low is = Weighs.fails is low
  place-weighs {h} (Plain.both {a} {b} p q) next k n r room low is =
      let m = make a [] next (suc k) in
      let m' = make b [] (next + length m.nodes) m.choices in
      let parts = holds_append (at h) next m.nodes m'.nodes r in
      let long = length-append m.nodes m'.nodes in
      Weighs.both is (make-weighs p next (suc k) parts.0 (omega arith)) (make-weighs q _ _ parts.1 (omega arith))

  -- ---- a rewrite

  module _ (h : Heap) (m k : ℕ) {f : ℕ} (is : at h m ≡ apply f []) {e : Expr} {w : ℕ} (plain : Plain e w) where
    abbrev after : Heap
    after = rewritten h m (place e [] (length h) k)

    -- the node that was rewritten weighs what its rule does
    pub rewritten-weighs : Weighs after m w
    unfolding rewritten
    rewritten-weighs =
        let p = place e [] (length h) k in
        let low = there h m (apply≢fail is) in
        let long = length-append (set h m p.top) p.nodes in
        let same = length-set h m p.top in
        place-weighs plain (length h) k m (holds_of (at after) fail (length h) p.nodes (λ j lt. grown_new h m p.top p.nodes j))
        (omega arith) (omega arith) (grown_at h m p.top p.nodes low)

    -- the others stand as they did
    kept : (n : ℕ) → n ≢ m → n < length h → at after n ≡ at h n
    unfolding rewritten
    kept n differs low = grown_old h m (place e [] (length h) k).top (place e [] (length h) k).nodes n differs low

    longer : length h ≤ length after
    unfolding rewritten
    longer =
        let p = place e [] (length h) k in
        omega (arith, length-append (set h m p.top) p.nodes, length-set h m p.top)

    -- so every node weighs no more
    pub weighs-after : {n v : ℕ} → w ≤ φ f → Weighs h n v → (v' : ℕ) × (v' ≤ v) × Weighs after n v'
    weighs-after {n} less (Weighs.leaf {f = g} here q) = by (ℕ_discrete n m)
      where
        by : Dec (n ≡ m) → (v' : ℕ) × (v' ≤ φ g) × Weighs after n v'
        by (yes e') =
            let same : g ≡ f = cc (ap (at h) e') in
            (w, rw same less, rw e' rewritten-weighs)
        by (no differs) = (φ g, omega arith, Weighs.leaf (kept n differs (there h n (apply≢fail here)) ∙ here) q)
    weighs-after {n} less (Weighs.fails here low) =
        (γ, omega arith, Weighs.fails (kept n (λ e'. absurd (let z : ◌≡◌ {A = ℕ} 0 1 = cc (ap (at h) e') in omega arith)) low ∙ here) (omega (arith, longer)))
    weighs-after {n} less (Weighs.both here a b) =
        let (v, le, x) = weighs-after less a in
        let (u, le', y) = weighs-after less b in (
          κ + v + u,
          omega arith,
          Weighs.both (kept n (λ e'. absurd (let z : ◌≡◌ {A = ℕ} 0 1 = cc (ap (at h) e') in omega arith)) (there h n (choice≢fail here)) ∙ here) x y,
        )

  -- ---- what waits

  pub data Load (h : Heap) : List Entry → ℕ → Type 0 where
    none : Load h [] 0
    more : {e : Entry} {es : List Entry} {v t : ℕ} → Weighs h e.root v → Load h es t → Load h (e ∷ es) (v + t)

  pub load_append : {h : Heap} {es fs : List Entry} {t u : ℕ} → Load h es t → Load h fs u → (x : ℕ) × (x ≡ t + u) × Load h (es ++ fs) x
  load_append {u = u} none l = (u, omega arith, l)
  load_append (more {v = v} w k) l = let (x, is, rest) = load_append k l in (v + x, omega arith, more w rest)

  -- the front entry's, and that of the others
  pub load_front : {h : Heap} {x : Entry} {rest es : List Entry} {t : ℕ} → es ≡ x ∷ rest → Load h es t
      → (v : ℕ) × (u : ℕ) × (t ≡ v + u) × Weighs h x.root v × Load h rest u
  load_front is none = absurd (let z : ◌≡◌ {A = ℕ} 0 1 = cc in omega arith)
  load_front {x = x} {rest} is (more {e = y} {es = es} {v = v} {t = u} w l) =
      let same : y ≡ x = cc in
      let others : es ≡ rest = cc in
      (v, u, refl, rw same at w, rw others at l)

  pub load_after : {h : Heap} (m k : ℕ) {f : ℕ} (is : at h m ≡ apply f []) {e : Expr} {w : ℕ} (plain : Plain e w) → w ≤ φ f
      → {es : List Entry} {t : ℕ} → Load h es t → (u : ℕ) × (u ≤ t) × Load (rewritten h m (place e [] (length h) k)) es u
  load_after m k is plain less none = (0, omega arith, none)
  load_after {h} m k is plain less (more w l) =
      let (v, le, x) = weighs-after h m k is plain less w in
      let (u, le', rest) = load_after m k is plain less l in
      (v + u, omega arith, more x rest)

  -- ---- counts

  -- a nest has one node more than twice its choices
  pub plain_nodes : {e : Expr} {w : ℕ} → Plain e w → expr_nodes e ≡ 1 + 2 * expr_choices e
  unfolding expr_nodes expr_choices
  plain_nodes (Plain.leaf q) = refl
  plain_nodes Plain.fails = refl
  plain_nodes (Plain.both p q) = omega (arith, plain_nodes p, plain_nodes q)

  -- and takes its place with so many fresh nodes and choices
  pub place-counts : {e : Expr} {w : ℕ} → Plain e w → (next k : ℕ)
      → (length (place e [] next k).nodes ≡ 2 * expr_choices e) × ((place e [] next k).choices ≡ k + expr_choices e)
  unfolding place make expr_choices
  place-counts (Plain.leaf q) next k = (refl, omega arith)
  place-counts Plain.fails next k = (refl, omega arith)
  place-counts (Plain.both {a} {b} p q) next k =
      let m = make a [] next (suc k) in
      let l = make-counts a [] next (suc k) in
      let r = make-counts b [] (next + length m.nodes) m.choices in
      (omega (arith, length-append m.nodes (make b [] (next + length m.nodes) m.choices).nodes, l.0, r.0, plain_nodes p, plain_nodes q), omega (arith, l.1, r.1))
