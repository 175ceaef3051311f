-- What an expression makes can be read as what the expression gives: partial values for its nodes, and sides for its choices, of no
-- larger size.
use mathlib.Core.Bool.{true, false}
use mathlib.Core.Path.{◌≡◌, refl, sym, ap, subst}
use mathlib.Core.List.{List, [], ◌∷◌, ◌++◌, map, map-append}
use Prim.Native.Nat.{ℕ, suc, ◌+◌, ◌-◌, ◌≤◌}
use native.Mathlib.Omega.{arith}
use native.Mathlib.Nat.{le_refl}
use lib.ListN.{length, replicate, length-replicate, length-append}
use Rattle.expressions.specs.Expressions.{Expr, Exprs}
use Rattle.book.specs.Rules.{Book}
use Rattle.nodes.specs.Nodes.{Node}
use Rattle.machine.specs.Made.{Made, make, make_row, place}
use Rattle.rewriting.proofs.Lists.{sum, sum_append, sum_zeros}
use Rattle.rewriting.proofs.Holds.{Holds, holds_append}
use Rattle.rewriting.proofs.Kept.{make-choices, place-choices}
use Rattle.meaning.specs.Partial.{Part, Parts, bot, con, to_list, ◌⊑◌, bot⊑, con⊑, Hits, Gives, GivesRow}
use Rattle.meaning.specs.Readings.{Side, side_of, AgreesIn}
use Rattle.meaning.proofs.Order.{⊑_refl, ⊑_of_eq, ◌⊑ˡ◌, []⊑, ◌∷⊑◌, variable, append_mono, hits_mono, gives_mono}
use Rattle.meaning.proofs.Measure.{Read, read_append, row_below}

module _ (B : Book) (env : List ℕ) (ρ : List Part) where
  -- The fresh nodes from `next` on, which use the choices from k up to c, can be read in size s, and then G holds.
  pub record Stretch (next k : ℕ) (nodes : List Node) (c : ℕ) (G : (ℕ → Side) → (ℕ → Part) → Type 0) (s : ℕ) : Type 0 where
    pub parts : List Part
    pub sizes : List ℕ
    pub sides : List Side
    pub count : length parts ≡ length nodes
    pub numbers : k + length sides ≡ c
    pub total : sum sizes ≤ s
    pub holds : (δ : ℕ → Side) (π : ℕ → Part) → Holds π next parts → Holds δ k sides → ρ ⊑ˡ map π env → G δ π × Read B δ π nodes parts sizes

module _ {B : Book} where
  -- nothing may stand at any node
  idle-read : {δ : ℕ → Side} {π : ℕ → Part} (nodes : List Node) → Read B δ π nodes (replicate (length nodes) bot) (replicate (length nodes) 0)
  idle-read [] = Read.none
  idle-read (x ∷ nodes) = Read.more AgreesIn.idle (idle-read nodes)

module _ {B : Book} {env : List ℕ} {ρ : List Part} where
  -- no node at all
  none_made : {next k s : ℕ} {G : (ℕ → Side) → (ℕ → Part) → Type 0} → ((δ : ℕ → Side) (π : ℕ → Part) → ρ ⊑ˡ map π env → G δ π)
      → Stretch B env ρ next k [] k G s
  unfolding sum
  none_made v = record { parts = []; sizes = []; sides = []; count = refl; numbers = omega arith; total = omega arith; holds = λ δ π a b l. (v δ π l, Read.none) }

  -- nodes of which nothing is asked
  blank : {next k s c : ℕ} (nodes : List Node) {G : (ℕ → Side) → (ℕ → Part) → Type 0} → k ≤ c → ((δ : ℕ → Side) (π : ℕ → Part) → G δ π)
      → Stretch B env ρ next k nodes c G s
  blank {next} {k} {s} {c} nodes l v = record {
    parts = replicate (length nodes) bot;
    sizes = replicate (length nodes) 0;
    sides = replicate (c - k) Side.left;
    count = length-replicate _ _;
    numbers = rw length-replicate (omega arith);
    total = rw sum_zeros (omega arith);
    holds = λ δ π a b l. (v δ π, idle-read nodes);
  }

  -- one stretch after another
  join : {next k s c s' c' t : ℕ} {nodes nodes' : List Node} {G G' : (ℕ → Side) → (ℕ → Part) → Type 0} → Stretch B env ρ next k nodes c G s
      → Stretch B env ρ (next + length nodes) c nodes' c' G' s' → s + s' ≤ t
      → Stretch B env ρ next k (nodes ++ nodes') c' (λ δ π. G δ π × G' δ π) t
  join {next} {k} {nodes} {nodes'} x y l = record {
    parts = x.parts ++ y.parts;
    sizes = x.sizes ++ y.sizes;
    sides = x.sides ++ y.sides;
    count = simp (length-append, x.count, y.count);
    numbers = rw length-append (omega (arith, x.numbers, y.numbers));
    total = rw sum_append (omega (arith, x.total, y.total));
    holds = λ δ π a b r.
        let a' = holds_append π next x.parts y.parts a in
        let b' = holds_append δ k x.sides y.sides b in
        let u = x.holds δ π a'.0 b'.0 r in
        let w = y.holds δ π (subst (λ m. Holds π m y.parts) (ap (◌+◌ next) x.count) a'.1) (subst (λ m. Holds δ m y.sides) x.numbers b'.1) r in
        ((u.0, w.0), read_append B δ π u.1 w.1);
  }

  -- a node in front
  push : {next k s c t u : ℕ} {nodes : List Node} {G : (ℕ → Side) → (ℕ → Part) → Type 0} {x : Node} {p : Part}
      → Stretch B env ρ (suc next) k nodes c G s
      → ((δ : ℕ → Side) (π : ℕ → Part) → G δ π → AgreesIn B δ π t x p) → t + s ≤ u → Stretch B env ρ next k (x ∷ nodes) c (λ δ π. p ⊑ π next) u
  unfolding sum
  push {t} {p} x f l = record {
    parts = p ∷ x.parts;
    sizes = t ∷ x.sizes;
    sides = x.sides;
    count = ap suc x.count;
    numbers = x.numbers;
    total = omega (arith, x.total);
    holds = λ δ π a b r.
        let u = x.holds δ π a.1 b r in
        (⊑_of_eq (sym a.0), Read.more (f δ π u.0) u.1);
  }

  -- a choice in front
  decide : {next k s c : ℕ} {nodes : List Node} {G : (ℕ → Side) → (ℕ → Part) → Type 0} (d : Side) → Stretch B env ρ next (suc k) nodes c G s
      → Stretch B env ρ next k nodes c (λ δ π. G δ π × (δ k ≡ d)) s
  decide d x = record {
    parts = x.parts;
    sizes = x.sizes;
    sides = d ∷ x.sides;
    count = x.count;
    numbers = omega (arith, x.numbers);
    total = x.total;
    holds = λ δ π a b r.
        let u = x.holds δ π a b.1 r in
        ((u.0, b.0), u.1);
  }

  -- another thing holds
  restate : {next k s c : ℕ} {nodes : List Node} {G G' : (ℕ → Side) → (ℕ → Part) → Type 0} → ((δ : ℕ → Side) (π : ℕ → Part) → G δ π → G' δ π)
      → Stretch B env ρ next k nodes c G s → Stretch B env ρ next k nodes c G' s
  restate f x = record {
    parts = x.parts;
    sizes = x.sizes;
    sides = x.sides;
    count = x.count;
    numbers = x.numbers;
    total = x.total;
    holds = λ δ π a b r. let u = x.holds δ π a b r in (f δ π u.0, u.1);
  }

-- a shared part, whose arrow x has q, and then a body with that known of one more variable
share : {B : Book} {env : List ℕ} {ρ : List Part} {next k s c s' c' t x : ℕ} {q : Part} {nodes nodes' : List Node} {G' : (ℕ → Side) → (ℕ → Part) → Type 0}
    → Stretch B env ρ next k nodes c (λ δ π. q ⊑ π x) s → Stretch B (env ++ (x ∷ [])) (ρ ++ (q ∷ [])) (next + length nodes) c nodes' c' G' s' → s + s' ≤ t
    → Stretch B env ρ next k (nodes ++ nodes') c' G' t
share {B} {env} {next} {k} {x} {nodes} {nodes'} first body l = record {
  parts = first.parts ++ body.parts;
  sizes = first.sizes ++ body.sizes;
  sides = first.sides ++ body.sides;
  count = simp (length-append, first.count, body.count);
  numbers = rw length-append (omega (arith, first.numbers, body.numbers));
  total = rw sum_append (omega (arith, first.total, body.total));
  holds = λ δ π a b r.
      let a' = holds_append π next first.parts body.parts a in
      let b' = holds_append δ k first.sides body.sides b in
      let u = first.holds δ π a'.0 b'.0 r in
      let w = body.holds δ π (subst (λ m. Holds π m body.parts) (ap (◌+◌ next) first.count) a'.1)
      (subst (λ m. Holds δ m body.sides) first.numbers b'.1) (rw map-append (append_mono r (u.0 ∷⊑ []⊑))) in
      (w.0, read_append B δ π u.1 w.1);
}

module _ {B : Book} where
  -- how the top node of an application agrees, once its arguments are read
  constructed : {c : ℕ} {xs : List ℕ} (ps : Parts) → B.is_constructor c ≡ true → (δ : ℕ → Side) (π : ℕ → Part) → to_list ps ⊑ˡ map π xs
      → AgreesIn B δ π 0 (Node.apply c xs) (con c ps)
  constructed ps c δ π l = AgreesIn.constructor c (con⊑ (row_below ps l))

  -- the same of an operation
  operated : {t f : ℕ} {xs : List ℕ} (ps : Parts) {e : Expr} {ρ' : List Part} {p : Part} → B.is_constructor f ≡ false
      → Hits B (B.tree f) (to_list ps) e ρ' → Gives B t e ρ' p
      → (δ : ℕ → Side) (π : ℕ → Part) → to_list ps ⊑ˡ map π xs → AgreesIn B δ π (suc t) (Node.apply f xs) p
  operated {t} ps {e} f h g δ π l =
      let (σ, hits, le) = hits_mono l h in
      AgreesIn.operation f (record { expr = e; env = σ; size = t; hits = hits; gives = gives_mono g le (⊑_refl _) }) (le_refl _)

  -- how a choice agrees, once the side taken is read
  chosen : {k l r : ℕ} {p : Part} (s : Side) (δ : ℕ → Side) (π : ℕ → Part) → p ⊑ π (side_of s l r) → δ k ≡ s → AgreesIn B δ π 1 (Node.choice k l r) p
  chosen {k} {l} {r} {p} s δ π h e = AgreesIn.choice {i = k} {l = l} {r = r} {p = p} (le_refl 1) (rw e h)

-- the two sides of choice k, with nodes from `next` on, of which the one taken is read
module _ (B : Book) (env : List ℕ) (a b : Expr) (next k : ℕ) where
  abbrev on_left : Made
  on_left = make a env next (suc k)

  abbrev on_right : Made
  on_right = make b env (next + length on_left.nodes) on_left.choices

  -- both are read, and the choice agrees
  abbrev SidesRead : List Part → Part → ℕ → Type 0
  SidesRead ρ p t = Stretch B env ρ next k (on_left.nodes ++ on_right.nodes) on_right.choices
      (λ δ π. AgreesIn B δ π 1 (Node.choice k on_left.arrow on_right.arrow) p) t

  -- the left
  left-read : {ρ : List Part} {p : Part} {t : ℕ} → Stretch B env ρ next (suc k) on_left.nodes on_left.choices (λ δ π. p ⊑ π on_left.arrow) t
      → SidesRead ρ p t
  unfolding side_of
  left-read x =
      let up = (make-choices env b (next + length on_left.nodes) on_left.choices).0 in
      let unread = blank {s = 0} on_right.nodes {G = λ δ π. Unit {0}} up (λ δ π. tt) in
      restate (λ δ π v. chosen Side.left δ π v.0.0 v.0.1) (join (decide Side.left x) unread (omega arith))

  -- the right
  right-read : {ρ : List Part} {p : Part} {t : ℕ}
      → Stretch B env ρ (next + length on_left.nodes) on_left.choices on_right.nodes on_right.choices (λ δ π. p ⊑ π on_right.arrow) t
      → SidesRead ρ p t
  unfolding side_of
  right-read x =
      let unread = blank {s = 0} on_left.nodes {G = λ δ π. Unit {0}} (make-choices env a next (suc k)).0 (λ δ π. tt) in
      restate (λ δ π v. chosen Side.right δ π v.1 v.0.1) (join (decide Side.right unread) x (omega arith))

module _ (B : Book) where
  mutual
    unfolding make to_list

    -- the nodes of an expression can be read as it gives
    make-read : (env : List ℕ) {s : ℕ} {e : Expr} {ρ : List Part} {p : Part} → Gives B s e ρ p → (next k : ℕ)
        → Stretch B env ρ next k (make e env next k).nodes (make e env next k).choices (λ δ π. p ⊑ π (make e env next k).arrow) s
    make-read env {e} Gives.nothing next k = blank (make e env next k).nodes (make-choices env e next k).0 (λ δ π. bot⊑)
    make-read env (Gives.var {x} h) next k = none_made (λ δ π l. variable env x h π l)
    make-read env (Gives.constructor {ps} c r) next k = push (row_read env r (suc next) k) (constructed ps c) (omega arith)
    make-read env (Gives.operation {ps} l f r h g) next k = push (row_read env r (suc next) k) (operated ps f h g) (omega arith)
    make-read env (Gives.left {a} {b} l g) next k =
        push (left-read B env a b (suc next) k (make-read env g (suc next) (suc k))) (λ δ π v. v) (omega arith)
    make-read env (Gives.right {a} {b} l g) next k =
        let m = make a env (suc next) (suc k) in
        push (right-read B env a b (suc next) k (make-read env g (suc next + length m.nodes) m.choices)) (λ δ π v. v) (omega arith)
    make-read env (Gives.shared {a} l g b) next k =
        let m = make a env next k in
        share (make-read env g next k) (make-read (env ++ (m.arrow ∷ [])) b (next + length m.nodes) m.choices) l

    -- of a row
    row_read : (env : List ℕ) {s : ℕ} {es : Exprs} {ρ : List Part} {ps : Parts} → GivesRow B s es ρ ps → (next k : ℕ)
        → Stretch B env ρ next k (make_row es env next k).nodes (make_row es env next k).choices (λ δ π. to_list ps ⊑ˡ map π (make_row es env next k).arrows) s
    row_read env GivesRow.none next k = none_made (λ δ π l. []⊑)
    row_read env (GivesRow.more {e} {es} l g r) next k =
        let m = make e env next k in
        restate (λ δ π v. v.0 ∷⊑ v.1) (join (make-read env g next k) (row_read env r (next + length m.nodes) m.choices) l)

  -- The nodes that take an operation's place can be read so that the old node keeps its value.
  pub place_read : (env : List ℕ) {s : ℕ} {e : Expr} {ρ : List Part} {p : Part} → Gives B s e ρ p → (next k : ℕ) → (t : ℕ) × (u : ℕ) × (t + u ≤ s)
      × Stretch B env ρ next k (place e env next k).nodes (place e env next k).choices (λ δ π. AgreesIn B δ π t (place e env next k).top p) u
  unfolding make place to_list
  place_read env {e} Gives.nothing next k = (0, 0, omega arith, blank (place e env next k).nodes (place-choices env e next k).0 (λ δ π. AgreesIn.idle))
  place_read env (Gives.var {x} h) next k = (0, 0, omega arith, none_made (λ δ π l. AgreesIn.forward (variable env x h π l)))
  place_read env {s} (Gives.constructor {ps} c r) next k = (0, s, omega arith, restate (constructed ps c) (row_read env r next k))
  place_read env (Gives.operation {r = i} {t} {ps} l f r h g) next k = (suc t, i, omega arith, restate (operated ps f h g) (row_read env r next k))
  place_read env (Gives.left {t} {a} {b} l g) next k = (1, t, omega arith, left-read B env a b next k (make-read env g next (suc k)))
  place_read env (Gives.right {t} {a} {b} l g) next k =
      let m = make a env next (suc k) in
      (1, t, omega arith, right-read B env a b next k (make-read env g (next + length m.nodes) m.choices))
  place_read env (Gives.shared {r = i} {a} l g b) next k =
      let m = make a env next k in
      let (t, u, total, body) = place_read (env ++ (m.arrow ∷ [])) b (next + length m.nodes) m.choices in
      (t, i + u, omega arith, share (make-read env g next k) body (le_refl _))
