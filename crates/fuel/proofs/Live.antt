-- A live entry: a sized reading of the heap that keeps the entry's decisions and has the whole value v at its root. What other entries do leaves it
-- live, in no larger size, and in a smaller one where they rewrite a node of which the reading says something.
use mathlib.Core.Bool.{false}
use mathlib.Core.Path.{◌≡◌, refl, sym, ap, ◌∙◌}
use mathlib.Core.Logic.{◌⊎◌, inl, inr, ◌≢◌}
use mathlib.Core.Option.{some}
use mathlib.Core.List.{List, map}
use Prim.Native.Nat.{ℕ, suc, ◌+◌, ◌≤◌, ◌<◌}
use native.Mathlib.Omega.{arith}
use native.Mathlib.Decide.{dec_lt}
use lib.ListN.{length, set}
use Rattle.limits.specs.Lent.{Entry}
use Rattle.expressions.specs.Expressions.{Expr}
use Rattle.book.specs.Rules.{Book}
use Rattle.nodes.specs.Nodes.{Node, Heap, at}
use Rattle.nodes.specs.Steps.{failed}
use Rattle.machine.specs.Made.{place, rewritten}
use Rattle.rewriting.specs.Rewriting.{Leads, Ends, Value}
use Rattle.rewriting.proofs.Lists.{sum, sum-set}
use Rattle.rewriting.specs.Heaps.{ChoicesBelow}
use Rattle.rewriting.proofs.Heaps.{there, apply≢fail, choice≢fail, forward≢fail}
use Rattle.meaning.specs.Partial.{Part, bot, ◌⊑◌, Hits, Gives}
use Rattle.meaning.specs.Readings.{Side, side_of, AgreesIn, Reads, whole}
use Rattle.meaning.proofs.Order.{⊑_refl, ⊑_trans, ⊑_of_eq, ⊑_whole, ⊑ˡ_refl, gives_mono, agrees-choice, agrees-forward, agrees-fail}
use Rattle.meaning.proofs.Rewritten.{hits-ends}
use Rattle.rewriting.specs.Paths.{Arrow, Finite}
use Rattle.meaning.proofs.Measure.{read_at, read_set}
use Rattle.meaning.proofs.Realize.{part_at, side_at, size_at, Marked, replaced, sized}
use Rattle.meaning.specs.Entries.{Fit}
use Rattle.meaning.proofs.Turns.{as_side, sides, Can}
use Rattle.fuel.proofs.Wanted.{whole_something}

-- ---- a live entry

-- the entry can have v, by a reading with sizes
pub record Live (B : Book) (h : Heap) (k : ℕ) (v : Value) (e : Entry) : Type 0 where
  pub marked : Marked B h k
  pub keeps : (i : ℕ) (c : Side) → sides e.decisions i ≡ some c → side_at marked.sides i ≡ c
  pub has : whole v ⊑ part_at marked.parts e.root

-- an entry decides only choices that there are
decided-below : {h : Heap} {k : ℕ} {e : Entry} → Fit h k e → (i : ℕ) (c : Side) → sides e.decisions i ≡ some c → i < k
decided-below {k} fit i c q = go (dec_lt i k)
  where
    go : Dec (i < k) → i < k
    go (yes lt) = lt
    go (no ge) = let free = ap as_side (fit.free i (omega arith)) in absurd (let z : ◌≡◌ {A = ℕ} 0 1 = cc in omega arith)

module _ {B : Book} {h : Heap} {k : ℕ} {v : Value} {e : Entry} where
  -- the size of its reading
  abbrev pub size : Live B h k v e → ℕ
  size L = sum L.marked.sizes

  -- the sides that it takes
  abbrev pub sides_of : Live B h k v e → ℕ → Side
  sides_of L = side_at L.marked.sides

  -- the partial values that it has
  abbrev pub parts_of : Live B h k v e → ℕ → Part
  parts_of L = part_at L.marked.parts

  -- it is a reading
  pub live_reads : (L : Live B h k v e) → Reads B h (sides_of L) (parts_of L)
  live_reads L n = (_, read_at B _ _ L.marked.read n)

  -- so the entry can have the value
  pub live_can : Live B h k v e → Can B h e v
  live_can L = record { δ = sides_of L; π = parts_of L; keeps = L.keeps; agrees = live_reads L; is = ⊑_whole v L.has }

  -- and whatever entry can have the value is live
  pub live_of : ChoicesBelow k h → Fit h k e → Can B h e v → Live B h k v e
  live_of below fit c =
      let reading = sized h k below c.agrees in
      record {
        marked = reading.marked;
        keeps = λ i s q. sym (reading.same i (decided-below fit i s q)) ∙ c.keeps i s q;
        has = ⊑_trans (⊑_of_eq (sym c.is)) (reading.grows e.root);
      }

-- what a step leaves of a live entry: it is live, with the same sides for the choices that there were
pub record Still (B : Book) (h h' : Heap) (k k' : ℕ) (v : Value) (e : Entry) (L : Live B h k v e) : Type 0 where
  pub live : Live B h' k' v e
  pub same : (i : ℕ) → i < k → sides_of L i ≡ sides_of live i

-- ---- another node is rewritten

module _ {B : Book} (h : Heap) (n k : ℕ) {f : ℕ} {xs env : List ℕ} {x : Expr} (is : at h n ≡ Node.apply f xs) (op : B.is_constructor f ≡ false)
    (ends : Ends B h (B.tree f) xs x env) (below : ChoicesBelow k h) {v : Value} {e : Entry} (fit : Fit h k e) (L : Live B h k v e) where
  -- the size of the node's derivation
  abbrev had : ℕ
  had = size_at L.marked.sizes n

  -- nothing is known of the node, or what is known the rule gives that is placed
  abbrev ByRule : Type 0
  ByRule = (parts_of L n ≡ bot) ⊎ ((t : ℕ) × (t < had) × Gives B t x (map (parts_of L) env) (parts_of L n))

  -- by what the reading has at the node
  by-rule : ByRule
  by-rule = go (at h n) (parts_of L n) is refl (read_at B _ _ L.marked.read n)
    where
      go : (y : Node) (p : Part) → y ≡ Node.apply f xs → parts_of L n ≡ p → AgreesIn B (sides_of L) (parts_of L) had y p → ByRule
      go y p q r AgreesIn.idle = inl r
      go y p q r (AgreesIn.constructor {c} {xs = ys} t a) = absurd (let same : c ≡ f = cc in let z : ◌≡◌ {A = ℕ} 0 1 = cc in omega arith)
      go y p q r (AgreesIn.operation {f = g} {xs = ys} c o l) =
          let same : ys ≡ xs = cc in
          let same' : g ≡ f = cc in
          let hits' : Hits B (B.tree f) (map (parts_of L) xs) o.expr o.env = rw (same, same') at o.hits in
          let (rule, le) = hits-ends B h (sides_of L) (parts_of L) (live_reads L) ends (⊑ˡ_refl (map (parts_of L) xs)) hits' in
          inr (o.size, l, rw (← rule, r) (gives_mono o.gives le (⊑_refl p)))
      go y p q r (AgreesIn.choice z a) = absurd (let z : ◌≡◌ {A = ℕ} 0 1 = cc in omega arith)
      go y p q r (AgreesIn.forward a) = absurd (let z : ◌≡◌ {A = ℕ} 0 1 = cc in omega arith)

  -- the entry is live after it
  abbrev After : Type 0
  After = Still B h (rewritten h n (place x env (length h) k)) k (place x env (length h) k).choices v e L

  -- where the rule gives what the node has by a derivation of size t, this takes the place of the node's own
  rewrite_live : (t : ℕ) → Gives B t x (map (parts_of L) env) (parts_of L n) → (S : After) × (size S.live + had ≤ size L + t)
  rewrite_live t gives =
      let after = replaced h n k below L.marked gives in (
        record {
          live = record {
            marked = after.marked;
            keeps = λ i c q. sym (after.same i (decided-below fit i c q)) ∙ L.keeps i c q;
            has = ⊑_trans L.has (after.grows e.root);
          };
          same = after.same;
        },
        after.total,
      )

  -- REWRITTEN: of the node nothing is known, and the size is no larger; or something is, and the size is smaller.
  pub live_rewritten : ((parts_of L n ≡ bot) × (S : After) × (size S.live ≤ size L)) ⊎ ((S : After) × (size S.live < size L))
  live_rewritten = go by-rule
    where
      go : ByRule → ((parts_of L n ≡ bot) × (S : After) × (size S.live ≤ size L)) ⊎ ((S : After) × (size S.live < size L))
      go (inl z) = let (S, le) = rewrite_live 0 (rw z Gives.nothing) in inl (z, S, omega arith)
      go (inr (t, lt, gives)) = let (S, le) = rewrite_live t gives in inr (S, omega arith)

-- FAILED: a node of which nothing is known is made a fail.
pub live_failed : {B : Book} (h : Heap) (n k : ℕ) {v : Value} {e : Entry} (L : Live B h k v e) → parts_of L n ≡ bot
    → (S : Still B h (failed h n) k k v e L) × (size S.live ≤ size L)
unfolding failed
live_failed {B} h n k L z =
    let m = L.marked in (
      record {
        live = record {
          marked = record {
            sides = m.sides;
            parts = m.parts;
            sizes = set m.sizes n 0;
            used = m.used;
            read = read_set B _ _ n m.read (rw z AgreesIn.idle);
          };
          keeps = L.keeps;
          has = L.has;
        };
        same = λ i lt. refl;
      },
      omega (arith, sum-set m.sizes n 0),
    )

-- ---- the choices between an entry's root and its application

-- from node n, forwards followed and the sides δ taken, there are c choices and then an application
pub data Chain (h : Heap) (δ : ℕ → Side) : ℕ → ℕ → Type 0 where
  stop : {n f : ℕ} {xs : List ℕ} → at h n ≡ Node.apply f xs → Chain h δ n 0
  along : {n m c : ℕ} → at h n ≡ Node.forward m → Chain h δ m c → Chain h δ n c
  take : {n i l r c : ℕ} → at h n ≡ Node.choice i l r → Chain h δ (side_of (δ i) l r) c → Chain h δ n (suc c)

module _ {h : Heap} {δ : ℕ → Side} where
  -- one forward on
  chain-forward : {n m c : ℕ} → at h n ≡ Node.forward m → Chain h δ n c → Chain h δ m c
  chain-forward e (stop q) = absurd (let z : ◌≡◌ {A = ℕ} 0 1 = cc in omega arith)
  chain-forward {m} e (along {m = m'} q x) = let same : m' ≡ m = cc in rw same at x
  chain-forward e (take q x) = absurd (let z : ◌≡◌ {A = ℕ} 0 1 = cc in omega arith)

  -- where forwards lead
  pub chain-leads : {n m c : ℕ} → Leads h n m → Chain h δ n c → Chain h δ m c
  chain-leads Leads.here x = x
  chain-leads (Leads.along e l) x = chain-leads l (chain-forward e x)

  -- on the side that is taken there is one choice less
  pub chain-choice : {n i l r c : ℕ} → at h n ≡ Node.choice i l r → Chain h δ n c → (b : ℕ) × (c ≡ suc b) × Chain h δ (side_of (δ i) l r) b
  chain-choice e (stop q) = absurd (let z : ◌≡◌ {A = ℕ} 0 1 = cc in omega arith)
  chain-choice e (along q x) = absurd (let z : ◌≡◌ {A = ℕ} 0 1 = cc in omega arith)
  chain-choice {i} {l} {r} e (take {i = i'} {l = l'} {r = r'} {c} q x) =
      let a : i' ≡ i = cc in
      let b : l' ≡ l = cc in
      let d : r' ≡ r = cc in
      (c, refl, rw (a, b, d) at x)

-- an arrow leads to either side of a choice
side_arrow : (d : Side) (i l r : ℕ) → Arrow (side_of d l r) (Node.choice i l r)
unfolding side_of
side_arrow Side.left i l r = Arrow.left_side
side_arrow Side.right i l r = Arrow.right_side

module _ (B : Book) (h : Heap) (δ : ℕ → Side) (π : ℕ → Part) (reads : Reads B h δ π) (v : Value) where
  -- from a node with a whole value, whose paths end, there is such a chain
  pub chain_of : {n : ℕ} → Finite h n → whole v ⊑ π n → (c : ℕ) × Chain h δ n c
  chain_of {n} (Finite.finite g) le = go (at h n) refl (λ m a. chain_of (g m a))
    where
      go : (x : Node) → at h n ≡ x → ((m : ℕ) → Arrow m (at h n) → whole v ⊑ π m → (c : ℕ) × Chain h δ m c) → (c : ℕ) × Chain h δ n c
      go (Node.apply f xs) e ih = (0, stop e)
      go (Node.choice i l r) e ih =
          let (c, x) = ih (side_of (δ i) l r) (rw e (side_arrow (δ i) i l r)) (⊑_trans le ((agrees-choice B δ π e).0 (reads n))) in
          (suc c, take e x)
      go Node.fail e ih = absurd (whole_something v le ((agrees-fail B δ π e).0 (reads n)))
      go (Node.forward m) e ih =
          let (c, x) = ih m (rw e Arrow.target) (⊑_trans le ((agrees-forward B δ π e).0 (reads n))) in
          (c, along e x)

  -- a change at a node m of which nothing is known leaves it so
  pub chain-kept : {h' : Heap} {δ' : ℕ → Side} (m k : ℕ) {f : ℕ} {xs : List ℕ} → at h m ≡ Node.apply f xs → π m ≡ bot
      → ((q : ℕ) → q ≢ m → q < length h → at h' q ≡ at h q) → ChoicesBelow k h → ((i : ℕ) → i < k → δ i ≡ δ' i)
      → {n c : ℕ} → whole v ⊑ π n → Chain h δ n c → Chain h' δ' n c
  chain-kept m k is z kept below same le (stop {n} e) = stop (kept n (λ q. whole_something v le (ap π q ∙ z)) (there h n (apply≢fail e)) ∙ e)
  chain-kept m k is z kept below same le (along {n} e x) =
      along (kept n (λ q. let w : ◌≡◌ {A = ℕ} 0 1 = cc (ap (at h) q) in omega arith) (there h n (forward≢fail e)) ∙ e)
      (chain-kept m k is z kept below same (⊑_trans le ((agrees-forward B δ π e).0 (reads n))) x)
  chain-kept {h'} {δ'} m k is z kept below same le (take {n} {i} e x) =
      take (kept n (λ q. let w : ◌≡◌ {A = ℕ} 0 1 = cc (ap (at h) q) in omega arith) (there h n (choice≢fail e)) ∙ e)
      (rw (same i (rw e at (below n))) at
      (chain-kept {h' = h'} {δ' = δ'} m k is z kept below same (⊑_trans le ((agrees-choice B δ π e).0 (reads n))) x))
