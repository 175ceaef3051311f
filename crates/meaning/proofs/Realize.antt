-- Realization: a value that a reading gives to a node can be reached by rewriting. A step that the walk finds leads to a smaller
-- reading, in which the root has its value still; where it finds none, the root is the value.
use mathlib.Core.Path.{◌≡◌, refl, sym, ap}
use mathlib.Core.Logic.{⊎_elim}
use mathlib.Core.List.{List, [], ◌∷◌, ◌++◌, map}
use Prim.Native.Nat.{ℕ, zero, suc, ◌+◌, ◌≤◌, ◌<◌}
use native.Mathlib.Omega.{arith}
use native.Mathlib.Nat.{le_refl, not-suc-le-zero}
use lib.ListN.{length, get_or, set, length-append, get_or-append}
use native.Mathlib.Decide.{dec_lt}
use lib.Seq.{get_or-append-add}
use Rattle.expressions.specs.Expressions.{Expr}
use Rattle.book.specs.Rules.{Book}
use Rattle.nodes.specs.Nodes.{Node, Heap, at}
use Rattle.machine.specs.Made.{place, rewritten}
use Rattle.rewriting.specs.Rewriting.{State, Step, Steps, Value, Reaches}
use Rattle.rewriting.specs.Lists.{firsts}
use Rattle.rewriting.proofs.Lists.{sum, sum_append, sum-set, length-firsts, get_or_firsts}
use Rattle.rewriting.specs.Heaps.{ChoicesBelow}
use Rattle.rewriting.proofs.Heaps.{at-past}
use Rattle.rewriting.proofs.Holds.{Holds, holds_of}
use Rattle.rewriting.proofs.Steers.{Lawful}
use Rattle.meaning.specs.Partial.{Part, bot, ◌⊑◌, bot⊑, Gives}
use Rattle.meaning.specs.Readings.{Side, side_of, AgreesIn, Reads, whole, Decisions, CanBe}
use Rattle.meaning.proofs.Order.{agrees-fail, ⊑_refl, map_mono, ⊑_of_eq, ⊑_trans, ◌⊑ᶠ◌}
use Rattle.meaning.proofs.Finite.{Proper, step_proper}
use Rattle.meaning.proofs.Measure.{Read, read_at, read_append, read_set, raise_read, read_of}
use Rattle.meaning.proofs.Fresh.{place_read}
use Rattle.meaning.proofs.Demanded.{Redex, chosen, ruled, value}

-- parts, sides and sizes by their places
abbrev pub part_at : List Part → ℕ → Part
part_at ps m = get_or ps m bot

abbrev pub side_at : List Side → ℕ → Side
side_at ss i = get_or ss i Side.left

abbrev pub size_at : List ℕ → ℕ → ℕ
size_at ss m = get_or ss m 0

-- a sized reading of a heap whose first k choices are used
pub record Marked (B : Book) (h : Heap) (k : ℕ) : Type 0 where
  pub sides : List Side
  pub parts : List Part
  pub sizes : List ℕ
  pub used : length sides ≡ k
  pub read : Read B (side_at sides) (part_at parts) h parts sizes

-- a read heap has a part for each node
read_length : {B : Book} {δ : ℕ → Side} {π : ℕ → Part} {h : List Node} {ps : List Part} {ss : List ℕ} → Read B δ π h ps ss
    → length ps ≡ length h
read_length Read.none = refl
read_length (Read.more a r) = ap suc (read_length r)

-- more parts behind: no node has less
part_grows : (ps qs : List Part) → part_at ps ⊑ᶠ part_at (ps ++ qs)
part_grows [] qs m = bot⊑
part_grows (p ∷ ps) qs zero = ⊑_refl p
part_grows (p ∷ ps) qs (suc m) = part_grows ps qs m

-- what a step leads to: a smaller reading in which the root still has its value
record Next (B : Book) (s : State) (root : ℕ) (m : Marked B s.heap s.choices) : Type 0 where
  state : State
  step : Step B s state
  marked : Marked B state.heap state.choices
  smaller : sum marked.sizes < sum m.sizes
  keeps : part_at m.parts root ⊑ part_at marked.parts root

-- a choice may become either side
side_step : {B : Book} {h : Heap} {k : ℕ} (d : Side) (n : ℕ) {i x y : ℕ} → at h n ≡ Node.choice i x y
    → Step B (record { heap = h; choices = k }) (record { heap = set h n (Node.forward (side_of d x y)); choices = k })
unfolding side_of
side_step Side.left n e = Step.left n e
side_step Side.right n e = Step.right n e

-- from the seam on, an appended list
appended : {A : Type 0} (d : A) (pre l : List A) {n : ℕ} → length pre ≡ n → Holds (λ m. get_or (pre ++ l) m d) n l
appended d pre l e = holds_of (λ m. get_or (pre ++ l) m d) d _ l (λ j lt. rw (← e) (get_or-append-add pre l j d))

-- A reading after an expression has taken the place of node n: no node has less, the choices that there were are taken as before, and a
-- derivation of size t takes the place of the node's own.
pub record Replaced (B : Book) (h : Heap) (n k : ℕ) (e : Expr) (env : List ℕ) (m : Marked B h k) (t : ℕ) : Type 0 where
  pub marked : Marked B (rewritten h n (place e env (length h) k)) (place e env (length h) k).choices
  pub total : sum marked.sizes + size_at m.sizes n ≤ sum m.sizes + t
  pub grows : part_at m.parts ⊑ᶠ part_at marked.parts
  pub same : (i : ℕ) → i < k → side_at m.sides i ≡ side_at marked.sides i

-- where the expression gives what the node has, there is such a reading
pub replaced : {B : Book} (h : Heap) (n k : ℕ) {e : Expr} {env : List ℕ} {t : ℕ} → ChoicesBelow k h → (m : Marked B h k)
    → Gives B t e (map (part_at m.parts) env) (part_at m.parts n) → Replaced B h n k e env m t
unfolding rewritten
replaced {B} h n k {e} {env} below m v =
    let (top, rest, fits, made) = place_read B env v (length h) k in
    let parts' : List Part = m.parts ++ made.parts in
    let sides' : List Side = m.sides ++ made.sides in
    let same : (i : ℕ) → i < k → side_at m.sides i ≡ side_at sides' i = λ i l. sym (get_or-append m.sides made.sides Side.left i (rw m.used l)) in
    let le = part_grows m.parts made.parts in
    let u = made.holds (side_at sides') (part_at parts') (appended bot m.parts made.parts (read_length m.read))
    (appended Side.left m.sides made.sides m.used) (map_mono le env) in
    record {
      marked = record {
        sides = sides';
        parts = parts';
        sizes = set m.sizes n top ++ made.sizes;
        used = rw (length-append, m.used) made.numbers;
        read = read_append B _ _ (read_set B _ _ n (raise_read B same le below m.read) u.0) u.1;
      };
      total = rw sum_append (omega (arith, sum-set m.sizes n top, made.total));
      grows = le;
      same = same;
    }

-- the step that was found, and what it leads to
next : {B : Book} (h : Heap) (k root : ℕ) → ChoicesBelow k h → (m : Marked B h k)
    → Redex B h (side_at m.sides) (part_at m.parts) (size_at m.sizes) → Next B (record { heap = h; choices = k }) root m
next {B} h k root below m (chosen n {i} {l = x} {r = y} e z a) = record {
  state = record { heap = set h n (Node.forward (side_of (side_at m.sides i) x y)); choices = k };
  step = side_step (side_at m.sides i) n e;
  marked = record { sides = m.sides; parts = m.parts; sizes = set m.sizes n 0; used = m.used; read = read_set B _ _ n m.read (AgreesIn.forward a) };
  smaller = omega (arith, sum-set m.sizes n 0);
  keeps = ⊑_refl _;
}
next {B} h k root below m (ruled n {f} {t} {xs} {env} {e} is o d lt v) =
    let p = place e env (length h) k in
    let after = replaced h n k below m v in
    record {
      state = record { heap = rewritten h n p; choices = p.choices };
      step = Step.rewrite n is o d;
      marked = after.marked;
      smaller = omega (arith, after.total);
      keeps = after.grows root;
    }

-- by induction on the sum of the sizes
realize : {B : Book} {P : Heap → Type 0} (law : Lawful B P) (s : State) {root : ℕ} (v : Value) (fuel : ℕ) → Proper P s root
    → (m : Marked B s.heap s.choices)
    → sum m.sizes < fuel → whole v ⊑ part_at m.parts root → Reaches B s root v
unfolding Reaches
realize law s v zero proper m small le = absurd (not-suc-le-zero small)
realize {B} law s {root} v (suc fuel) proper m small le =
    ⊎_elim
    (λ r. let n = next s.heap s.choices root proper.below m r in
    let t = realize law n.state v fuel (step_proper law n.step proper) n.marked (omega (arith, n.smaller)) (⊑_trans le n.keeps) in
    (t.0, Steps.then n.step t.1, t.2))
    (λ i. (s, Steps.done, i))
    (value B s.heap (side_at m.sides) (part_at m.parts) (size_at m.sizes) (read_at B _ _ m.read) v root proper.ends le)

-- past the heap's end a reading has nothing
first-parts : (B : Book) (δ : ℕ → Side) (h : Heap) (π : ℕ → Part) → Reads B h δ π → π ⊑ᶠ part_at (firsts (length h) π)
first-parts B δ h π agrees m = go (dec_lt m (length h))
  where
    go : Dec (m < length h) → π m ⊑ part_at (firsts (length h) π) m
    go (yes l) = ⊑_of_eq (sym (get_or_firsts (length h) π m bot l))
    go (no l) =
        rw ((agrees-fail B δ π (at-past h m (omega arith))).0 (agrees m)) bot⊑

-- A reading given sizes, and sides for the first k choices: no node has less.
pub record Sized (B : Book) (h : Heap) (k : ℕ) (δ : ℕ → Side) (π : ℕ → Part) : Type 0 where
  pub marked : Marked B h k
  pub same : (i : ℕ) → i < k → δ i ≡ side_at marked.sides i
  pub grows : π ⊑ᶠ part_at marked.parts

-- every reading can be given them
pub sized : {B : Book} (h : Heap) (k : ℕ) {δ : ℕ → Side} {π : ℕ → Part} → ChoicesBelow k h → Reads B h δ π → Sized B h k δ π
sized {B} h k {δ} {π} below reads =
    let same : (i : ℕ) → i < k → δ i ≡ side_at (firsts k δ) i = λ i l. sym (get_or_firsts k δ i Side.left l) in
    let grows = first-parts B δ h π reads in
    let (sizes, read) = read_of B h π reads in
    record {
      marked = record {
        sides = firsts k δ;
        parts = firsts (length h) π;
        sizes = sizes;
        used = length-firsts k δ;
        read = raise_read B same grows below read;
      };
      same = same;
      grows = grows;
    }

-- REALIZATION. In a state as it should be a value that a node can have can be reached by rewriting.
pub realization : {B : Book} {P : Heap → Type 0} → Lawful B P → (s : State) {root : ℕ} {d : Decisions} {v : Value} → Proper P s root
    → CanBe B s.heap d root v → Reaches B s root v
realization law s {root} {v} proper c =
    let reading = sized s.heap s.choices proper.below c.agrees in
    realize law s v (suc (sum reading.marked.sizes)) proper reading.marked (le_refl _)
    (⊑_trans (⊑_of_eq (sym c.is)) (reading.grows root))
