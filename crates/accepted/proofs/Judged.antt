-- THE CHECK accepts exactly the accepted states.
use mathlib.Core.Bool.{false}
use mathlib.Core.Path.{◌≡◌, refl, sym, ap, ◌∙◌}
use mathlib.Core.List.{List, [], ◌∷◌}
use Prim.Native.Nat.{ℕ, zero, suc, ◌≤◌, ◌<◌}
use native.Mathlib.Decide.{ℕ_discrete, dec_lt}
use native.Mathlib.Omega.{arith}
use borrow.Author.Tests.{ltb-false, leb-true, leb-false, le-ltb, lt-leb}
use lib.Dec.{leb, ltb}
use lib.ListN.{length}
use Rattle.symbols.specs.Symbols.{Symbols}
use Rattle.nodes.specs.Nodes.{Node, apply, choice, fail, forward, Heap, at}
use Rattle.nodes.specs.Numbers.{kind_in, label_in, arrow_in}
use Rattle.rewriting.specs.Heaps.{ArrowsBelow, ChoiceBelow}
use Rattle.rewriting.proofs.Heaps.{there, at-past, apply≢fail}
use Rattle.rewriting.specs.Lists.{firsts}
use Rattle.rewriting.proofs.Lists.{length-firsts, get_or_firsts}
use Rattle.sorts.specs.Sorts.{sort_of, arguments_of}
use Rattle.rewriting.specs.Paths.{In, first, later, Arrow}
use Rattle.meaning.proofs.Finite.{every, arrow-below}
use Rattle.accepted.specs.Accepted.{Meets, Fits, Along, none, more, Argued, Path, AcceptedNodes}
use Rattle.accepted.specs.Read.{node_by, node_in, heap_in}
use Rattle.accepted.specs.Faults.{some_of, arrows_of, returns, misfit, some_misfit, bad_at, bad_node}
use Rattle.accepted.proofs.Reaches.{or-none, none_or, not-passed, not-both, some_is, some-has, in_arrow}
use Rattle.accepted.proofs.Reaches.{returns_path, path_returns}
use Rattle.accepted.proofs.Misfits.{misfit-is, is-misfit}

-- ---- the nodes read

-- the node at n, if it is there
pub heap-at : (S : Symbols) (m : List ℕ) (used n : ℕ) → n < used → at (heap_in S m used) n ≡ node_in S m n
unfolding heap_in
heap-at S m used n lt = get_or_firsts used (node_in S m) n fail lt

pub heap-sized : (S : Symbols) (m : List ℕ) (used : ℕ) → length (heap_in S m used) ≡ used
unfolding heap_in
heap-sized S m used = length-firsts used (node_in S m)

-- an apply that is read has as many arguments as its symbol takes
full-node : (k : ℕ) (S : Symbols) (m : List ℕ) (n f : ℕ) (xs : List ℕ) → node_by k S m n ≡ apply f xs → length xs ≡ length (arguments_of S f)
unfolding node_by
full-node zero S m n f xs e =
    let label : label_in m n ≡ f = cc in
    let arrows : firsts (length (arguments_of S (label_in m n))) (arrow_in m n) ≡ xs = cc in
    sym (ap length arrows) ∙ length-firsts (length (arguments_of S (label_in m n))) (arrow_in m n) ∙ ap (λ (g : ℕ). length (arguments_of S g)) label
full-node (suc zero) S m n f xs e = absurd (let z : ◌≡◌ {A = ℕ} 0 1 = cc in omega arith)
full-node (suc (suc zero)) S m n f xs e = absurd (let z : ◌≡◌ {A = ℕ} 0 1 = cc in omega arith)
full-node (suc (suc (suc zero))) S m n f xs e = absurd (let z : ◌≡◌ {A = ℕ} 0 1 = cc in omega arith)
full-node (suc (suc (suc (suc k)))) S m n f xs e = absurd (let z : ◌≡◌ {A = ℕ} 0 1 = cc in omega arith)

-- each apply has as many arguments as its symbol takes
abbrev pub Full : Symbols → Heap → Type 0
Full S h = (n f : ℕ) (xs : List ℕ) → at h n ≡ apply f xs → length xs ≡ length (arguments_of S f)

pub heap-full : (S : Symbols) (m : List ℕ) (used : ℕ) → Full S (heap_in S m used)
heap-full S m used n f xs e =
    let lt : n < used = rw (heap-sized S m used) at (there (heap_in S m used) n (apply≢fail e)) in
    full-node (kind_in m n) S m n f xs (sym (heap-at S m used n lt) ∙ e)

-- ---- the nodes, by the tests

-- no argument is a misfit
fits_of : (S : Symbols) (h : Heap) → ((m g : ℕ) (ys : List ℕ) → at h m ≡ apply g ys → g < length S) → (n s : ℕ) → misfit S h n s ≡ false → Fits S h n s
fits_of S h known n s e = record { met = λ m g ys meets is. by m g ys meets is (ℕ_discrete (sort_of S g) s) }
  where
    by : (m g : ℕ) (ys : List ℕ) → Meets h n m → at h m ≡ apply g ys → Dec (sort_of S g ≡ s) → sort_of S g ≡ s
    by m g ys meets is (yes q) = q
    by m g ys meets is (no q) =
        absurd (not-both (misfit S h n s) e (is-misfit S h n s (record { node = m; symbol = g; arguments = ys; meets = meets; is = is; known = known m g ys is; other = q })))

of_fits : (S : Symbols) (h : Heap) (n s : ℕ) → Fits S h n s → misfit S h n s ≡ false
of_fits S h n s fits = not-passed (misfit S h n s) (λ e. let x = misfit-is S h n s e in x.other (fits.met x.node x.symbol x.arguments x.meets x.is))

row_of : (S : Symbols) (h : Heap) → ((m g : ℕ) (ys : List ℕ) → at h m ≡ apply g ys → g < length S) → (xs ss : List ℕ) → length xs ≡ length ss
    → some_misfit S h xs ss ≡ false → Along (Fits S h) xs ss
unfolding some_misfit
row_of S h known [] [] sized e = none
row_of S h known [] (s ∷ ss) sized e = absurd (omega arith)
row_of S h known (x ∷ xs) [] sized e = absurd (omega arith)
row_of S h known (x ∷ xs) (s ∷ ss) sized e =
    let (p, q) = or-none (misfit S h x s) (some_misfit S h xs ss) e in
    more (fits_of S h known x s p) (row_of S h known xs ss (omega arith) q)

of_row : (S : Symbols) (h : Heap) {xs ss : List ℕ} → Along (Fits S h) xs ss → some_misfit S h xs ss ≡ false
unfolding some_misfit
of_row S h none = refl
of_row S h (more {x} {s} {xs} {ss} r rs) = none_or (misfit S h x s) (some_misfit S h xs ss) (of_fits S h x s r) (of_row S h rs)

-- arrows within
below_of : (b : ℕ) (x : Node) → some_of (leb b) (arrows_of x) ≡ false → ArrowsBelow b x
unfolding arrows_of
below_of b x e = by x (λ m i. inside m i)
  where
    inside : (m : ℕ) → In m (arrows_of x) → m < b
    inside m i = leb-false b m (not-passed (leb b m) (λ q. not-both (some_of (leb b) (arrows_of x)) e (some_is (leb b) (arrows_of x) i q)))

    by : (y : Node) → ((m : ℕ) → In m (arrows_of y) → m < b) → ArrowsBelow b y
    by (apply f xs) f' = every xs f'
    by (choice i l r) f' = (f' l first, f' r (later first))
    by fail f' = tt
    by (forward m) f' = f' m first

of_below : (b : ℕ) (x : Node) → ArrowsBelow b x → some_of (leb b) (arrows_of x) ≡ false
of_below b x below = not-passed (some_of (leb b) (arrows_of x)) (λ e.
    let (m, i, q) = some-has (leb b) (arrows_of x) e in
    let lt : m < b = arrow-below b (in_arrow x i) below in
    let le : b ≤ m = leb-true b m q in
    omega arith)

module _ (S : Symbols) (k : ℕ) (m : List ℕ) (h : Heap) (full : Full S h) where
  -- the four tests of a node
  record Passed (n : ℕ) : Type 0 where
    kind : kind_in m n ≤ 3
    own : bad_at S k h (at h n) ≡ false
    below : ArrowsBelow (length h) (at h n)
    ends : ¬ Path h n n

  passed : (n : ℕ) → bad_node S k m h n ≡ false → Passed n
  unfolding bad_node
  passed n e =
      let (abc, d) = or-none _ (returns h n) e in
      let (ab, c) = or-none _ (some_of (leb (length h)) (arrows_of (at h n))) abc in
      let (a, b) = or-none (ltb 3 (kind_in m n)) (bad_at S k h (at h n)) ab in
      record {
        kind = ltb-false 3 (kind_in m n) a;
        own = b;
        below = below_of (length h) (at h n) c;
        ends = λ p. not-both (returns h n) d (path_returns h n p);
      }

  pub passed_kind : (n : ℕ) → bad_node S k m h n ≡ false → kind_in m n ≤ 3
  passed_kind n e = (passed n e).kind

  -- all nodes pass
  module _ (all : (n : ℕ) → n < length h → bad_node S k m h n ≡ false) where
    -- a symbol is known
    known : (n f : ℕ) (xs : List ℕ) → at h n ≡ apply f xs → f < length S
    unfolding bad_at
    known n f xs is =
        let p = passed n (all n (there h n (apply≢fail is))) in
        let e : bad_at S k h (apply f xs) ≡ false = rw is at p.own in
        leb-false (length S) f (or-none (leb (length S) f) (some_misfit S h xs (arguments_of S f)) e).0

    -- what is so of each node, as far as nodes go
    each : (P : Node → Type 0) → P fail → ((n : ℕ) → n < length h → P (at h n)) → (n : ℕ) → P (at h n)
    each P past there-is n = by (dec_lt n (length h))
      where
        by : Dec (n < length h) → P (at h n)
        by (yes lt) = there-is n lt
        by (no ge) = rw (at-past h n (omega arith)) past

    numbered-here : (x : Node) → bad_at S k h x ≡ false → ChoiceBelow k x
    unfolding bad_at
    numbered-here (apply f xs) e = tt
    numbered-here (choice i l r) e = leb-false k i e
    numbered-here fail e = tt
    numbered-here (forward t) e = tt

    argued-here : (x : Node) → ((f : ℕ) (xs : List ℕ) → x ≡ apply f xs → length xs ≡ length (arguments_of S f)) → bad_at S k h x ≡ false → Argued S h x
    unfolding bad_at
    argued-here (apply f xs) sized e =
        let (a, b) = or-none (leb (length S) f) (some_misfit S h xs (arguments_of S f)) e in
        (leb-false (length S) f a, row_of S h known xs (arguments_of S f) (sized f xs refl) b)
    argued-here (choice i l r) sized e = tt
    argued-here fail sized e = tt
    argued-here (forward t) sized e = tt

    no_arrow : {y : ℕ} → ¬ Arrow y fail
    no_arrow = elim [ ]

    ends-here : (n : ℕ) → Dec (n < length h) → ¬ Path h n n
    ends-here n (yes lt) p = (passed n (all n lt)).ends p
    ends-here n (no ge) (Path.one a) = no_arrow (rw (at-past h n (omega arith)) at a)
    ends-here n (no ge) (Path.more a q) = no_arrow (rw (at-past h n (omega arith)) at a)

    -- so the heap is accepted
    pub accepted-heap : AcceptedNodes S k h
    accepted-heap = record {
      range = each (ArrowsBelow (length h)) tt (λ n lt. (passed n (all n lt)).below);
      numbered = each (ChoiceBelow k) tt (λ n lt. numbered-here (at h n) (passed n (all n lt)).own);
      argued = each (Argued S h) tt (λ n lt. argued-here (at h n) (full n) (passed n (all n lt)).own);
      ends = λ n. ends-here n (dec_lt n (length h));
    }

  -- and the other way round
  module _ (accepted : AcceptedNodes S k h) where
    own-good : (x : Node) → ChoiceBelow k x → Argued S h x → bad_at S k h x ≡ false
    unfolding bad_at
    own-good (apply f xs) numbered (known, row) = none_or (leb (length S) f) (some_misfit S h xs (arguments_of S f)) (lt-leb (length S) f known) (of_row S h row)
    own-good (choice i l r) numbered argued = lt-leb k i numbered
    own-good fail numbered argued = refl
    own-good (forward t) numbered argued = refl

    pub good-node : (n : ℕ) → kind_in m n ≤ 3 → bad_node S k m h n ≡ false
    unfolding bad_node
    good-node n kind =
        none_or _ (returns h n)
        (none_or _ (some_of (leb (length h)) (arrows_of (at h n)))
        (none_or (ltb 3 (kind_in m n)) (bad_at S k h (at h n)) (le-ltb 3 (kind_in m n) kind) (own-good (at h n) (accepted.numbered n) (accepted.argued n)))
        (of_below (length h) (at h n) (accepted.range n)))
        (not-passed (returns h n) (λ e. accepted.ends n (returns_path h n e)))
