-- A search, node by node.
use mathlib.Core.Bool.{Bool, true, false}
use mathlib.Core.List.{List, [], ◌∷◌}
use mathlib.Core.Logic.{◌⊎◌, inl, inr}
use mathlib.Core.Path.{◌≡◌, refl, sym, ap, subst, ◌∙◌}
use Prim.Native.Nat.{ℕ, zero, suc, ◌+◌, ◌<◌, ◌≤◌}
use native.Mathlib.Decide.{ℕ_discrete, dec_lt}
use native.Mathlib.Omega.{arith}
use lib.ListN.{length, get_or, set, length-set, replicate, length-replicate}
use lib.Seq.{get_or-set_same, get_or-set_other}
use Rattle.nodes.specs.Nodes.{fail, Heap, at}
use Rattle.rewriting.proofs.Heaps.{there}
use Rattle.rewriting.specs.Paths.{In, Arrow}
use Rattle.accepted.specs.Accepted.{Path}
use Rattle.accepted.specs.Faults.{arrows_of, returns}
use Rattle.accepted.proofs.Circles.{path_end}
use Rattle.accepted.proofs.Reaches.{arrow_in_lem, in_arrow, not-passed, returns_path, path_returns}
use Rattle.judging.specs.Search.{Seen, missing, unseen, AllSeen, OnStack, Searching, Roomy, Put}
use Rattle.judging.proofs.Unseen.{unseen-less}

-- one more is seen
see_more : (seen : List Bool) (x y : ℕ) → x < length seen → Seen seen y → Seen (set seen x true) y
see_more seen x y inside is = by (ℕ_discrete y x)
  where
    by : Dec (y ≡ x) → Seen (set seen x true) y
    by (yes q) = ap (λ (k : ℕ). get_or (set seen x true) k false) q ∙ get_or-set_same seen x true false inside
    by (no q) = get_or-set_other seen x y true false q ∙ is

all_more : {h : Heap} {seen : List Bool} {y : ℕ} (x : ℕ) → x < length seen → AllSeen h seen y → AllSeen h (set seen x true) y
all_more {seen = seen} x inside all = record { each = λ z a lt. see_more seen x z inside (all.each z a lt) }

-- a node that is not seen is seen and put on the stack
push : {h : Heap} {n : ℕ} {P : ℕ → Type 0} {seen : List Bool} {stack : List ℕ} {top : ℕ} (x : ℕ) → x < length h → x < length seen → top < length stack
    → Path h n x
    → Searching h n P seen stack top → Searching h n P (set seen x true) (set stack top x) (suc top)
push {h} {n} {P} {seen} {stack} {top} x lt inside room path s = record {
  reached = λ y. reached y (ℕ_discrete y x);
  stacked = λ i. stacked i (ℕ_discrete i top);
  done = λ y. done y (ℕ_discrete y x);
}
  where
    reached : (y : ℕ) → Dec (y ≡ x) → Seen (set seen x true) y → (y < length h) × Path h n y
    reached y (yes q) is = subst (λ (z : ℕ). (z < length h) × Path h n z) (sym q) (lt, path)
    reached y (no q) is = s.reached y (sym (get_or-set_other seen x y true false q) ∙ is)

    stacked : (i : ℕ) → Dec (i ≡ top) → i < suc top → Seen (set seen x true) (get_or (set stack top x) i 0)
    stacked i (yes q) b =
        subst (λ (z : ℕ). Seen (set seen x true) z) (sym (ap (λ (k : ℕ). get_or (set stack top x) k 0) q ∙ get_or-set_same stack top x 0 room))
        (get_or-set_same seen x true false inside)
    stacked i (no q) b =
        subst (λ (z : ℕ). Seen (set seen x true) z) (sym (get_or-set_other stack top i x 0 q))
        (see_more seen x (get_or stack i 0) inside (s.stacked i (elim (dec_lt i top) [ yes le ↦ le | no ge ↦ absurd (q (omega arith)) ])))

    done : (y : ℕ) → Dec (y ≡ x) → Seen (set seen x true) y → P y ⊎ (OnStack (set stack top x) (suc top) y ⊎ AllSeen h (set seen x true) y)
    done y (yes q) is = inr (inl (top, omega arith, get_or-set_same stack top x 0 room ∙ sym q))
    done y (no q) is = on (s.done y (sym (get_or-set_other seen x y true false q) ∙ is))
      where
        on : P y ⊎ (OnStack stack top y ⊎ AllSeen h seen y) → P y ⊎ (OnStack (set stack top x) (suc top) y ⊎ AllSeen h (set seen x true) y)
        on (inl p) = inl p
        on (inr (inl (i, b, is))) = inr (inl (i, omega arith, get_or-set_other stack top i x 0 (λ z. omega arith) ∙ is))
        on (inr (inr all)) = inr (inr (all_more x inside all))

-- ---- the arrows of a node, up to the j-th

pub record Putting (h : Heap) (from : ℕ) (seen : List Bool) (stack : List ℕ) (height : ℕ) (seen' : List Bool) (stack' : List ℕ) (top j : ℕ) : Type 0 where
  pub same_seen : length seen' ≡ length seen
  pub same_stack : length stack' ≡ length stack
  pub sum : top + unseen (length h) seen' ≡ height + unseen (length h) seen
  pub more : (x : ℕ) → Seen seen x → Seen seen' x
  pub first : (i : ℕ) → i < j → i < length (arrows_of (at h from)) → get_or (arrows_of (at h from)) i 0 < length h → Seen seen' (get_or (arrows_of (at h from)) i 0)
  pub goes : (n : ℕ) → (from ≡ n) ⊎ Path h n from → Searching h n (λ y. y ≡ from) seen stack height → Searching h n (λ y. y ≡ from) seen' stack' top

pub putting_first : (h : Heap) (from : ℕ) (seen : List Bool) (stack : List ℕ) (height : ℕ) → Putting h from seen stack height seen stack height 0
putting_first h from seen stack height = record {
  same_seen = refl;
  same_stack = refl;
  sum = refl;
  more = λ x is. is;
  first = λ i lt. absurd (omega arith);
  goes = λ n p s. s;
}

-- an arrow is one of the row
arrow-at : (xs : List ℕ) (j : ℕ) → j < length xs → In (get_or xs j 0) xs
arrow-at [] j lt = absurd (omega arith)
arrow-at (x ∷ xs) zero lt = In.first
arrow-at (x ∷ xs) (suc j) lt = In.later (arrow-at xs j (omega arith))

at-arrow : {x : ℕ} (xs : List ℕ) → In x xs → (j : ℕ) × (j < length xs) × (get_or xs j 0 ≡ x)
at-arrow (x ∷ xs) In.first = (0, omega arith, refl)
at-arrow (x ∷ xs) (In.later i) = let (j, lt, is) = at-arrow xs i in (suc j, omega arith, is)
at-arrow [] x'' = elim x'' [ ]

step : {h : Heap} {n from x : ℕ} → (from ≡ n) ⊎ Path h n from → Arrow x (at h from) → Path h n x
step {h} {n} {from} {x} (inl q) a = Path.one {n = n} (subst (λ (y : ℕ). Arrow x (at h y)) q a)
step (inr p) a = path_end p a

module _ {h : Heap} {from : ℕ} {seen : List Bool} {stack : List ℕ} {height : ℕ} {seen' : List Bool} {stack' : List ℕ} {top j : ℕ}
    (p : Putting h from seen stack height seen' stack' top j)
    (x : ℕ) (is : get_or (arrows_of (at h from)) j 0 ≡ x) where
  -- the j-th is seen already, or leads outside
  pub putting_on : (x < length h → Seen seen' x) → Putting h from seen stack height seen' stack' top (j + 1)
  putting_on here = record {
    same_seen = p.same_seen;
    same_stack = p.same_stack;
    sum = p.sum;
    more = p.more;
    first = λ i lt b c. by i (ℕ_discrete i j) lt b c;
    goes = p.goes;
  }
    where
      by : (i : ℕ) → Dec (i ≡ j) → i < j + 1 → i < length (arrows_of (at h from)) → get_or (arrows_of (at h from)) i 0 < length h → Seen seen'
          (get_or (arrows_of (at h from)) i 0)
      by i (yes q) lt b c =
          let same : get_or (arrows_of (at h from)) i 0 ≡ x = ap (λ (k : ℕ). get_or (arrows_of (at h from)) k 0) q ∙ is in
          subst (Seen seen') (sym same) (here (subst (λ (z : ℕ). z < length h) same c))
      by i (no q) lt b c = p.first i (elim (dec_lt i j) [ yes le ↦ le | no ge ↦ absurd (q (omega arith)) ]) b c

  -- or is put on the stack
  pub putting_push : j < length (arrows_of (at h from)) → x < length h → x < length seen' → top < length stack' → (Seen seen' x → ⊥)
      → Putting h from seen stack height (set seen' x true) (set stack' top x) (top + 1) (j + 1)
  putting_push lt inside there room other = record {
    same_seen = length-set seen' x true ∙ p.same_seen;
    same_stack = length-set stack' top x ∙ p.same_stack;
    sum = omega (arith, p.sum, unseen-less (length h) x seen' inside there other);
    more = λ y s. see_more seen' x y there (p.more y s);
    first = λ i lt b c. by i (ℕ_discrete i j) lt b c;
    goes = λ n from-n s.
        subst (Searching h n (λ y. y ≡ from) (set seen' x true) (set stack' top x)) (let z : suc top ≡ top + 1 = omega arith in z)
        (push x inside there room (step from-n (in_arrow (at h from)
        (subst (λ (y : ℕ). In y (arrows_of (at h from))) is (arrow-at (arrows_of (at h from)) j lt)))) (p.goes n from-n s));
  }
    where
      by : (i : ℕ) → Dec (i ≡ j) → i < j + 1 → i < length (arrows_of (at h from)) → get_or (arrows_of (at h from)) i 0 < length h
          → Seen (set seen' x true) (get_or (arrows_of (at h from)) i 0)
      by i (yes q) lt b c =
          subst (Seen (set seen' x true)) (sym (ap (λ (k : ℕ). get_or (arrows_of (at h from)) k 0) q ∙ is)) (get_or-set_same seen' x true false there)
      by i (no q) lt b c =
          see_more seen' x (get_or (arrows_of (at h from)) i 0) there (p.first i (elim (dec_lt i j) [ yes le ↦ le | no ge ↦ absurd (q (omega arith)) ]) b c)

-- all of them
pub putting_last : {h : Heap} {from : ℕ} {seen : List Bool} {stack : List ℕ} {height : ℕ} {seen' : List Bool} {stack' : List ℕ} {top j : ℕ}
    → Putting h from seen stack height seen' stack' top j
    → length (arrows_of (at h from)) ≤ j → Put h from seen stack height seen' stack' top
putting_last {h} {from} {seen' = seen'} {stack'} {top} {j} p le = record {
  same_seen = p.same_seen;
  same_stack = p.same_stack;
  sum = p.sum;
  more = p.more;
  all = all;
  goes = λ n from-n s. let t = p.goes n from-n s in record { reached = t.reached; stacked = t.stacked; done = λ y is. by y (t.done y is) };
}
  where
    all : AllSeen h seen' from
    all = record {
      each = λ x a lt.
          let (i, b, is) = at-arrow (arrows_of (at h from)) (arrow_in_lem (at h from) a) in
          subst (Seen seen') is (p.first i (omega arith) b (subst (λ (z : ℕ). z < length h) (sym is) lt));
    }

    by : (y : ℕ) → (y ≡ from) ⊎ (OnStack stack' top y ⊎ AllSeen h seen' y) → ⊥ ⊎ (OnStack stack' top y ⊎ AllSeen h seen' y)
    by y (inl q) = inr (inr (subst (AllSeen h seen') (sym q) all))
    by y (inr r) = inr r

-- ---- the stack

-- the top of the stack is taken off
pub pop : {h : Heap} {n : ℕ} {seen : List Bool} {stack : List ℕ} {k : ℕ} → Searching h n (λ y. ⊥) seen stack (suc k)
    → Searching h n (λ y. y ≡ get_or stack k 0) seen stack k
pop {h} {n} {seen} {stack} {k} s = record { reached = s.reached; stacked = λ i lt. s.stacked i (omega arith); done = λ y is. by y (s.done y is) }
  where
    by : (y : ℕ) → ⊥ ⊎ (OnStack stack (suc k) y ⊎ AllSeen h seen y) → (y ≡ get_or stack k 0) ⊎ (OnStack stack k y ⊎ AllSeen h seen y)
    by y (inl z) = absurd z
    by y (inr (inl (i, lt, is))) = on (ℕ_discrete i k)
      where
        on : Dec (i ≡ k) → (y ≡ get_or stack k 0) ⊎ (OnStack stack k y ⊎ AllSeen h seen y)
        on (yes q) = inl (sym is ∙ ap (λ (j : ℕ). get_or stack j 0) q)
        on (no q) = inr (inl (i, elim (dec_lt i k) [ yes le ↦ le | no ge ↦ absurd (q (omega arith)) ], is))
    by y (inr (inr all)) = inr (inr all)

-- nothing is seen yet
pub nothing_seen : {h : Heap} {n : ℕ} {seen : List Bool} {stack : List ℕ} → ((x : ℕ) → Seen seen x → ⊥) → Searching h n (λ y. y ≡ n) seen stack 0
nothing_seen none = record { reached = λ x is. absurd (none x is); stacked = λ i lt. absurd (omega arith); done = λ y is. absurd (none y is) }

-- in a row that says so of none, none is
pub none_seen : (k x : ℕ) → Seen (replicate k false) x → ⊥
none_seen zero x is = absurd (let z : ◌≡◌ {A = ℕ} 0 1 = cc in omega arith)
none_seen (suc k) zero is = absurd (let z : ◌≡◌ {A = ℕ} 0 1 = cc in omega arith)
none_seen (suc k) (suc x) is = none_seen k x is

-- what is seen stays so
pub all-on : {h : Heap} {seen seen' : List Bool} {y : ℕ} → ((x : ℕ) → Seen seen x → Seen seen' x) → AllSeen h seen y → AllSeen h seen' y
all-on more all = record { each = λ x a lt. more x (all.each x a lt) }

-- a node with an arrow is there
pub arrow-there : (h : Heap) (y : ℕ) {x : ℕ} → Arrow x (at h y) → y < length h
arrow-there h y a = there h y (λ z. none (subst (Arrow _) z a))
  where
    none : {x : ℕ} → ¬ Arrow x fail
    none = elim [ ]

path_there : {h : Heap} {y m : ℕ} → Path h y m → y < length h
path_there {h} {y} (Path.one a) = arrow-there h y a
path_there {h} {y} (Path.more a p) = arrow-there h y a

module _ (h : Heap) (n : ℕ) (seen : List Bool) (stack : List ℕ) (s : Searching h n (λ y. ⊥) seen stack 0) (begun : AllSeen h seen n) where
  -- where the stack is empty, all that is seen has its arrows seen
  closed : (y : ℕ) → Seen seen y → AllSeen h seen y
  closed y is = by (s.done y is)
    where
      by : ⊥ ⊎ (OnStack stack 0 y ⊎ AllSeen h seen y) → AllSeen h seen y
      by (inl z) = absurd z
      by (inr (inl (i, lt, e))) = absurd (omega arith)
      by (inr (inr all)) = all

  -- so all that is reached is seen
  reached-seen : {y m : ℕ} → AllSeen h seen y → Path h y m → m < length h → Seen seen m
  reached-seen all (Path.one {m = m} a) lt = all.each m a lt
  reached-seen all (Path.more {x = x} a p) lt = reached-seen (closed x (all.each x a (path_there p))) p lt

  -- THE SEARCH says whether a path returns
  pub seen-returns : Seen seen n → true ≡ returns h n
  seen-returns is = sym (path_returns h n (s.reached n is).1)

  pub not-seen-returns : n < length h → (Seen seen n → ⊥) → false ≡ returns h n
  not-seen-returns lt other = sym (not-passed (returns h n) (λ e. other (reached-seen begun (returns_path h n e) lt)))

-- while a node is not seen, there is room on the stack
pub stack_room : {h : Heap} {from : ℕ} {seen : List Bool} {stack : List ℕ} {height : ℕ} {seen' : List Bool} {stack' : List ℕ} {top j : ℕ} (used x : ℕ)
    → Putting h from seen stack height seen' stack' top j
    → length h ≡ used → Roomy used seen stack height → x < used → (Seen seen' x → ⊥) → (x < length seen') × (top < used) × (top < length stack')
stack_room {h} {seen = seen} {height = height} {seen' = seen'} {top = top} used x p sized roomy lt other =
    let there : x < length seen' = omega (arith, p.same_seen, roomy.long) in
    let some = unseen-less (length h) x seen' (omega arith) there other in
    let count : height + unseen (length h) seen ≤ used = subst (λ (k : ℕ). height + unseen k seen ≤ used) (sym sized) roomy.count in
    let low : top < used = omega (arith, p.sum, some, count) in
    (there, low, omega (arith, low, p.same_stack, roomy.high))

-- no more than all are not marked
pub unseen_most : (n : ℕ) (seen : List Bool) → unseen n seen ≤ n
unfolding unseen missing
unseen_most zero seen = omega arith
unseen_most (suc n) seen = by (get_or seen n false) (unseen_most n seen)
  where
    by : (b : Bool) → unseen n seen ≤ n → missing b + unseen n seen ≤ suc n
    by true le = omega arith
    by false le = omega arith

module _ {h : Heap} {from : ℕ} {seen : List Bool} {stack : List ℕ} {height : ℕ} {seen' : List Bool} {stack' : List ℕ} {top : ℕ} (used : ℕ)
    (p : Put h from seen stack height seen' stack' top) (sized : length h ≡ used) where
  -- the sum stays
  pub put-sum : top + unseen used seen' ≡ height + unseen used seen
  put-sum = subst (λ (k : ℕ). top + unseen k seen' ≡ height + unseen k seen) sized p.sum

  -- and so does the room
  pub put-room : Roomy used seen stack height → Roomy used seen' stack' top
  put-room r = record { long = omega (arith, p.same_seen, r.long); high = omega (arith, p.same_stack, r.high); count = omega (arith, put-sum, r.count) }

-- what the code answers in the end
pub search_says : (h : Heap) (n : ℕ) (seen : List Bool) (stack : List ℕ) (v : Bool) → Searching h n (λ y. ⊥) seen stack 0 → AllSeen h seen n → n < length h
    → v ≡ get_or seen n false → v ≡ returns h n
search_says h n seen stack true s all lt is = seen-returns h n seen stack s all (sym is)
search_says h n seen stack false s all lt is =
    not-seen-returns h n seen stack s all lt (λ z. absurd (let w : ◌≡◌ {A = ℕ} 0 1 = cc in omega arith))

-- the top of the stack is taken off: how the stack stood
pub taken : {h : Heap} {n : ℕ} {seen : List Bool} {stack : List ℕ} {height : ℕ} (stack' : List ℕ) (k : ℕ) → Searching h n (λ y. ⊥) seen stack height
    → stack' ≡ stack → height ≡ k + 1 → Searching h n (λ y. ⊥) seen stack' (suc k)
taken {h} {n} {seen} {stack} {height} stack' k s a b =
    let e : height ≡ suc k = omega arith in
    rw a (subst (Searching h n (λ y. ⊥) seen stack) e s)

-- ---- before the first is seen

pub roomy_none : (n used height : ℕ) (stack : List ℕ) → used ≤ n → stack ≡ replicate n 0 → height ≡ 0 → Roomy used (replicate n false) stack height
roomy_none n used height stack le is none = record {
  long = omega (arith, length-replicate {A = Bool} n false);
  high = omega (arith, length-replicate {A = ℕ} n 0, ap length is);
  count = omega (arith, unseen_most used (replicate n false));
}

pub searching_none : {h : Heap} (n k height : ℕ) (stack : List ℕ) → height ≡ 0 → Searching h n (λ y. y ≡ n) (replicate k false) stack height
searching_none {h} n k height stack none =
    subst (Searching h n (λ y. y ≡ n) (replicate k false) stack) (sym none) (nothing_seen (none_seen k))
