-- Sorts met, joined.
use mathlib.Core.Bool.{Bool, true, false}
use mathlib.Core.List.{List}
use mathlib.Core.Logic.{inl, inr, ◌≢◌}
use mathlib.Core.Path.{◌≡◌, refl, sym, ap, ap₂, subst, ◌∙◌}
use Prim.Native.Nat.{ℕ, zero, suc, ◌+◌, ◌<◌, ◌≤◌}
use native.Mathlib.Decide.{ℕ_discrete, dec_lt}
use native.Mathlib.Omega.{arith}
use borrow.Author.Tests.{eq-eqb, ne_eqb, lt-ltb, ltb-true}
use lib.Dec.{ltb}
use lib.ListN.{length, get_or, set, length-set, replicate}
use lib.Seq.{get_or-set_same, get_or-set_other}
use Rattle.symbols.specs.Symbols.{Symbols}
use Rattle.nodes.specs.Nodes.{Node, apply, choice, fail, forward, Heap, at}
use Rattle.sorts.specs.Sorts.{sort_of}
use Rattle.rewriting.proofs.Heaps.{there, apply≢fail, forward≢fail, choice≢fail}
use Rattle.accepted.specs.Accepted.{Meets}
use Rattle.judging.specs.declared.said.Said.{Said}
use Rattle.judging.specs.declared.said.Said.TheVariants.{Nothing, One, Several}
use Rattle.judging.specs.Sorts.{joined, met_by, Met, Says, Within, AllMet, left_of, all_left, MetMore, MetPassed}

-- ---- joining

join-same : (s t : ℕ) → s ≡ t → joined (One s) (One t) ≡ One s
unfolding joined
join-same s t e = ap (λ (b : Bool). elim b [ true ↦ One s | false ↦ Several ]) (eq-eqb s t e)

join-other : (s t : ℕ) → s ≢ t → joined (One s) (One t) ≡ Several
unfolding joined
join-other s t o = ap (λ (b : Bool). elim b [ true ↦ One s | false ↦ Several ]) (ne_eqb s t o)

-- what both say is so
join-says : {P : ℕ → Type 0} {a b : Said} → Says P a → Says P b → Says P (joined a b)
unfolding joined
join-says Says.nothing q = q
join-says (Says.one p) Says.nothing = Says.one p
join-says {P} (Says.one {s} p) (Says.one {s = t} q) = by (ℕ_discrete s t)
  where
    by : Dec (s ≡ t) → Says P (joined (One s) (One t))
    by (yes e) = rw (join-same s t e) (Says.one p)
    by (no o) = rw (join-other s t o) (Says.more o p q)
join-says (Says.one p) (Says.more o q q') = Says.more o q q'
join-says (Says.more o p p') q = Says.more o p p'

-- where a join changes nothing, the first covers what the second says
join_covers : (a b : Said) (s : ℕ) → joined a b ≡ a → Within s b → Within s a
unfolding joined
join_covers Nothing b s e (inl is) = absurd (let z : ◌≡◌ {A = ℕ} 0 1 = cc in omega arith)
join_covers Nothing b s e (inr is) = absurd (let z : ◌≡◌ {A = ℕ} 0 1 = cc in omega arith)
join_covers (One t) b s e (inl is) = by (ℕ_discrete t s) (rw is at e)
  where
    by : Dec (t ≡ s) → joined (One t) (One s) ≡ One t → Within s (One t)
    by (yes q) e = inl (ap One q)
    by (no q) e = inr (sym e ∙ join-other t s q)
join_covers (One t) b s e (inr is) = by (rw is at e)
  where
    by : joined (One t) Several ≡ One t → Within s (One t)
    by e = inr (sym e)
join_covers Several b s e is = inr refl

-- a join changes nothing, or it does
join-dec : (a b : Said) → Dec (joined a b ≡ a)
unfolding joined
join-dec Nothing Nothing = yes refl
join-dec Nothing (One t) = no (λ q. let z : ◌≡◌ {A = ℕ} 0 1 = cc in omega arith)
join-dec Nothing Several = no (λ q. let z : ◌≡◌ {A = ℕ} 0 1 = cc in omega arith)
join-dec (One s) Nothing = yes refl
join-dec (One s) (One t) = by (ℕ_discrete s t)
  where
    by : Dec (s ≡ t) → Dec (joined (One s) (One t) ≡ One s)
    by (yes e) = yes (join-same s t e)
    by (no o) = no (λ q. let r = sym (join-other s t o) ∙ q in let z : ◌≡◌ {A = ℕ} 0 1 = cc in omega arith)
join-dec (One s) Several = no (λ q. let z : ◌≡◌ {A = ℕ} 0 1 = cc in omega arith)
join-dec Several b = yes refl

-- a join leaves less to change if it changes something
join-less : (a b : Said) → (joined a b ≡ a → ⊥) → left_of (joined a b) < left_of a
unfolding joined left_of
join-less Nothing Nothing other = absurd (other refl)
join-less Nothing (One t) other = omega arith
join-less Nothing Several other = omega arith
join-less (One s) Nothing other = absurd (other refl)
join-less (One s) (One t) other = by (ℕ_discrete s t)
  where
    by : Dec (s ≡ t) → left_of (joined (One s) (One t)) < left_of (One s)
    by (yes e) = absurd (other (join-same s t e))
    by (no o) = rw (join-other s t o) (omega arith)
join-less (One s) Several other = omega arith
join-less Several b other = absurd (other refl)

-- never more is left
join-least : (a b : Said) → left_of (joined a b) ≤ left_of a
join-least a b = by (join-dec a b)
  where
    by : Dec (joined a b ≡ a) → left_of (joined a b) ≤ left_of a
    by (yes q) = rw q (omega arith)
    by (no q) = omega (arith, join-less a b q)

-- two joins that change nothing: neither changes anything
join-both : (a b c : Said) → joined (joined a b) c ≡ a → (joined a b ≡ a) × (joined a c ≡ a)
join-both a b c e = by (join-dec a b)
  where
    by : Dec (joined a b ≡ a) → (joined a b ≡ a) × (joined a c ≡ a)
    by (yes q) = (q, ap (λ (x : Said). joined x c) (sym q) ∙ e)
    by (no q) = absurd (omega (arith, join-less a b q, join-least (joined a b) c, ap left_of e))

-- two joins that change something leave less
both-less : (a b c : Said) → (joined (joined a b) c ≡ a → ⊥) → left_of (joined (joined a b) c) < left_of a
both-less a b c other = by (join-dec a b)
  where
    by : Dec (joined a b ≡ a) → left_of (joined (joined a b) c) < left_of a
    by (yes q) = rw q (join-less a c (λ z. other (ap (λ (x : Said). joined x c) q ∙ z)))
    by (no q) = omega (arith, join-less a b q, join-least (joined a b) c)

-- ---- what is said of a node

-- what is said of one is said of another
says_on : {P Q : ℕ → Type 0} {v : Said} → ((s : ℕ) → P s → Q s) → Says P v → Says Q v
says_on f Says.nothing = Says.nothing
says_on f (Says.one {s} p) = Says.one (f s p)
says_on f (Says.more {s} {t} o p q) = Says.more o (f s p) (f t q)

module _ (S : Symbols) (h : Heap) where
  -- along an arrow
  met-on : {n t s : ℕ} → ((m : ℕ) → Meets h t m → Meets h n m) → Met S h t s → Met S h n s
  met-on on x = record {
    node = x.node;
    symbol = x.symbol;
    arguments = x.arguments;
    meets = on x.node
        x.meets;
    is = x.is;
    known = x.known;
    sorted = x.sorted;
  }

  module _ (met : List Said) (says : (n : ℕ) → Says (Met S h n) (get_or met n Nothing)) where
    -- what is said anew of node n is so
    anew_says : (n : ℕ) (x : Node) → at h n ≡ x → Says (Met S h n) (met_by S met (get_or met n Nothing) x)
    unfolding met_by
    anew_says n (apply f xs) is = by (ltb f (length S)) refl
      where
        by : (b : Bool) → ltb f (length S) ≡ b → Says (Met S h n) (elim b [
          | true ↦ joined (get_or met n Nothing)
              (One (sort_of S f))
          | false ↦ get_or met n Nothing
        ])
        by true q = join-says (says n) (Says.one
            (record { node = n; symbol = f; arguments = xs; meets = Meets.here; is = is; known = ltb-true _ _ q; sorted = refl }))
        by false q = says n
    anew_says n (choice i l r) is =
        join-says (join-says (says n) (says_on (λ s. met-on (λ m p. Meets.left is p)) (says l))) (says_on (λ s. met-on (λ m p. Meets.right is p)) (says r))
    anew_says n fail is = says n
    anew_says n (forward t) is = join-says (says n) (says_on (λ s. met-on (λ m p. Meets.along is p)) (says t))

    -- and leaves less to change, if it is something else
    anew_less : (n : ℕ) (x : Node) → (met_by S met (get_or met n Nothing) x ≡ get_or met n Nothing → ⊥)
        → left_of (met_by S met (get_or met n Nothing) x) < left_of (get_or met n Nothing)
    unfolding met_by
    anew_less n (apply f xs) other = by (ltb f (length S)) other
      where
        by : (b : Bool) → (elim b [ true ↦ joined (get_or met n Nothing) (One (sort_of S f)) | false ↦ get_or met n Nothing ] ≡ get_or met n Nothing → ⊥)
            → left_of (elim b [ true ↦ joined (get_or met n Nothing) (One (sort_of S f)) | false ↦ get_or met n Nothing ]) < left_of (get_or met n Nothing)
        by true o = join-less (get_or met n Nothing) (One (sort_of S f)) o
        by false o = absurd (o refl)
    anew_less n (choice i l r) other =
        both-less (get_or met n Nothing) (get_or met l Nothing) (get_or met r Nothing) other
    anew_less n fail other = absurd (other refl)
    anew_less n (forward t) other = join-less (get_or met n Nothing) (get_or met t Nothing) other

    -- where nothing changes, all that is met is said
    closed-met : ((n : ℕ) → n < length h → met_by S met (get_or met n Nothing) (at h n) ≡ get_or met n Nothing) → {n m f : ℕ} {xs : List ℕ} → Meets h n m
        → at h m ≡ apply f xs
        → f < length S → Within (sort_of S f) (get_or met n Nothing)
    unfolding met_by
    closed-met closed {n} {f = f} {xs} Meets.here is known =
        join_covers (get_or met n Nothing) (One (sort_of S f)) (sort_of S f) (by (closed n (there h n (apply≢fail is)))) (inl refl)
      where
        by : met_by S met (get_or met n Nothing) (at h n) ≡ get_or met n Nothing → joined (get_or met n Nothing) (One (sort_of S f)) ≡ get_or met n Nothing
        by e = rw (is, lt-ltb f (length S) known, met_by) at e
    closed-met closed {n} {f = f} (Meets.along {t = t} e p) is known =
        join_covers (get_or met n Nothing) (get_or met t Nothing) (sort_of S f) (rw (e, met_by) at (closed n (there h n (forward≢fail e))))
        (closed-met closed p is known)
    closed-met closed {n} {f = f} (Meets.left {l = l} {r} e p) is known =
        join_covers (get_or met n Nothing) (get_or met l Nothing) (sort_of S f)
        (join-both (get_or met n Nothing) (get_or met l Nothing) (get_or met r Nothing)
        (rw (e, met_by) at (closed n (there h n (choice≢fail e))))).0
        (closed-met closed p is known)
    closed-met closed {n} {f = f} (Meets.right {l = l} {r} e p) is known =
        join_covers (get_or met n Nothing) (get_or met r Nothing) (sort_of S f)
        (join-both (get_or met n Nothing) (get_or met l Nothing) (get_or met r Nothing)
        (rw (e, met_by) at (closed n (there h n (choice≢fail e))))).1
        (closed-met closed p is known)

-- ---- one pass

all-left-past : (n i : ℕ) (v : Said) (met : List Said) → n ≤ i → all_left n (set met i v) ≡ all_left n met
unfolding all_left
all-left-past zero i v met le = refl
all-left-past (suc n) i v met le = ap₂ ◌+◌ (ap left_of (get_or-set_other met i n v Nothing (λ q. omega arith))) (all-left-past n i v met (omega arith))

all-left-less : (n i : ℕ) (v : Said) (met : List Said) → i < n → i < length met → left_of v < left_of (get_or met i Nothing)
    → all_left n (set met i v) < all_left n met
unfolding all_left
all-left-less zero i v met lt inside less = absurd (omega arith)
all-left-less (suc n) i v met lt inside less = by (ℕ_discrete n i) (λ lt. all-left-less n i v met lt inside less)
  where
    by : Dec (n ≡ i) → (i < n → all_left n (set met i v) < all_left n met)
        → left_of (get_or (set met i v) n Nothing) + all_left n (set met i v) < left_of (get_or met n Nothing) + all_left n met
    by (yes q) ih =
        let now : left_of (get_or (set met i v) n Nothing) ≡ left_of v =
        ap left_of (ap (λ (k : ℕ). get_or (set met i v) k Nothing) q ∙ get_or-set_same met i v Nothing inside) in
        let was : left_of (get_or met n Nothing) ≡ left_of (get_or met i Nothing) = ap (λ (k : ℕ). left_of (get_or met k Nothing)) q in
        omega (arith, now, was, less, all-left-past n i v met (omega arith))
    by (no q) ih = omega (arith, ap left_of (get_or-set_other met i n v Nothing q), ih (between n i lt q))
      where
        between : (n i : ℕ) → i < suc n → (n ≡ i → ⊥) → i < n
        between n i lt q = elim (dec_lt i n) [ yes le ↦ le | no ge ↦ absurd (q (omega arith)) ]

-- a node of which something is said anew
module _ (S : Symbols) (h : Heap) (now : List Said) (says : (k : ℕ) → Says (Met S h k) (get_or now k Nothing)) (n : ℕ) (v : Said)
    (inside : n < length now) (is : v ≡ met_by S now (get_or now n Nothing) (at h n)) where
  set_says : (k : ℕ) → Says (Met S h k) (get_or (set now n v) k Nothing)
  set_says k = by (ℕ_discrete k n)
    where
      by : Dec (k ≡ n) → Says (Met S h k) (get_or (set now n v) k Nothing)
      by (yes q) =
          subst (λ (j : ℕ). Says (Met S h j) (get_or (set now n v) j Nothing)) (sym q)
          (rw (get_or-set_same now n v Nothing inside, is) (anew_says S h now says n (at h n) refl))
      by (no q) = rw (get_or-set_other now n k v Nothing q) (says k)

  set-fewer : n < length h → (v ≡ get_or now n Nothing → ⊥) → all_left (length h) (set now n v) < all_left (length h) now
  set-fewer lt other =
      let less : left_of v < left_of (get_or now n Nothing) = rw is (anew_less S h now says n (at h n) (λ z. other (is ∙ z))) in
      all-left-less (length h) n v now lt inside less

-- ---- said anew, one after the other

pub more-first : (S : Symbols) (h : Heap) (met : List Said) → ((k : ℕ) → Says (Met S h k) (get_or met k Nothing)) → MetMore S h met met
more-first S h met says = record { long = refl; says = says; least = omega arith }

pub more_mark : (S : Symbols) {h : Heap} {before now : List Said} (n : ℕ) (v : Said) → MetMore S h before now
    → n < length h → n < length now
    → v ≡ met_by S now (get_or now n Nothing) (at h n) → (v ≡ get_or now n Nothing → ⊥) → MetMore S h before (set now n v)
more_mark S {h} {before} {now} n v p lt inside is other = record {
  long = length-set now n v ∙ p.long;
  says = set_says S h now p.says n v inside is;
  least = omega (arith, set-fewer S h now p.says n v inside is lt other, p.least);
}

pub more-on : {S : Symbols} {h : Heap} {a b c : List Said} → MetMore S h a b → MetMore S h b c → MetMore S h a c
more-on p q = record { long = q.long ∙ p.long; says = q.says; least = omega (arith, p.least, q.least) }

-- ---- down from the last

-- a pass that has come down to node n
pub record Meeting (S : Symbols) (h : Heap) (before now : List Said) (changed : Bool) (n : ℕ) : Type 0 where
  pub down : n ≤ length h
  pub room : length h ≤ length now
  pub long : length now ≡ length before
  pub says : (k : ℕ) → Says (Met S h k) (get_or now k Nothing)
  pub least : all_left (length h) now ≤ all_left (length h) before
  pub fewer : changed ≡ true → all_left (length h) now < all_left (length h) before
  pub same : changed ≡ false → now ≡ before
  pub closed : changed ≡ false → (k : ℕ) → n ≤ k → k < length h → met_by S now (get_or now k Nothing) (at h k) ≡ get_or now k Nothing

pub meeting_first : (S : Symbols) (h : Heap) (met : List Said) → length h ≤ length met → ((k : ℕ) → Says (Met S h k) (get_or met k Nothing))
    → Meeting S h met met false (length h)
meeting_first S h met room says = record {
  down = omega arith;
  room = room;
  long = refl;
  says = says;
  least = omega arith;
  fewer = λ q. absurd (let z : ◌≡◌ {A = ℕ} 0 1 = cc in omega arith);
  same = λ q. refl;
  closed = λ q k le lt. absurd (omega arith);
}

module _ (S : Symbols) {h : Heap} {before now : List Said} {changed : Bool} {n : ℕ}
    (p : Meeting S h before now changed (suc n)) where
  -- nothing new is met from node n
  pub meeting_on : met_by S now (get_or now n Nothing) (at h n) ≡ get_or now n Nothing → Meeting S h before now changed n
  meeting_on here = record {
    down = omega (arith, p.down);
    room = p.room;
    long = p.long;
    says = p.says;
    least = p.least;
    fewer = p.fewer;
    same = p.same;
    closed = λ q k le lt. by q k (ℕ_discrete k n) le lt;
  }
    where
      by : changed ≡ false → (k : ℕ) → Dec (k ≡ n) → n ≤ k → k < length h → met_by S now (get_or now k Nothing) (at h k) ≡ get_or now k Nothing
      by q k (yes is) le lt = subst (λ (j : ℕ). met_by S now (get_or now j Nothing) (at h j) ≡ get_or now j Nothing) (sym is) here
      by q k (no other) le lt = p.closed q k (elim (dec_lt n k) [ yes lt ↦ lt | no ge ↦ absurd (other (omega arith)) ]) lt

  -- or something is
  pub meeting_mark : (v : Said) → v ≡ met_by S now (get_or now n Nothing) (at h n) → (v ≡ get_or now n Nothing → ⊥) → Meeting S h before (set now n v) true n
  meeting_mark v is other =
      let inside : n < length now = omega (arith, p.down, p.room) in
      let fewer = set-fewer S h now p.says n v inside is (omega (arith, p.down)) other in
      record {
        down = omega (arith, p.down);
        room = rw length-set p.room;
        long = length-set now n v ∙ p.long;
        says = set_says S h now p.says n v inside is;
        least = omega (arith, fewer, p.least);
        fewer = λ q. omega (arith, fewer, p.least);
        same = λ q. absurd (let z : ◌≡◌ {A = ℕ} 0 1 = cc in omega arith);
        closed = λ q. absurd (let z : ◌≡◌ {A = ℕ} 0 1 = cc in omega arith);
      }

-- it ends before the first
pub meeting_last : {S : Symbols} {h : Heap} {before now : List Said} {changed : Bool} → Meeting S h before now changed 0 → MetPassed S h before now changed
meeting_last p = record { long = p.long; says = p.says; fewer = p.fewer; same = p.same; closed = λ q k lt. p.closed q k (omega arith) lt }

-- passes until one changes nothing
pub all-met : (S : Symbols) (h : Heap) (met : List Said) → ((n : ℕ) → Says (Met S h n) (get_or met n Nothing))
    → ((n : ℕ) → n < length h → met_by S met (get_or met n Nothing) (at h n) ≡ get_or met n Nothing) → AllMet S h met
all-met S h met says closed = record {
  says = says;
  all = λ n s x. rw x.sorted at (closed-met S h met says closed x.meets x.is x.known);
}

-- of a row of zeros nothing is said
pub nothing_said : {P : ℕ → Type 0} (k n : ℕ) → Says P (get_or (replicate k Nothing) n Nothing)
nothing_said zero n = Says.nothing
nothing_said (suc k) zero = Says.nothing
nothing_said (suc k) (suc n) = nothing_said k n
