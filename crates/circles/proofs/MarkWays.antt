-- Marks, the search for a shortest circle, and the way round it.
use mathlib.Core.Bool.{Bool, true, false, ◌||◌, ◌&&◌}
use mathlib.Core.Path.{◌≡◌, refl, sym, ap, ◌∙◌}
use mathlib.Core.Option.{none, some}
use mathlib.Core.List.{List, [], ◌∷◌}
use Prim.Native.Nat.{ℕ, zero, suc, min, ◌+◌, ◌-◌, ◌≤◌, ◌<◌}
use native.Mathlib.Omega.{arith}
use native.Mathlib.Nat.{not-suc-le-zero}
use native.Mathlib.Decide.{dec_lt, ℕ_discrete}
use borrow.Author.Tests.{le-leb, lt-leb}
use lib.Dec.{leb}
use lib.ListN.{length, get_or, set, replicate, length-map, length-set, length-replicate}
use lib.Seq.{get_or-set_same, get_or-set_other}
use Rattle.tagged.specs.Listing.{Broader}
use Rattle.tagged.specs.Hops.{broader_of, Hops, here as no-hop, hop as one-hop}
use Rattle.tagged.specs.Circle.{some_marked, mark_at, below, returns, first_return, lowest, way_to, shortest_from, circle}
use Rattle.terms.specs.Places.{bytes_of}
use Rattle.circles.specs.Saving.{SameMarks, HopFrom, HopsFrom, still, step, LowestAs, lower_of, BackIn, way_from}
use Rattle.tagged.proofs.FirstCircle.{some-marked, marked-some, below_more, marked_hops, hops_marked, hops_returns}
use Rattle.circles.proofs.MarkHops.{not-returned, last_hops, from_low}
use Rattle.circles.proofs.SavingRows.{terms-more, terms-none, all_none}

-- ---- some marked, term by term

module _ (marks : List Bool) (to : List ℕ) (i e : ℕ) where
  some_more : i < e → e ≤ length to → some_marked marks (bytes_of to i e) ≡ (get_or marks (get_or to i 0) false || some_marked marks (bytes_of to (i + 1) e))
  unfolding some_marked
  some_more low within = ap (some_marked marks) (terms-more to i e low within)

  pub some-here : i < e → e ≤ length to → get_or marks (get_or to i 0) false ≡ true → some_marked marks (bytes_of to i e) ≡ true
  some-here low within is = some_more low within ∙ rw is refl

  pub some-later : i < e → e ≤ length to → get_or marks (get_or to i 0) false ≡ false
      → some_marked marks (bytes_of to i e) ≡ some_marked marks (bytes_of to (i + 1) e)
  some-later low within is = some_more low within ∙ rw is refl

  pub some-none : e ≤ i → some_marked marks (bytes_of to i e) ≡ false
  unfolding some_marked
  some-none le = ap (some_marked marks) (terms-none to i e le)

  -- ---- the lowest, term by term

  pub lowest-more : i < e → e ≤ length to
      → lowest marks (bytes_of to i e) ≡ lower_of (get_or marks (get_or to i 0) false) (get_or to i 0) (lowest marks (bytes_of to (i + 1) e))
  unfolding lowest
  lowest-more low within = ap (lowest marks) (terms-more to i e low within) ∙ by (get_or marks (get_or to i 0) false) refl
    where
      by : (t : Bool) → get_or marks (get_or to i 0) false ≡ t
          → lowest marks (get_or to i 0 ∷ bytes_of to (i + 1) e) ≡ lower_of t (get_or to i 0) (lowest marks (bytes_of to (i + 1) e))
      by true is = rw (is, lowest) refl
      by false is = rw (is, lowest) refl

  pub lowest-none : e ≤ i → lowest marks (bytes_of to i e) ≡ length marks
  unfolding lowest
  lowest-none le = ap (lowest marks) (terms-none to i e le)

-- the lower of two, in either order
pub lower-turn : (t : Bool) (b low rest : ℕ) → min low (lower_of t b rest) ≡ min (lower_of t b low) rest
lower-turn true b low rest = omega arith
lower-turn false b low rest = omega arith

pub lower-less : (t : Bool) (b low : ℕ) → lower_of t b low ≤ low
lower-less true b low = omega arith
lower-less false b low = omega arith

pub lowest-within : (marks : List Bool) (bs : List ℕ) → lowest marks bs ≤ length marks
unfolding lowest
lowest-within marks [] = omega arith
lowest-within marks (b ∷ bs) = by (get_or marks b false) refl (lowest-within marks bs)
  where
    by : (t : Bool) → get_or marks b false ≡ t → lowest marks bs ≤ length marks → lowest marks (b ∷ bs) ≤ length marks
    by true is le = rw (is, lowest) (omega arith)
    by false is le = rw (is, lowest) le

-- no term
pub lowest_nobody : (marks : List Bool) (bs : List ℕ) → bs ≡ [] → lowest marks bs ≡ length marks
unfolding lowest
lowest_nobody marks bs is = ap (lowest marks) is

-- ---- the same marks

some_same : (a b : List Bool) (bs : List ℕ) → SameMarks a b → some_marked a bs ≡ some_marked b bs
unfolding some_marked
some_same a b [] same = refl
some_same a b (x ∷ bs) same = rw (same x, some_same a b bs same) refl

pub some_nobody : (marks : List Bool) (bs : List ℕ) → bs ≡ [] → some_marked marks bs ≡ false
unfolding some_marked
some_nobody marks bs is = ap (some_marked marks) is

-- one hop from `low` on
pub hop-low : (low y : ℕ) (t : Bool) → y < low → (leb low y && t) ≡ false
hop-low low y t less = rw (lt-leb low y less) refl

pub hop-high : (low y : ℕ) (r t : Bool) → low ≤ y → r ≡ t → r ≡ (leb low y && t)
hop-high low y r t le is = rw (le-leb low y le) is

pub hop-past : (low y : ℕ) (marks : List Bool) (bs : List ℕ) → bs ≡ [] → (leb low y && some_marked marks bs) ≡ false
hop-past low y marks bs is = rw (some_nobody marks bs is) (by (leb low y))
  where
    by : (t : Bool) → (t && false) ≡ false
    by true = refl
    by false = refl

-- a mark at x alone, of more headings
pub mark_same : (m n x : ℕ) → x < n → n ≤ m → SameMarks (set (replicate m false) x true) (mark_at n x)
unfolding mark_at
mark_same m n x low le y = by (ℕ_discrete y x)
  where
    by : Dec (y ≡ x) → get_or (set (replicate m false) x true) y false ≡ get_or (set (replicate n false) x true) y false
    by (yes is) =
        let long : x < length (replicate m false) = simp length-replicate (omega arith) in
        let short : x < length (replicate n false) = simp length-replicate low in
        rw is (get_or-set_same (replicate m false) x true false long ∙ sym (get_or-set_same (replicate n false) x true false short))
    by (no differs) =
        get_or-set_other (replicate m false) x y true false differs ∙ all_none false m y
        ∙ sym (get_or-set_other (replicate n false) x y true false differs ∙ all_none false n y)

module _ (broader : Broader) where
  abbrev n : ℕ
  n = length broader

  below-long : (x k : ℕ) → length (below broader x k) ≡ n
  unfolding below mark_at
  below-long x zero = length-set (replicate n false) x true ∙ length-replicate n false
  below-long x (suc k) = length-map broader (some_marked (below broader x k))

  pub below_none : (x m : ℕ) (marks : List Bool) → n ≡ m → SameMarks marks (mark_at m x) → SameMarks marks (below broader x 0)
  unfolding below
  below_none x m marks long same y = same y ∙ ap (λ (j : ℕ). get_or (mark_at j x) y false) (sym long)

  pub hop-below : (x k : ℕ) (marks next : List Bool) → SameMarks marks (below broader x k) → HopFrom broader 0 marks next
      → SameMarks next (below broader x (suc k))
  hop-below x k marks next same hop y =
      let any : leb 0 y ≡ true = le-leb 0 y (omega arith) in
      hop y ∙ rw any (some_same marks (below broader x k) (broader_of broader y) same ∙ sym (below_more broader x k y))

  -- ---- when a heading is reached from itself, by headings no lower

  -- marked are headings from which x is reached in one hop less, among them all that reach it by headings no lower; x was not so reached so far
  pub record Backed (x k : ℕ) (marks : List Bool) : Type 0 where
    pub any : 1 ≤ k
    pub sound : (y : ℕ) → get_or marks y false ≡ true → Hops broader (k - 1) y x
    pub full : (y : ℕ) → HopsFrom broader x (k - 1) y x → get_or marks y false ≡ true
    pub before : (j : ℕ) → 1 ≤ j → j < k → HopsFrom broader x j x x → ⊥

  pub backed_none : (x : ℕ) (marks : List Bool) → x < n → SameMarks marks (below broader x 0) → Backed x 1 marks
  backed_none x marks low same = record {
    any = omega arith;
    sound = λ y is. marked_hops broader x 0 y (sym (same y) ∙ is);
    full = λ y hops. own y hops;
    before = λ j any less. absurd (omega arith);
  }
    where
      own : (y : ℕ) → HopsFrom broader x 0 y x → get_or marks y false ≡ true
      own y still = same x ∙ hops_marked broader x low 0 no-hop

  module _ (x k : ℕ) (marks next : List Bool) (b : Backed x k marks) (hopped : HopFrom broader x marks next) where
    both : (t u : Bool) → (t && u) ≡ true → u ≡ true
    both true u is = is
    both false u is = absurd (let z : ◌≡◌ {A = ℕ} 0 1 = cc in omega arith)

    next-sound : (y : ℕ) → get_or next y false ≡ true → Hops broader k y x
    next-sound y is =
        let (c, there, mark) = some-marked marks (broader_of broader y) (both (leb x y) (some_marked marks (broader_of broader y)) (sym (hopped y) ∙ is)) in
        let e : suc (k - 1) ≡ k = omega (arith, b.any) in
        rw e at (one-hop there (b.sound c mark))

    next-full : (y j : ℕ) → j ≡ k → HopsFrom broader x j y x → get_or next y false ≡ true
    next-full y zero is still = absurd (omega (arith, b.any))
    next-full y (suc j) is (step {y = c} le there more) =
        let e : j ≡ k - 1 = omega arith in
        let mark = b.full c (rw e at more) in
        let high : leb x y ≡ true = le-leb x y le in
        hopped y ∙ rw high (marked-some marks there mark)

    pub backed_is : get_or next x false ≡ true → returns broader k x ≡ true
    backed_is is =
        let e : suc (k - 1) ≡ k = omega (arith, b.any) in
        rw e at (hops_returns broader (k - 1) x (rw (sym e) at (next-sound x is)))

    unmarked : (y : ℕ) → get_or next y false ≡ false → HopsFrom broader x k y x → ⊥
    unmarked y is hops = let z : ◌≡◌ {A = ℕ} 0 1 = cc (next-full y k refl hops) in omega arith

    pub backed_more : get_or next x false ≡ false → Backed x (k + 1) next
    backed_more is = record {
      any = omega arith;
      sound = λ y mark. let e : k + 1 - 1 ≡ k = omega arith in rw e (next-sound y mark);
      full = λ y hops. next-full y (k + 1 - 1) (omega arith) hops;
      before = λ j any low hops. by j any low hops (ℕ_discrete j k);
    }
      where
        by : (j : ℕ) → 1 ≤ j → j < k + 1 → HopsFrom broader x j x x → Dec (j ≡ k) → ⊥
        by j any low hops (yes e) = unmarked x is (rw e at hops)
        by j any low hops (no differs) = b.before j any (omega arith) hops

    -- where no heading is marked, x is not so reached in more hops either
    pub backed_over : (m : ℕ) → n ≡ m → ((y : ℕ) → y < m → get_or next y false ≡ false) → (j : ℕ) → 1 ≤ j → HopsFrom broader x j x x → ⊥
    backed_over m long empty j any hops = by (dec_lt j k)
      where
        nobody : (y i : ℕ) → k ≡ suc i → HopsFrom broader x k y x → ⊥
        nobody y i is last = unmarked y (empty y (omega (arith, from_low broader (rw is at last)))) last

        by : Dec (j < k) → ⊥
        by (yes less) = b.before j any less hops
        by (no more) =
            let (y, last) = last_hops broader x (j - k) j k (omega arith) hops in
            nobody y (k - 1) (omega (arith, b.any)) last

  -- ---- the search

  none_first : (k count x : ℕ) → ((y : ℕ) → y < x + count → returns broader k y ≡ false) → first_return broader k count x ≡ none
  unfolding first_return
  none_first k zero x nobody = refl
  none_first k (suc count) x nobody = rw (nobody x (omega arith), first_return) (none_first k count (suc x) (λ y low. nobody y (omega arith)))

  some_first : (k count x s : ℕ) → x ≤ s → s < x + count → returns broader k s ≡ true → ((y : ℕ) → y < s → returns broader k y ≡ false)
      → first_return broader k count x ≡ some s
  unfolding first_return
  some_first k zero x s le low is nobody = absurd (omega arith)
  some_first k (suc count) x s le low is nobody = by (ℕ_discrete x s) (λ le low. some_first k count (suc x) s le low is nobody)
    where
      by : Dec (x ≡ s) → (suc x ≤ s → s < suc x + count → first_return broader k count (suc x) ≡ some s) → first_return broader k (suc count) x ≡ some s
      by (yes e) rest = let at_x : returns broader k x ≡ true = rw e is in rw (at_x, first_return) (ap some e)
      by (no differs) rest = rw (nobody x (omega arith), first_return) (rest (omega arith) (omega arith))

  abbrev Unreturned : ℕ → ℕ → Type 0
  Unreturned end hops = (y k : ℕ) → y < end → 1 ≤ k → k < hops → returns broader k y ≡ false

  module _ (hops : ℕ) (nobody : Unreturned n hops) where
    none-at : (k : ℕ) → 1 ≤ k → k < hops → first_return broader k n 0 ≡ none
    none-at k any low = none_first k n 0 (λ y less. nobody y k (omega arith) any low)

    shortest-at : (bound k s : ℕ) → 1 ≤ k → k ≤ hops → hops < k + bound → first_return broader hops n 0 ≡ some s
        → shortest_from broader bound k ≡ some (s ∷ way_to broader s hops s)
    unfolding shortest_from
    shortest-at zero k s any le low is = absurd (omega arith)
    shortest-at (suc bound) k s any le low is = by (ℕ_discrete k hops) (λ any le low. shortest-at bound (suc k) s any le low is)
      where
        by : Dec (k ≡ hops) → (1 ≤ suc k → suc k ≤ hops → hops < suc k + bound → shortest_from broader bound (suc k) ≡ some (s ∷ way_to broader s hops s))
            → shortest_from broader (suc bound) k ≡ some (s ∷ way_to broader s hops s)
        by (yes e) rest = let at-k : first_return broader k n 0 ≡ some s = rw e is in rw (at-k, shortest_from) (rw e refl)
        by (no differs) rest = rw (none-at k any (omega arith), shortest_from) (rest (omega arith) (omega arith) (omega arith))

    shortest-none : (bound k : ℕ) → 1 ≤ k → k + bound ≤ hops → shortest_from broader bound k ≡ none
    unfolding shortest_from
    shortest-none zero k any le = refl
    shortest-none (suc bound) k any le = rw (none-at k any (omega arith), shortest_from) (shortest-none bound (suc k) (omega arith) (omega arith))

  -- what is known before heading `end`: none is reached from itself in fewer hops by headings no lower, and, once one was found, it is the first in so many
  pub record Sought (end hops first : ℕ) : Type 0 where
    pub any : 1 ≤ hops
    pub within : hops ≤ n + 1
    pub nobody : (y k : ℕ) → y < end → 1 ≤ k → k < hops → HopsFrom broader y k y y → ⊥
    pub there : hops ≤ n → first < n
    pub is : hops ≤ n → returns broader hops first ≡ true
    pub lower : hops ≤ n → (y : ℕ) → y < first → HopsFrom broader y hops y y → ⊥

  module _ (hops first : ℕ) (s : Sought n hops first) where
    sought_unreturned : Unreturned n hops
    sought_unreturned y k low any less = not-returned broader k y (λ z le. s.nobody z k (omega arith) any less)

    sought_lower : hops ≤ n → (y : ℕ) → y < first → returns broader hops y ≡ false
    sought_lower le y low = not-returned broader hops y (λ z under. s.lower le z (omega arith))

  pub sought_found : (hops first : ℕ) → Sought n hops first → hops ≤ n → circle broader ≡ some (first ∷ way_to broader first hops first)
  unfolding circle
  sought_found hops first s le =
      shortest-at hops (sought_unreturned hops first s) n 1 first (omega arith) s.any (omega arith)
      (some_first hops n 0 first (omega arith) (omega (arith, s.there le)) (s.is le) (sought_lower hops first s le))

  pub sought_missing : (hops first : ℕ) → Sought n hops first → n < hops → circle broader ≡ none
  unfolding circle
  sought_missing hops first s le = shortest-none hops (sought_unreturned hops first s) n 1 (omega arith) (omega arith)

  pub sought_none : (hops : ℕ) → hops ≡ n + 1 → Sought 0 hops 0
  sought_none hops is = record {
    any = omega arith;
    within = omega arith;
    nobody = λ y k less. absurd (not-suc-le-zero less);
    there = λ le. absurd (omega arith);
    is = λ le. absurd (omega arith);
    lower = λ le. absurd (omega arith);
  }

  module _ (x hops first k : ℕ) (s : Sought x hops first) (b : BackIn broader x hops k) where
    -- one heading more that returns in no fewer hops
    unreturned : (y j : ℕ) → y < x + 1 → 1 ≤ j → j < k → HopsFrom broader y j y y → ⊥
    unreturned y j low any less hops = by (ℕ_discrete y x)
      where
        by : Dec (y ≡ x) → ⊥
        by (yes e) = b.before j any less (rw e at hops)
        by (no differs) = s.nobody y j (omega arith) any (omega (arith, b.within)) hops

    pub sought_same : hops ≤ k → Sought (x + 1) hops first
    sought_same le = record {
      any = s.any;
      within = s.within;
      nobody = λ y j low any less. unreturned y j low any (omega arith);
      there = s.there;
      is = s.is;
      lower = s.lower;
    }

    pub sought_shorter : k < hops → x < n → Sought (x + 1) k x
    sought_shorter less low = record {
      any = b.any;
      within = omega (arith, s.within);
      nobody = unreturned;
      there = λ le. low;
      is = λ le. b.back less;
      lower = λ le y lower. s.nobody y k lower b.any less;
    }

  -- ---- the way round

  pub way-start : (x hops : ℕ) → 1 ≤ hops → x ∷ way_to broader x hops x ≡ way_from broader x hops x
  unfolding way_from
  way-start x zero any = absurd (not-suc-le-zero any)
  way-start x (suc hops) any = refl

  way_on : (x left here : ℕ) → way_from broader x (suc left) here ≡ here ∷ way_from broader x left (lowest (below broader x left) (broader_of broader here))
  unfolding way_from way_to
  way_on x zero here = refl
  way_on x (suc left) here = refl

  pub way-length : (x left here : ℕ) → length (way_from broader x left here) ≡ left
  unfolding way_from
  way-length x zero here = refl
  way-length x (suc left) here = ap length (way_on x left here) ∙ ap suc (way-length x left (lowest (below broader x left) (broader_of broader here)))

  -- as the code has it: m headings, and the lowest of the marks
  module _ (x left here next m : ℕ) (marks : List Bool) (long : n ≡ m) (same : SameMarks marks (below broader x left))
      (low : LowestAs broader m marks here next) where
    next-is : next ≡ lowest (below broader x left) (broader_of broader here)
    next-is = low (below broader x left) same (below-long x left ∙ long)

    pub next_low : next ≤ m
    next_low = omega (arith, next-is, lowest-within (below broader x left) (broader_of broader here), below-long x left)

    pub way-more : (before after : ℕ) → before ≡ left + 1 → after ≡ left → way_from broader x before here ≡ here ∷ way_from broader x after next
    way-more before after is-before is-after =
        let e : before ≡ suc left = omega arith in
        rw (e, is-after, next-is) (way_on x left here)

  pub way-done : (x here : ℕ) → way_from broader x 0 here ≡ []
  unfolding way_from
  way-done x here = refl
