-- The circle that is named is a shortest one, the first in number order; and where none is named there is none.
use mathlib.Core.Bool.{Bool, true, false, ◌||◌}
use mathlib.Core.Path.{◌≡◌, refl, sym, ap, ◌∙◌}
use mathlib.Core.Logic.{◌⊎◌, inl, inr}
use mathlib.Core.Option.{Option, none, some}
use mathlib.Core.List.{List, [], ◌∷◌}
use Prim.Native.Nat.{ℕ, zero, suc, min, ◌+◌, ◌≤◌, ◌<◌}
use native.Mathlib.Omega.{arith}
use native.Mathlib.Nat.{not-suc-le-zero}
use native.Mathlib.Decide.{dec_lt, ℕ_discrete}
use lib.ListN.{length, get_or, replicate, length-replicate, get_or-map}
use lib.Seq.{get_or-set_same, get_or-set_other}
use Rattle.tagged.specs.Listing.{Broader}
use Rattle.tagged.specs.Hops.{In, first, later, broader_of, Hops, here, hop, HasCircle}
use Rattle.tagged.specs.Circle.{some_marked, mark_at, below, returns, first_return, lowest, way_to, shortest_from, circle}
use Rattle.tagged.specs.Told.{Way, last, next, IsCircle, ◌≼◌, same, lower, equal, FirstCircle, Told}
use Rattle.tagged.proofs.Ways.{has-broader, way_hops, circle-small}
use Rattle.tagged.proofs.Levels.{levels-are}

-- ---- marks

abbrev pub Marked : List Bool → ℕ → Type 0
Marked marks b = get_or marks b false ≡ true

-- what is marked is there
marked-there : (marks : List Bool) (b : ℕ) → Marked marks b → b < length marks
marked-there [] b is = absurd (let z : ◌≡◌ {A = ℕ} 0 1 = cc in omega arith)
marked-there (t ∷ marks) zero is = omega arith
marked-there (t ∷ marks) (suc b) is = omega (arith, marked-there marks b is)

-- some is marked
pub some-marked : (marks : List Bool) (bs : List ℕ) → some_marked marks bs ≡ true → (b : ℕ) × In b bs × Marked marks b
unfolding some_marked
some-marked marks [] is = absurd (let z : ◌≡◌ {A = ℕ} 0 1 = cc in omega arith)
some-marked marks (b ∷ bs) is = by (get_or marks b false) refl is (some-marked marks bs)
  where
    by : (t : Bool) → get_or marks b false ≡ t → (t || some_marked marks bs) ≡ true → (some_marked marks bs ≡ true → (c : ℕ) × In c bs × Marked marks c)
        → (c : ℕ) × In c (b ∷ bs) × Marked marks c
    by true mark is rest = (b, first, mark)
    by false mark is rest = let (c, there, m) = rest is in (c, later there, m)

pub marked-some : (marks : List Bool) {b : ℕ} {bs : List ℕ} → In b bs → Marked marks b → some_marked marks bs ≡ true
unfolding some_marked
marked-some marks first is = rw is refl
marked-some marks (later {c} i) is = by (get_or marks c false) (marked-some marks i is)
  where
    by : (t : Bool) {u : Bool} → u ≡ true → (t || u) ≡ true
    by true is = refl
    by false is = is

-- one mark
no_mark : (n y : ℕ) → Marked (replicate n false) y → ⊥
no_mark zero y is = let z : ◌≡◌ {A = ℕ} 0 1 = cc in omega arith
no_mark (suc n) zero is = let z : ◌≡◌ {A = ℕ} 0 1 = cc in omega arith
no_mark (suc n) (suc y) is = no_mark n y is

one_mark : (n x y : ℕ) → Marked (mark_at n x) y → y ≡ x
unfolding mark_at
one_mark n x y is = by (ℕ_discrete y x)
  where
    by : Dec (y ≡ x) → y ≡ x
    by (yes is) = is
    by (no differs) = absurd (no_mark n y (sym (get_or-set_other (replicate n false) x y true false differs) ∙ is))

own_mark : (n x : ℕ) → x < n → Marked (mark_at n x) x
unfolding mark_at
own_mark n x low = get_or-set_same (replicate n false) x true false (simp length-replicate low)

-- ---- the lowest of those marked

lowest-with : (marks : List Bool) (b : ℕ) (bs : List ℕ) → Marked marks b → lowest marks (b ∷ bs) ≡ min b (lowest marks bs)
unfolding lowest
lowest-with marks b bs is = rw (is, lowest) refl

lowest-without : (marks : List Bool) (b : ℕ) (bs : List ℕ) → get_or marks b false ≡ false → lowest marks (b ∷ bs) ≡ lowest marks bs
unfolding lowest
lowest-without marks b bs is = rw (is, lowest) refl

-- no marked one is lower
lowest-least : (marks : List Bool) {b : ℕ} {bs : List ℕ} → In b bs → Marked marks b → lowest marks bs ≤ b
lowest-least marks {b = b} (first {bs}) is = omega (arith, lowest-with marks b bs is)
lowest-least marks {b = b} (later {c} {bs} i) is = by (get_or marks c false) refl (lowest-least marks i is)
  where
    by : (t : Bool) → get_or marks c false ≡ t → lowest marks bs ≤ b → lowest marks (c ∷ bs) ≤ b
    by true mark le = omega (arith, lowest-with marks c bs mark)
    by false mark le = omega (arith, lowest-without marks c bs mark)

-- it is past all, or a marked one
Past : List Bool → List ℕ → ℕ → Type 0
Past marks bs low = (low ≡ length marks) ⊎ (In low bs × Marked marks low)

lowest-past : (marks : List Bool) (bs : List ℕ) → Past marks bs (lowest marks bs)
unfolding Past lowest
lowest-past marks [] = inl refl
lowest-past marks (b ∷ bs) = by (get_or marks b false) refl (lowest-past marks bs)
  where
    past-later : (low : ℕ) → Past marks bs low → Past marks (b ∷ bs) low
    past-later low (inl is) = inl is
    past-later low (inr (there, mark)) = inr (later there, mark)

    of_two : (low : ℕ) → Marked marks b → Dec (low < b) → Past marks bs low → Past marks (b ∷ bs) (min b low)
    of_two low mark (no high) rest = let is : min b low ≡ b = omega arith in rw is (inr (first, mark))
    of_two low mark (yes less) rest = let is : min b low ≡ low = omega arith in rw is (past-later low rest)

    by : (t : Bool) → get_or marks b false ≡ t → Past marks bs (lowest marks bs) → Past marks (b ∷ bs) (lowest marks (b ∷ bs))
    by true mark rest = rw (lowest-with marks b bs mark) (of_two (lowest marks bs) mark (dec_lt (lowest marks bs) b) rest)
    by false mark rest = rw (lowest-without marks b bs mark) (past-later (lowest marks bs) rest)

-- so where one is marked, it is a marked one
lowest-one : (marks : List Bool) (bs : List ℕ) {b : ℕ} → In b bs → Marked marks b → In (lowest marks bs) bs × Marked marks (lowest marks bs)
unfolding Past
lowest-one marks bs {b} i is = by (lowest-past marks bs)
  where
    by : Past marks bs (lowest marks bs) → In (lowest marks bs) bs × Marked marks (lowest marks bs)
    by (inl over) = absurd (omega (arith, lowest-least marks i is, marked-there marks b is, over))
    by (inr both) = both

module _ (broader : Broader) where
  -- ---- marks and hops

  pub below_more : (x k y : ℕ) → get_or (below broader x (suc k)) y false ≡ some_marked (below broader x k) (broader_of broader y)
  unfolding below some_marked
  below_more x k y = get_or-map (some_marked (below broader x k)) broader y []

  pub marked_hops : (x k y : ℕ) → Marked (below broader x k) y → Hops broader k y x
  unfolding below
  marked_hops x zero y is = rw (one_mark (length broader) x y is) here
  marked_hops x (suc k) y is =
      let (b, there, mark) = some-marked (below broader x k) (broader_of broader y) (sym (below_more x k y) ∙ is) in
      hop there (marked_hops x k b mark)

  pub hops_marked : (x : ℕ) → x < length broader → (k : ℕ) {y : ℕ} → Hops broader k y x → Marked (below broader x k) y
  unfolding below
  hops_marked x low zero here = own_mark (length broader) x low
  hops_marked x low (suc k) {y} (hop there more) = below_more x k y ∙ marked-some (below broader x k) there (hops_marked x low k more)

  -- ---- the way back

  -- from a heading whence x is reached in so many hops, the way is one
  way-is : (x : ℕ) → x < length broader → (l : ℕ) {y : ℕ} → Hops broader (suc l) y x → Way broader y (way_to broader x (suc l) y) x
  unfolding way_to
  way-is x low zero (hop there here) = last there
  way-is x low (suc l) {y} (hop there more) =
      let marks = below broader x (suc l) in
      let (on, mark) = lowest-one marks (broader_of broader y) there (hops_marked x low (suc l) more) in
      next on (way-is x low l (marked_hops x (suc l) (lowest marks (broader_of broader y)) mark))

  way_long : (x l y : ℕ) → length (way_to broader x (suc l) y) ≡ l
  unfolding way_to
  way_long x zero y = refl
  way_long x (suc l) y = ap suc (way_long x l (lowest (below broader x (suc l)) (broader_of broader y)))

  -- and no other way of so many hops comes before it in number order
  way-earliest : (x : ℕ) → x < length broader → (l : ℕ) {y : ℕ} {ys : List ℕ} → Way broader y ys x → length ys ≡ l → way_to broader x (suc l) y ≼ ys
  unfolding way_to
  way-earliest x low zero (last there) long = same
  way-earliest x low zero (next there way) long = absurd (omega arith)
  way-earliest x low (suc l) (last there) long = absurd (omega arith)
  way-earliest x low (suc l) {y} (next {y = z} {ys = ys} there way) long =
      let hops : Hops broader (suc l) z x = rw long at (way_hops broader way) in
      by (lowest (below broader x (suc l)) (broader_of broader y)) (lowest-least (below broader x (suc l)) there (hops_marked x low (suc l) hops))
      (way-earliest x low l way (omega arith))
    where
      by : (b : ℕ) → b ≤ z → way_to broader x (suc l) z ≼ ys → (b ∷ way_to broader x (suc l) b) ≼ (z ∷ ys)
      by b le rest = at_once (ℕ_discrete b z)
        where
          at_once : Dec (b ≡ z) → (b ∷ way_to broader x (suc l) b) ≼ (z ∷ ys)
          at_once (yes is) = rw is (equal rest)
          at_once (no differs) = let less : b < z = omega arith in lower less

  -- ---- the search

  abbrev pub n : ℕ
  n = length broader

  -- the first heading from x on that returns in k hops; or none before the end does
  data Searched (k x end : ℕ) : Option ℕ → Type 0 where
    found : {s : ℕ} → returns broader k s ≡ true → ((y : ℕ) → x ≤ y → y < s → returns broader k y ≡ false) → Searched k x end (some s)
    missing : ((y : ℕ) → x ≤ y → y < end → returns broader k y ≡ false) → Searched k x end none

  -- one heading more in front
  searched_before : {k x end : ℕ} {o : Option ℕ} → returns broader k x ≡ false → Searched k (suc x) end o → Searched k x end o
  searched_before {k} {x} not-this (found {s} is none-lower) = found is (λ y low less. by y low less (ℕ_discrete y x))
    where
      by : (y : ℕ) → x ≤ y → y < s → Dec (y ≡ x) → returns broader k y ≡ false
      by y low less (yes e) = rw e not-this
      by y low less (no differs) = none-lower y (omega arith) less
  searched_before {k} {x} {end} not-this (missing nobody) = missing (λ y low less. by y low less (ℕ_discrete y x))
    where
      by : (y : ℕ) → x ≤ y → y < end → Dec (y ≡ x) → returns broader k y ≡ false
      by y low less (yes e) = rw e not-this
      by y low less (no differs) = nobody y (omega arith) less

  searched : (k count x end : ℕ) → x + count ≡ end → Searched k x end (first_return broader k count x)
  unfolding first_return
  searched k zero x end is = missing (λ y low less. absurd (omega arith))
  searched k (suc count) x end is = by (returns broader k x) refl (searched k count (suc x) end (omega arith))
    where
      by : (t : Bool) → returns broader k x ≡ t → Searched k (suc x) end (first_return broader k count (suc x)) → Searched k x end (first_return broader k (suc count) x)
      by true this rest = rw (this, first_return) (found this (λ y low less. absurd (omega arith)))
      by false this rest = rw (this, first_return) (searched_before this rest)

  abbrev first_of : ℕ → Option ℕ
  first_of k = first_return broader k n 0

  -- the first number of hops, from k on, in which some heading returns; or none before the end
  data Shortest (k end : ℕ) : Option (List ℕ) → Type 0 where
    found : {j s : ℕ} → k ≤ j → first_of j ≡ some s → ((i : ℕ) → k ≤ i → i < j → first_of i ≡ none) → Shortest k end (some (s ∷ way_to broader s j s))
    missing : ((i : ℕ) → k ≤ i → i < end → first_of i ≡ none) → Shortest k end none

  shortest-before : {k end : ℕ} {o : Option (List ℕ)} → first_of k ≡ none → Shortest (suc k) end o → Shortest k end o
  shortest-before {k} not-this (found {j} le is none-shorter) = found {j = j} (omega arith) is (λ i low less. by i low less (ℕ_discrete i k))
    where
      by : (i : ℕ) → k ≤ i → i < j → Dec (i ≡ k) → first_of i ≡ none
      by i low less (yes e) = rw e not-this
      by i low less (no differs) = none-shorter i (omega arith) less
  shortest-before {k} {end} not-this (missing nobody) = missing (λ i low less. by i low less (ℕ_discrete i k))
    where
      by : (i : ℕ) → k ≤ i → i < end → Dec (i ≡ k) → first_of i ≡ none
      by i low less (yes e) = rw e not-this
      by i low less (no differs) = nobody i (omega arith) less

  shortest : (bound k end : ℕ) → k + bound ≡ end → Shortest k end (shortest_from broader bound k)
  unfolding shortest_from
  shortest zero k end is = missing (λ i low less. absurd (omega arith))
  shortest (suc bound) k end is = by (first_of k) refl (shortest bound (suc k) end (omega arith))
    where
      by : (o : Option ℕ) → first_of k ≡ o → Shortest (suc k) end (shortest_from broader bound (suc k)) → Shortest k end (shortest_from broader (suc bound) k)
      by (some s) this rest = rw (this, shortest_from) (found {j = k} (omega arith) this (λ i low less. absurd (omega arith)))
      by none this rest = rw (this, shortest_from) (shortest-before this rest)

  -- ---- what the search says of circles

  -- a heading returns in k hops exactly if it does
  pub returns_hops : (k x : ℕ) → returns broader k x ≡ true → Hops broader k x x
  unfolding returns
  returns_hops k x is = marked_hops x k x is

  hops_low : {k x y : ℕ} → Hops broader (suc k) x y → x < n
  hops_low (hop there more) = has-broader broader there

  pub hops_returns : (k x : ℕ) → Hops broader (suc k) x x → returns broader (suc k) x ≡ true
  unfolding returns
  hops_returns k x hops = hops_marked x (hops_low hops) (suc k) hops

  -- where none is found none returns
  none-returns : (k : ℕ) → first_of (suc k) ≡ none → (x : ℕ) → Hops broader (suc k) x x → ⊥
  none-returns k is x hops = by (searched (suc k) n 0 n (omega arith)) is
    where
      by : {o : Option ℕ} → Searched (suc k) 0 n o → o ≡ none → ⊥
      by (found a b) is = let z : ◌≡◌ {A = ℕ} 0 1 = cc in omega arith
      by (missing nobody) is = let z : ◌≡◌ {A = ℕ} 0 1 = cc (nobody x (omega arith) (hops_low hops), hops_returns k x hops) in omega arith

  -- the one found returns, and none that is lower
  found-returns : (k : ℕ) {s : ℕ} → first_of k ≡ some s → (returns broader k s ≡ true) × ((y : ℕ) → y < s → returns broader k y ≡ false)
  found-returns k {s} is = by (searched k n 0 n (omega arith)) is
    where
      by : {o : Option ℕ} → Searched k 0 n o → o ≡ some s → (returns broader k s ≡ true) × ((y : ℕ) → y < s → returns broader k y ≡ false)
      by (found {s = t} a b) is = let e : t ≡ s = cc in (rw e at a, λ y less. b y (omega arith) (omega arith))
      by (missing nobody) is = absurd (let z : ◌≡◌ {A = ℕ} 0 1 = cc in omega arith)

  -- A CIRCLE THAT IS NAMED is the first of the shortest.
  first-circle : (j s : ℕ) → 1 ≤ j → first_of j ≡ some s → ((i : ℕ) → 1 ≤ i → i < j → first_of i ≡ none) → FirstCircle broader (s ∷ way_to broader s j s)
  first-circle zero s le is none-shorter = absurd (not-suc-le-zero le)
  first-circle (suc l) s le is none-shorter =
      let (back, none-lower) = found-returns (suc l) is in
      let hops = returns_hops (suc l) s back in
      let low = hops_low hops in
      record { is = way-is s low l hops; shortest = short; earliest = early low none-lower }
    where
      short : (d : List ℕ) → IsCircle broader d → suc (length (way_to broader s (suc l) s)) ≤ length d
      short [] c = absurd c
      short (x ∷ ys) c = by (dec_lt (length ys) l)
        where
          by : Dec (length ys < l) → suc (length (way_to broader s (suc l) s)) ≤ suc (length ys)
          by (yes less) = absurd (none-returns (length ys) (none-shorter (suc (length ys)) (omega arith) (omega arith)) x (way_hops broader c))
          by (no more) = omega (arith, way_long s l s)

      early : s < n → ((y : ℕ) → y < s → returns broader (suc l) y ≡ false) → (d : List ℕ) → IsCircle broader d
          → length d ≡ suc (length (way_to broader s (suc l) s)) → (s ∷ way_to broader s (suc l) s) ≼ d
      early low none-lower [] c long = absurd c
      early low none-lower (x ∷ ys) c long =
          let as_long : length ys ≡ l = omega (arith, way_long s l s) in
          let hops : Hops broader (suc l) x x = rw as_long at (way_hops broader c) in
          by as_long (hops_returns l x hops) (dec_lt x s) (ℕ_discrete x s)
        where
          by : length ys ≡ l → returns broader (suc l) x ≡ true → Dec (x < s) → Dec (x ≡ s) → (s ∷ way_to broader s (suc l) s) ≼ (x ∷ ys)
          by as_long back (yes less) e = absurd (let z : ◌≡◌ {A = ℕ} 0 1 = cc (none-lower x less) in omega arith)
          by as_long back (no high) (yes e) = rw e (equal (way-earliest s low l (rw e at c) as_long))
          by as_long back (no high) (no differs) = let less : s < x = omega arith in lower less

  -- what `circle` says
  circle-says : Shortest 1 (1 + n) (circle broader)
  unfolding circle
  circle-says = shortest n 1 (1 + n) refl

  named : (c : List ℕ) → circle broader ≡ some c → FirstCircle broader c
  named c is = by circle-says is
    where
      by : {o : Option (List ℕ)} → Shortest 1 (1 + n) o → o ≡ some c → FirstCircle broader c
      by (found {j} {s} le at_j none-shorter) is = let e : s ∷ way_to broader s j s ≡ c = cc in rw e at (first-circle j s le at_j none-shorter)
      by (missing nobody) is = absurd (let z : ◌≡◌ {A = ℕ} 0 1 = cc in omega arith)

  -- WHERE NONE IS NAMED THERE IS NONE.
  none-there : circle broader ≡ none → HasCircle broader → ⊥
  none-there is has = by circle-says is (circle-small broader has)
    where
      by : {o : Option (List ℕ)} → Shortest 1 (1 + n) o → o ≡ none → (d : ℕ) × (k : ℕ) × (suc k ≤ n) × Hops broader (suc k) d d → ⊥
      by (found le at_j none-shorter) is small = let z : ◌≡◌ {A = ℕ} 0 1 = cc in omega arith
      by (missing nobody) is (d, k, few, hops) = none-returns k (nobody (suc k) (omega arith) (omega arith)) d hops

  -- ONE IS REPORTED EXACTLY IF ONE EXISTS.
  reported : HasCircle broader → (c : List ℕ) × (circle broader ≡ some c)
  reported has = by (circle broader) refl
    where
      by : (o : Option (List ℕ)) → circle broader ≡ o → (c : List ℕ) × (circle broader ≡ some c)
      by none is = absurd (none-there is has)
      by (some c) is = (c, is)

  exists : (c : List ℕ) → IsCircle broader c → HasCircle broader
  exists [] c = absurd c
  exists (x ∷ ys) c = (x, (length ys, way_hops broader c))

  pub told : Told broader
  told = record {
    reported = (reported, λ (c, is). exists c (named c is).is);
    circle_is = named;
    levels_are = λ is x low. levels-are broader (none-there is) x;
  }
