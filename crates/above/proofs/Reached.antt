-- The terms that both operations of a heading reach: of the first its BT headings, of the second those one or more hops up.
use mathlib.Core.Path.{◌≡◌, refl, ap}
use mathlib.Core.Logic.{◌⊎◌, inl, inr}
use mathlib.Core.List.{List, [], ◌∷◌}
use Prim.Native.Nat.{ℕ, zero, suc, ◌+◌, ◌≤◌, ◌<◌}
use native.Mathlib.Omega.{arith}
use lib.ListN.{length}
use Rattle.expressions.specs.Expressions.{Expr, Exprs}
use Rattle.tagged.specs.Listing.{Broader}
use Rattle.tagged.specs.Terms.{term_of, above_of, nested, first_of, second_of}
use Rattle.tagged.specs.Hops.{In, first, later, broader_of, IsBroader, Inside, Hops, here, hop, Above}
use Rattle.tagged.proofs.Members.{in_row}
use Rattle.rewriting.specs.Scoped.{Scoped}
use Rattle.rewriting.specs.Rewriting.{Value, Values, con, no_values}
use Rattle.meaning.specs.Partial.{Part, Parts, bot, Gives}
use Rattle.meaning.specs.Readings.{OperationGives, whole}
use Rattle.above.specs.Reached.{TermOf}
use Rattle.above.proofs.Book.{B, constructs, second_operates, first-rule, second-rule}
use Rattle.above.proofs.Given.{OneGives, nest_gives, gives_nest, term-gives, gives-term, operation-gives, node-gives, gives-operation, gives-node}

-- ---- items

-- an item of the first rule is a BT term
of_first : (bs : List ℕ) {e : Expr} → In e (first_of bs) → (b : ℕ) × In b bs × (e ≡ term_of b)
unfolding first_of
of_first (b ∷ bs) first = (b, first, refl)
of_first (b ∷ bs) (later i) = let (c, there, is) = of_first bs i in (c, later there, is)
of_first [] {e = e} x' = elim x' [ ]

in_first : {b : ℕ} {bs : List ℕ} → In b bs → In (term_of b) (first_of bs)
unfolding first_of
in_first first = first
in_first (later i) = later (in_first i)

-- an item of the second rule is a BT term, or its own second operation
abbrev SecondItem : ℕ → Expr → List ℕ → Type 0
SecondItem n e bs = (b : ℕ) × In b bs × ((e ≡ term_of b) ⊎ (e ≡ above_of n b))

of_second : (n : ℕ) (e : Expr) (bs : List ℕ) → In e (second_of n bs) → SecondItem n e bs
unfolding second_of
of_second n e [] i = elim i [ ]
of_second n e (b ∷ bs) i = by (in_row i) (λ j. of_second n e bs j)
  where
    rest : SecondItem n e bs → SecondItem n e (b ∷ bs)
    rest (c, there, is) = (c, later there, is)

    next : (e ≡ above_of n b) ⊎ In e (second_of n bs) → (In e (second_of n bs) → SecondItem n e bs) → SecondItem n e (b ∷ bs)
    next (inl is) more = (b, first, inr is)
    next (inr j) more = rest (more j)

    by : (e ≡ term_of b) ⊎ In e (above_of n b ∷ second_of n bs) → (In e (second_of n bs) → SecondItem n e bs) → SecondItem n e (b ∷ bs)
    by (inl is) more = (b, first, inl is)
    by (inr j) more = next (in_row j) more

in_second-term : (n : ℕ) {b : ℕ} {bs : List ℕ} → In b bs → In (term_of b) (second_of n bs)
unfolding second_of
in_second-term n first = first
in_second-term n (later i) = later (later (in_second-term n i))

in_second-above : (n : ℕ) {b : ℕ} {bs : List ℕ} → In b bs → In (above_of n b) (second_of n bs)
unfolding second_of
in_second-above n first = later first
in_second-above n (later i) = later (later (in_second-above n i))

-- ---- no variables

-- every item is an application without arguments
data Plain : List Expr → Type 0 where
  no_items : Plain []
  one_more : {f : ℕ} {es : List Expr} → Plain es → Plain (Expr.apply f Exprs.no_exprs ∷ es)

first_plain : (bs : List ℕ) → Plain (first_of bs)
unfolding first_of
first_plain [] = no_items
first_plain (b ∷ bs) = one_more (first_plain bs)

second_plain : (n : ℕ) (bs : List ℕ) → Plain (second_of n bs)
unfolding second_of
second_plain n [] = no_items
second_plain n (b ∷ bs) = one_more (one_more (second_plain n bs))

nest_closed : {es : List Expr} → Plain es → Scoped 0 (nested es)
unfolding nested
nest_closed no_items = tt
nest_closed (one_more no_items) = tt
nest_closed (one_more (one_more p)) = (tt, nest_closed (one_more p))

-- ---- values

-- the value of a term
term-value : {b : ℕ} (v : Value) → whole v ≡ Part.con b Parts.no_parts → v ≡ con b no_values
unfolding whole
term-value {b} (con c no_values) is = let same : c ≡ b = cc in ap (λ f. con f no_values) same
term-value (con c (Values.more_values v vs)) is = absurd (let z : ◌≡◌ {A = ℕ} 0 1 = cc in omega arith)

value-term : {b : ℕ} {v : Value} → v ≡ con b no_values → whole v ≡ Part.con b Parts.no_parts
unfolding whole
value-term is = rw is refl

-- a value is something
pub value-some : (v : Value) → whole v ≡ bot → ⊥
unfolding whole
value-some (con c vs) is = let z : ◌≡◌ {A = ℕ} 0 1 = cc in omega arith

module _ (broader : Broader) (inside : Inside broader) where
  abbrev n : ℕ
  n = length broader

  -- ---- of the first operation

  pub first-sound : (x : ℕ) → x < n → (v : Value) → OperationGives (B broader) (n + x) [] (whole v) → TermOf (IsBroader broader x) v
  first-sound x h v o =
      let (s, gives) = node-gives (B broader) (first-rule broader x h) o in
      by (nest_gives (B broader) (first_of (broader_of broader x)) gives)
    where
      by : {s : ℕ} → (whole v ≡ bot) ⊎ OneGives (B broader) s (first_of (broader_of broader x)) [] (whole v) → TermOf (IsBroader broader x) v
      by (inl z) = absurd (value-some v z)
      by (inr o) =
          let (b, there, is) = of_first (broader_of broader x) o.there in
          at-term b there (term-gives (B broader) (constructs broader b (inside x b there)) (rw is at o.gives))
        where
          at-term : (b : ℕ) → IsBroader broader x b → (whole v ≡ bot) ⊎ (whole v ≡ Part.con b Parts.no_parts) → TermOf (IsBroader broader x) v
          at-term b there (inl z) = absurd (value-some v z)
          at-term b there (inr is) = (b, there, term-value v is)

  pub first-complete : (x : ℕ) → x < n → (v : Value) → TermOf (IsBroader broader x) v → OperationGives (B broader) (n + x) [] (whole v)
  first-complete x h v (b, there, is) =
      let bs = broader_of broader x in
      let (t, gives) = gives_nest (B broader) (first_of bs) (in_first there) (gives-term (B broader) (constructs broader b (inside x b there))) in
      rw (value-term is) (gives-node (B broader) (first-rule broader x h) (nest_closed (first_plain bs)) gives)

  -- ---- of the second

  -- what the rule of heading x's second operation gives is nothing or a term above x
  abbrev Found : ℕ → Part → Type 0
  Found x p = (p ≡ bot) ⊎ ((b : ℕ) × Above broader x b × (p ≡ Part.con b Parts.no_parts))

  -- if that holds of the rules of its broader terms, by smaller derivations
  above_step : (s x : ℕ) {p : Part}
      → ((b : ℕ) → IsBroader broader x b → (t : ℕ) → t < s → Gives (B broader) t (nested (second_of n (broader_of broader b))) [] p → Found b p)
      → Gives (B broader) s (nested (second_of n (broader_of broader x))) [] p → Found x p
  above_step s x {p} smaller gives = by (nest_gives (B broader) (second_of n (broader_of broader x)) gives)
    where
      -- one hop up
      at-term : (b : ℕ) → IsBroader broader x b → (p ≡ bot) ⊎ (p ≡ Part.con b Parts.no_parts) → Found x p
      at-term b there (inl z) = inl z
      at-term b there (inr is) = inr (b, (0, hop there here), is)

      -- one hop more than from there
      over : (b : ℕ) → IsBroader broader x b → Found b p → Found x p
      over b there (inl z) = inl z
      over b there (inr (c, (k, hops), is)) = inr (c, (suc k, hop there hops), is)

      at_above : (b : ℕ) → IsBroader broader x b → (size : ℕ) → size ≤ s
          → (p ≡ bot) ⊎ ((t : ℕ) × (t < size) × Gives (B broader) t (nested (second_of n (broader_of broader b))) [] p) → Found x p
      at_above b there size small (inl z) = inl z
      at_above b there size small (inr (t, lt, more)) = over b there (smaller b there t (omega arith) more)

      at_item : (o : OneGives (B broader) s (second_of n (broader_of broader x)) [] p) (b : ℕ) → IsBroader broader x b
          → (o.item ≡ term_of b) ⊎ (o.item ≡ above_of n b) → Found x p
      at_item o b there (inl is) = at-term b there (term-gives (B broader) (constructs broader b (inside x b there)) (rw is at o.gives))
      at_item o b there (inr is) =
          let low = inside x b there in
          at_above b there o.size o.small (operation-gives (B broader) (second_operates broader b low) (second-rule broader b low) (rw is at o.gives))

      by : (p ≡ bot) ⊎ OneGives (B broader) s (second_of n (broader_of broader x)) [] p → Found x p
      by (inl z) = inl z
      by (inr o) = let (b, there, is) = of_second n o.item (broader_of broader x) o.there in at_item o b there is

  -- so it holds of each
  above-sound : (bound s : ℕ) → s ≤ bound → (x : ℕ) {p : Part} → Gives (B broader) s (nested (second_of n (broader_of broader x))) [] p → Found x p
  above-sound zero s le x gives = above_step s x (λ b there t lt more. absurd (omega arith)) gives
  above-sound (suc bound) s le x gives = above_step s x (λ b there t lt more. above-sound bound t (omega arith) b more) gives

  pub second-sound : (x : ℕ) → x < n → (v : Value) → OperationGives (B broader) (n + n + x) [] (whole v) → TermOf (Above broader x) v
  second-sound x h v o =
      let (s, gives) = node-gives (B broader) (second-rule broader x h) o in
      by (above-sound s s (omega arith) x gives)
    where
      by : (whole v ≡ bot) ⊎ ((b : ℕ) × Above broader x b × (whole v ≡ Part.con b Parts.no_parts)) → TermOf (Above broader x) v
      by (inl z) = absurd (value-some v z)
      by (inr (b, above, is)) = (b, above, term-value v is)

  -- the rule gives each term above
  above-complete : (k x : ℕ) → x < n → {b : ℕ} → Hops broader (suc k) x b
      → (s : ℕ) × Gives (B broader) s (nested (second_of n (broader_of broader x))) [] (Part.con b Parts.no_parts)
  above-complete zero x h (hop {y = y} there here) =
      gives_nest (B broader) (second_of n (broader_of broader x)) (in_second-term n there) (gives-term (B broader) (constructs broader y (inside x y there)))
  above-complete (suc k) x h (hop {y = y} there more) =
      let low = inside x y there in
      let (s, gives) = above-complete k y low more in
      gives_nest (B broader) (second_of n (broader_of broader x)) (in_second-above n there)
      (gives-operation (B broader) (second_operates broader y low) (second-rule broader y low) (nest_closed (second_plain n (broader_of broader y))) gives)

  pub second-complete : (x : ℕ) → x < n → (v : Value) → TermOf (Above broader x) v → OperationGives (B broader) (n + n + x) [] (whole v)
  second-complete x h v (b, (k, hops), is) =
      let (s, gives) = above-complete k x h hops in
      rw (value-term is) (gives-node (B broader) (second-rule broader x h) (nest_closed (second_plain n (broader_of broader x))) gives)
