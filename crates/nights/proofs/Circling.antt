-- The run of a listing book, with circles or without, is never refused for going too far, nor for want of nodes where there is room for 575: it is finished, out of
-- fuel, or lacks choices, entries or answer room.
use mathlib.Core.Bool.{true, false}
use mathlib.Core.Path.{◌≡◌, refl, ap, ◌∙◌}
use mathlib.Core.Logic.{◌⊎◌, inl, inr}
use mathlib.Core.List.{List, [], ◌∷◌, ◌++◌, map}
use Prim.Native.Nat.{ℕ, zero, suc, ◌+◌, ◌-◌, ◌*◌, ◌≤◌, ◌<◌}
use native.Mathlib.Omega.{arith}
use native.Mathlib.Decide.{dec_lt}
use native.Mathlib.Nat.{zero-mul, not-suc-le-zero}
use borrow.Author.Tests.{ltb-false}
use lib.Dec.{ltb}
use lib.ListN.{length, get_or, get_or-eq_default}
use Rattle.limits.specs.Sizes.{most_book_bytes, most_symbols, most_expression_nodes, most_choices}
use Rattle.limits.specs.Lent.{Entry}
use Rattle.expressions.specs.Expressions.{Expr, Exprs}
use Rattle.book.specs.Trees.{Tree}
use Rattle.machine.specs.Made.{make, expr_choices}
use Rattle.machine.specs.Turn.{Rooms, State, Turned, whole, refused, Ended, turn, turns, loaded}
use Rattle.run.proofs.OnTheRow.{turns-none, turns-spent, turns-refused, turns-whole}
use Rattle.tagged.specs.Listing.{Broader}
use Rattle.tagged.specs.Terms.{nested, first_of, second_of, first_rules, second_rules, rules_for}
use Rattle.tagged.specs.Laid.{laid}
use Rattle.tagged.specs.Write.{nodes_of, some_over, passes}
use Rattle.tagged.specs.Hops.{In, first, later, broader_of, Inside}
use Rattle.tagged.proofs.Members.{in_row}
use Rattle.above.proofs.BookBack.{or-false}
use Rattle.above.proofs.Book.{B, constructs, first_operates, second_operates, first-rule, second-rule}
use Rattle.nights.proofs.Weights.{Plain, Weighs, Load, load_front}
use Rattle.nights.proofs.Paying.{Ruled, Law, Came, pays, no_nodes, no_choices, no_places, no_bytes, turn_came}
use Rattle.nights.proofs.Nests.{Items, nest_weighs, nest_choices, first-items, sum_first_lem, first-length, sum_second, second-items, second-length}

-- nothing is counted
abbrev by_nothing : ℕ → ℕ → ℕ → ℕ
by_nothing t k a = 0

-- nothing weighs anything
abbrev nought : ℕ → ℕ
nought f = 0

-- ---- how long a rule can be

over_none : {e : Expr} (es : List Expr) → In e es → some_over es ≡ false → nodes_of e ≤ most_expression_nodes
unfolding some_over
over_none {e} (f ∷ es) there none =
    let (small, others) = or-false (ltb most_expression_nodes (nodes_of f)) (some_over es) none in
    by small (in_row there) (λ i. over_none es i others)
  where
    by : ltb most_expression_nodes (nodes_of f) ≡ false → (e ≡ f) ⊎ In e es → (In e es → nodes_of e ≤ most_expression_nodes) → nodes_of e ≤ most_expression_nodes
    by small (inl is) rest = rw is (ltb-false most_expression_nodes (nodes_of f) small)
    by small (inr i) rest = rest i
over_none {e = e} [] there none = elim there [ ]

in_mapped : {A C : Type 0} (f : A → C) (l : List A) (x : ℕ) (d : A) → x < length l → In (f (get_or l x d)) (map f l)
in_mapped f [] x d low = absurd (not-suc-le-zero low)
in_mapped f (a ∷ l) zero d low = first
in_mapped f (a ∷ l) (suc x) d low = later (in_mapped f l x d (omega arith))

in_behind : {A : Type 0} {a : A} (l : List A) {m : List A} → In a m → In a (l ++ m)
in_behind [] i = i
in_behind (b ∷ l) i = later (in_behind l i)

second-nodes : (n b : ℕ) (bs : List ℕ) → suc (nodes_of (nested (second_of n (b ∷ bs)))) ≡ 4 * suc (length bs)
unfolding nested second_of nodes_of
second-nodes n b [] = refl
second-nodes n b (c ∷ bs) = omega (arith, second-nodes n c bs)

-- within the sizes a heading has 16 broader terms at most
pub few-terms : (broader : Broader) → passes broader ≡ false → (x : ℕ) → 2 * length (broader_of broader x) ≤ 32
unfolding passes second_rules
few-terms broader within x = by (dec_lt x (length broader))
  where
    n : ℕ
    n = length broader

    some-over : some_over (first_rules broader ++ second_rules n broader) ≡ false
    some-over = (or-false (ltb most_symbols (n + (n + n))) (some_over (first_rules broader ++ second_rules n broader)) (or-false _ (ltb most_book_bytes (length (laid (rules_for broader)))) within).0).1

    count : (bs : List ℕ) → nodes_of (nested (second_of n bs)) ≤ most_expression_nodes → 2 * length bs ≤ 32
    count [] few = omega arith
    count (b ∷ bs) few = omega (arith, second-nodes n b bs)

    by : Dec (x < n) → 2 * length (broader_of broader x) ≤ 32
    by (yes low) =
        count (broader_of broader x) (over_none (first_rules broader ++ second_rules n broader) (in_behind (first_rules broader) (in_mapped (λ (bs : List ℕ). nested (second_of n bs)) broader x [] low)) some-over)
    by (no high) = rw (get_or-eq_default broader [] {n = x} (omega arith)) (omega arith)

module _ (broader : Broader) (inside : Inside broader) (most : ℕ) (short : (x : ℕ) → 2 * length (broader_of broader x) ≤ suc most) where
  abbrev n : ℕ
  n = length broader

  -- any symbol of the book can come
  abbrev Any : ℕ → Type 0
  Any f = f < n + (n + n)

  abbrev Rule : ℕ → Type 0
  Rule = Ruled (B broader) Any nought 0 0 by_nothing

  -- a rule with few choices
  abbrev Few : ℕ → Type 0
  Few f = (r : Rule f) × (expr_choices r.expr ≤ most)

  -- by the items of a nest
  few_ruled : (f : ℕ) (e : Expr) (es : List Expr) → (B broader).is_constructor f ≡ false → (B broader).tree f ≡ Tree.rule (nested (e ∷ es))
      → {t : ℕ} → Items Any nought 0 0 (e ∷ es) t → t ≡ 0 → length es ≤ most → Few f
  few_ruled f e es operates is items nothing few =
      let (w, sum, plain) = nest_weighs Any nought 0 0 items in (
        record { expr = nested (e ∷ es); weight = w; operates = operates; is = is; plain = plain; pays = λ t k a. omega arith; lighter = omega arith },
        omega (arith, nest_choices Any nought 0 0 items),
      )

  fail_ruled : (f : ℕ) → (B broader).is_constructor f ≡ false → (B broader).tree f ≡ Tree.rule Expr.fail → Few f
  unfolding expr_choices
  fail_ruled f operates is =
      (record { expr = Expr.fail; weight = 0; operates = operates; is = is; plain = Plain.fails; pays = λ t k a. omega arith; lighter = omega arith }, omega arith)

  first_ruled : (x : ℕ) → x < n → (bs : List ℕ) → broader_of broader x ≡ bs → Few (n + x)
  unfolding nested first_of
  first_ruled x low [] is = fail_ruled (n + x) (first_operates broader x low) (first-rule broader x low ∙ ap (λ bs. Tree.rule (nested (first_of bs))) is)
  first_ruled x low (b ∷ bs) is =
      few_ruled (n + x) _ (first_of bs) (first_operates broader x low) (first-rule broader x low ∙ ap (λ bs. Tree.rule (nested (first_of bs))) is)
      (first-items Any nought 0 0 (b ∷ bs) (λ d i. omega (arith, inside x d (rw is i)))) (sum_first_lem Any nought 0 0 0 (b ∷ bs) (λ d i. refl) ∙ zero-mul (length (b ∷ bs)))
      (omega (arith, first-length bs, ap length is, short x))

  second-nothing : (bs : List ℕ) → sum_second Any nought 0 0 n bs ≡ 0
  unfolding sum_second
  second-nothing [] = refl
  second-nothing (b ∷ bs) = omega (arith, second-nothing bs)

  second_ruled : (x : ℕ) → x < n → (bs : List ℕ) → broader_of broader x ≡ bs → Few (n + n + x)
  unfolding nested second_of
  second_ruled x low [] is = fail_ruled (n + n + x) (second_operates broader x low) (second-rule broader x low ∙ ap (λ bs. Tree.rule (nested (second_of n bs))) is)
  second_ruled x low (b ∷ bs) is =
      few_ruled (n + n + x) _ _ (second_operates broader x low) (second-rule broader x low ∙ ap (λ bs. Tree.rule (nested (second_of n bs))) is)
      (second-items Any nought 0 0 n (b ∷ bs) (λ d i. omega (arith, inside x d (rw is i))) (λ d i. omega (arith, inside x d (rw is i)))) (second-nothing (b ∷ bs))
      (omega (arith, second-length n bs, ap length is, short x))

  -- every operation has such a rule
  ruled : (f : ℕ) → Any f → (f < n → ⊥) → Few f
  ruled f low high = by (dec_lt f (n + n))
    where
      by : Dec (f < n + n) → Few f
      by (yes less) = let is : f ≡ n + (f - n) = omega arith in rw is (first_ruled (f - n) (omega arith) (broader_of broader (f - n)) refl)
      by (no more) = let is : f ≡ n + n + (f - (n + n)) = omega arith in rw is (second_ruled (f - (n + n)) (omega arith) (broader_of broader (f - (n + n))) refl)

  law : Law (B broader) Any nought 0 0 by_nothing
  law = record { fail_pays = λ t k a. omega arith; choice_pays = λ t k a. omega arith; known = λ f low. known f low (dec_lt f n) }
    where
      known : (f : ℕ) → Any f → Dec (f < n) → (((B broader).is_constructor f ≡ true) × ((t k a : ℕ) → by_nothing (suc t) k (suc a) ≤ by_nothing t k a + nought f)) ⊎ Rule f
      known f low (yes less) = inl (constructs broader f less, λ t k a. omega arith)
      known f low (no more) = inr (ruled f low more).0

  -- every rule is that one, so it has few choices
  rule-few : {f : ℕ} → Any f → (r : Rule f) → expr_choices r.expr ≤ most
  rule-few {f} low r = by (dec_lt f n)
    where
      by : Dec (f < n) → expr_choices r.expr ≤ most
      by (yes less) = absurd (let z : ◌≡◌ {A = ℕ} 0 1 = cc (constructs broader f less, r.operates) in omega arith)
      by (no more) =
          let (own, few) = ruled f low more in
          let same : r.expr ≡ own.expr = cc (r.is, own.is) in
          rw same few

  -- ---- a run

  -- so many nodes are enough, whatever is asked
  abbrev pub enough_nodes : ℕ
  enough_nodes = 1 + 2 * (most_choices + most)

  -- how it can end
  abbrev pub Among : Ended → Type 0
  Among r = (r.number ≡ 0) ⊎ (r.number ≡ 20) ⊎ (r.number ≡ 22) ⊎ (r.number ≡ 23) ⊎ (r.number ≡ 25)

  pub record Listed (s : State) : Type 0 where
    pub nodes : length s.heap ≡ 1 + 2 * s.choices
    pub few : s.choices ≤ most_choices
    pub t : ℕ
    pub load : Load Any nought 0 0 s.heap s.waiting t

  module _ (room : Rooms) (wide : enough_nodes ≤ room.nodes) where
    data Step (s : State) : Turned → Type 0 where
      goes_on : {s' : State} → Listed s' → Step s (whole s')
      stops : {c : ℕ} → (c ≡ 22) ⊎ (c ≡ 23) ⊎ (c ≡ 25) → Step s (refused c)

    step : (s : State) → Listed s → {t : ℕ} {y : Turned} → Came (B broader) Any nought 0 0 by_nothing room s t y → Step s y
    step s l (pays {s' = s'} {t = t} a p m one f g) = goes_on {s' = s'} (record { nodes = omega (arith, l.nodes); few = f l.few; t = t; load = a })
    step s l (no_nodes q r p m) = absurd (omega (arith, l.nodes, l.few, rule-few q r))
    step s l (no_choices q r p m) = stops (inl refl)
    step s l (no_places a b x y v w p m) = stops (inr (inl refl))
    step s l (no_bytes x w h a i r) = stops (inr (inr refl))

    fronted : (s : State) → Listed s → (x : Entry) (rest : List Entry) → s.waiting ≡ x ∷ rest → Step s (turn (B broader) room s x rest)
    fronted s l x rest is =
        let (v, u, sum, w, others) = load_front Any nought 0 0 is l.load in
        step s l (turn_came (B broader) Any nought 0 0 by_nothing room s law x rest is others w)

    number_of : {c : ℕ} (s : State) → (c ≡ 22) ⊎ (c ≡ 23) ⊎ (c ≡ 25) → Among (record { number = c; state = s })
    number_of s (inl a) = inr (inr (inl a))
    number_of s (inr (inl b)) = inr (inr (inr (inl b)))
    number_of s (inr (inr d)) = inr (inr (inr (inr d)))

    -- NEVER 21 NOR 24.
    pub ends-among : (fuel : ℕ) (s : State) → Listed s → Among (turns (B broader) room fuel s)
    ends-among zero s l = by s.waiting refl
      where
        by : (es : List Entry) → s.waiting ≡ es → Among (turns (B broader) room 0 s)
        by [] is = inl (ap (λ (r : Ended). r.number) (turns-none (B broader) room s 0 is))
        by (x ∷ rest) is = inr (inl (ap (λ (r : Ended). r.number) (turns-spent (B broader) room s x rest is)))
    ends-among (suc fuel) s l = by s.waiting refl (λ t m. ends-among fuel t m)
      where
        at_turn : (x : Entry) (rest : List Entry) → s.waiting ≡ x ∷ rest → ((t : State) → Listed t → Among (turns (B broader) room fuel t))
            → (y : Turned) → turn (B broader) room s x rest ≡ y → Step s y → Among (turns (B broader) room (suc fuel) s)
        at_turn x rest is more y at_y (goes_on {s' = t} m) = rw (turns-whole (B broader) room s x rest is fuel t at_y) (more t m)
        at_turn x rest is more y at_y (stops {c = c} which) = rw (turns-refused (B broader) room s x rest is fuel c at_y) (number_of s which)

        by : (es : List Entry) → s.waiting ≡ es → ((t : State) → Listed t → Among (turns (B broader) room fuel t)) → Among (turns (B broader) room (suc fuel) s)
        by [] is more = inl (ap (λ (r : Ended). r.number) (turns-none (B broader) room s (suc fuel) is))
        by (x ∷ rest) is more = at_turn x rest is more (turn (B broader) room s x rest) refl (fronted s l x rest is)

    -- so of any question that applies a symbol of the book
    pub asked-among : (fuel f : ℕ) → Any f → Among (turns (B broader) room fuel (loaded (Expr.apply f Exprs.no_exprs)))
    unfolding loaded make
    asked-among fuel f low =
        ends-among fuel (loaded (Expr.apply f Exprs.no_exprs)) (record { nodes = refl; few = omega arith; t = 0; load = Load.more (Weighs.leaf refl low) Load.none })
