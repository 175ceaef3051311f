-- "All terms above it", of a listing without a circle: the three laws of weights, by the costs of `specs/Costs.antt`.
use mathlib.Core.Bool.{true, false}
use mathlib.Core.Path.{◌≡◌, refl, ap, ◌∙◌}
use mathlib.Core.Logic.{◌⊎◌, inl, inr}
use mathlib.Core.List.{List, [], ◌∷◌}
use Prim.Native.Nat.{ℕ, suc, ◌+◌, ◌-◌, ◌*◌, ◌≤◌, ◌<◌}
use native.Mathlib.Omega.{arith}
use borrow.Author.Tests.{lt-ltb, le-ltb}
use lib.Dec.{ltb}
use lib.ListN.{length}
use Rattle.rewriting.specs.Lists.{All}
use Rattle.machine.specs.Answers.{records_bytes}
use Rattle.expressions.specs.Expressions.{Expr}
use Rattle.book.specs.Trees.{Tree}
use Rattle.machine.specs.Made.{make, expr_choices}
use Rattle.machine.specs.Turn.{Rooms, turns, loaded}
use Rattle.limits.specs.Sizes.{most_choices}
use Rattle.tagged.specs.Listing.{Broader}
use Rattle.tagged.specs.Terms.{nested, second_of, above_of}
use Rattle.tagged.specs.Hops.{In, first, later, broader_of, Inside, HasCircle}
use Rattle.above.proofs.Book.{B, constructs, second_operates, second-rule}
use Rattle.nights.specs.Costs.{Price, turns_price, choices_price, entries_price, sums, cost_from, costs, cost_at}
use Rattle.nights.proofs.Weights.{Plain, Weighs, Load}
use Rattle.nights.proofs.Paying.{most_record, open_few, Ruled, Law}
use Rattle.nights.proofs.Ends.{by_turns, by_choices, by_entries, Enough, ends_well}
use Rattle.nights.proofs.Costing.{cost_is}
use Rattle.nights.proofs.Nests.{nest_weighs, nest_choices, sum_second, second-items, second-length}

module _ (broader : Broader) (inside : Inside broader) (none : HasCircle broader → ⊥) where
  abbrev n : ℕ
  n = length broader

  -- the symbols that can come: terms, and second operations
  abbrev pub Comes : ℕ → Type 0
  Comes f = (f < n) ⊎ ((x : ℕ) × (x < n) × (f ≡ n + n + x))

  -- a term weighs c, a second operation what its heading costs
  unfoldable pub weight : ℕ → Price → ℕ → ℕ
  weight c price f = elim (ltb f n) [ true ↦ c | false ↦ cost_at price broader (f - (n + n)) ]

  pub weight_term : (c : ℕ) (price : Price) (f : ℕ) → f < n → weight c price f ≡ c
  unfolding weight
  weight_term c price f low = rw (lt-ltb f n low, weight) refl

  pub weight_above : (c : ℕ) (price : Price) (x : ℕ) → weight c price (n + n + x) ≡ cost_at price broader x
  unfolding weight
  weight_above c price x =
      let back : n + n + x - (n + n) ≡ x = omega arith in
      rw (le-ltb (n + n + x) n (omega arith), weight, back) refl

  module _ (c κ γ : ℕ) (price : Price) (extra : ℕ) (each : price.each ≡ κ + c + κ + extra) (μ : ℕ → ℕ → ℕ → ℕ) where
    abbrev φ : ℕ → ℕ
    φ = weight c price

    -- the sum of costs is that of the items
    sums-are : (bs : List ℕ) → ((b : ℕ) → In b bs → b < n) → sums price (costs price broader) bs ≡ sum_second Comes φ κ γ n bs + extra * length bs
    unfolding sums sum_second
    sums-are [] low = omega arith
    sums-are (b ∷ bs) low =
        omega (arith, weight_term c price b (low b first), weight_above c price b, sums-are bs (λ d i. low d (later i)))

    -- the rule of heading x, by its broader terms
    ruled_by : (x : ℕ) → x < n → (bs : List ℕ) → broader_of broader x ≡ bs
        → ((t k a : ℕ) → μ (suc t) (k + 0) a + γ ≤ μ t k a + price.none) → γ ≤ price.none
        → ((m w sum : ℕ) → w + κ ≡ sum → (t k a : ℕ) → μ (suc t) (k + (2 * m + 1)) a + w ≤ μ t k a + (sum + extra * suc m - price.off))
        → ((m w sum : ℕ) → w + κ ≡ sum → w ≤ sum + extra * suc m - price.off)
        → Ruled (B broader) Comes φ κ γ μ (n + n + x)
    unfolding second_of nested expr_choices cost_from
    ruled_by x low [] is none-pays none-light pay light =
        let rule = second-rule broader x low ∙ ap (λ bs. Tree.rule (nested (second_of n bs))) is in
        let cost : φ (n + n + x) ≡ price.none = weight_above c price x ∙ cost_is price broader inside none x low ∙ ap (cost_from price (costs price broader)) is in
        record {
          expr = Expr.fail;
          weight = γ;
          operates = second_operates broader x low;
          is = rule;
          plain = Plain.fails;
          pays = λ t k a. rw cost (none-pays t k a);
          lighter = rw cost none-light;
        }
    ruled_by x low (b ∷ bs) is none-pays none-light pay light =
        let rule = second-rule broader x low ∙ ap (λ bs. Tree.rule (nested (second_of n bs))) is in
        let all-low : (d : ℕ) → In d (b ∷ bs) → d < n = λ d i. inside x d (rw is i) in
        let items = second-items Comes φ κ γ n (b ∷ bs) (λ d i. inl (all-low d i)) (λ d i. inr (d, all-low d i, refl)) in
        let (w, sum, plain) = nest_weighs Comes φ κ γ items in
        let cost : φ (n + n + x) ≡ sum_second Comes φ κ γ n (b ∷ bs) + extra * suc (length bs) - price.off =
        weight_above c price x ∙ cost_is price broader inside none x low ∙ ap (cost_from price (costs price broader)) is ∙ ap (λ k. k - price.off) (sums-are (b ∷ bs) all-low) in
        let choices : expr_choices (nested (second_of n (b ∷ bs))) ≡ 2 * length bs + 1 = nest_choices Comes φ κ γ items ∙ more-items bs in
        record {
          expr = nested (second_of n (b ∷ bs));
          weight = w;
          operates = second_operates broader x low;
          is = rule;
          plain = plain;
          pays = λ t k a. rw (choices, cost) (pay (length bs) w _ sum t k a);
          lighter = rw cost (light (length bs) w _ sum);
        }
      where
        more-items : (bs : List ℕ) → suc (length (second_of n bs)) ≡ 2 * length bs + 1
        more-items bs = omega (arith, second-length n bs)

  -- ---- the three laws

  pub by-turns : Law (B broader) Comes (weight 1 turns_price) 1 1 by_turns
  by-turns = record {
    fail_pays = λ t k a. omega arith;
    choice_pays = λ t k a. omega arith;
    known = known;
  }
    where
      known : (f : ℕ) → Comes f → (((B broader).is_constructor f ≡ true) × ((t k a : ℕ) → by_turns (suc t) k (suc a) ≤ by_turns t k a + weight 1 turns_price f)) ⊎ Ruled (B broader) Comes (weight 1 turns_price) 1 1 by_turns f
      known f (inl low) = inl (constructs broader f low, λ t k a. omega (arith, weight_term 1 turns_price f low))
      known f (inr (x, low, is)) = inr (rw is (ruled_by 1 1 1 turns_price 0 refl by_turns x low (broader_of broader x) refl (λ t k a. omega arith) (omega arith) (λ m w s e t k a. omega arith) (λ m w s e. omega arith)))

  pub by-choices : Law (B broader) Comes (weight 0 choices_price) 0 0 by_choices
  by-choices = record {
    fail_pays = λ t k a. omega arith;
    choice_pays = λ t k a. omega arith;
    known = known;
  }
    where
      known : (f : ℕ) → Comes f → (((B broader).is_constructor f ≡ true) × ((t k a : ℕ) → by_choices (suc t) k (suc a) ≤ by_choices t k a + weight 0 choices_price f))
          ⊎ Ruled (B broader) Comes (weight 0 choices_price) 0 0 by_choices f
      known f (inl low) = inl (constructs broader f low, λ t k a. omega arith)
      known f (inr (x, low, is)) = inr (rw is (ruled_by 0 0 0 choices_price 2 refl by_choices x low (broader_of broader x) refl (λ t k a. omega arith) (omega arith)
          (λ m w s e t k a. omega arith) (λ m w s e. omega arith)))

  pub by_entries_lem : Law (B broader) Comes (weight 1 entries_price) 0 1 by_entries
  by_entries_lem = record {
    fail_pays = λ t k a. omega arith;
    choice_pays = λ t k a. omega arith;
    known = known;
  }
    where
      known : (f : ℕ) → Comes f → (((B broader).is_constructor f ≡ true) × ((t k a : ℕ) → by_entries (suc t) k (suc a) ≤ by_entries t k a + weight 1 entries_price f))
          ⊎ Ruled (B broader) Comes (weight 1 entries_price) 0 1 by_entries f
      known f (inl low) = inl (constructs broader f low, λ t k a. omega (arith, weight_term 1 entries_price f low))
      known f (inr (x, low, is)) = inr (rw is (ruled_by 1 0 1 entries_price 0 refl by_entries x low (broader_of broader x) refl (λ t k a. omega arith) (omega arith)
          (λ m w s e t k a. omega arith) (λ m w s e. omega arith)))

  -- ---- each weighs something

  cost_some : (price : Price) → 0 < price.none → price.off < price.each → (row bs : List ℕ) → 0 < cost_from price row bs
  unfolding cost_from sums
  cost_some price none-some each-some row [] = none-some
  cost_some price none-some each-some row (b ∷ bs) = omega arith

  pub weight_some : (price : Price) → 0 < price.none → price.off < price.each → (f : ℕ) → Comes f → 0 < weight 1 price f
  weight_some price none-some each-some f (inl low) = omega (arith, weight_term 1 price f low)
  weight_some price none-some each-some f (inr (x, low, is)) =
      rw (is, weight_above 1 price x, cost_is price broader inside none x low) (cost_some price none-some each-some (costs price broader) (broader_of broader x))

  pub turn-some : (f : ℕ) → Comes f → 0 < weight 1 turns_price f
  turn-some = weight_some turns_price (omega arith) (omega arith)

  pub entry-some : (f : ℕ) → Comes f → 0 < weight 1 entries_price f
  entry-some = weight_some entries_price (omega arith) (omega arith)

  -- ---- the question

  -- what is loaded costs what its heading does
  pub loaded_enough : (x : ℕ) → x < n
      → Enough (B broader) Comes (weight 1 turns_price) (weight 0 choices_price) (weight 1 entries_price) by-turns by-choices by_entries_lem
      turn-some entry-some
      (loaded (above_of n x)) (cost_at turns_price broader x) (cost_at choices_price broader x) (cost_at entries_price broader x)
  unfolding loaded make records_bytes
  loaded_enough x low =
      let comes : Comes (n + n + x) = inr (x, low, refl) in
      record {
        nodes = refl;
        t = _;
        c = _;
        e = _;
        loadt = Load.more (Weighs.leaf refl comes) Load.none;
        loadc = Load.more (Weighs.leaf refl comes) Load.none;
        loade = Load.more (Weighs.leaf refl comes) Load.none;
        enought = omega (arith, weight_above 1 turns_price x);
        enoughc = omega (arith, weight_above 0 choices_price x);
        enoughe = omega (arith, weight_above 1 entries_price x);
        slim = record { entries = All.more open_few All.none; bytes = omega arith };
      }

  -- "ALL TERMS ABOVE IT" IS FINISHED, with so many turns, choices, nodes, entries and bytes.
  pub above-ends : (x : ℕ) → x < n → (room : Rooms) (fuel : ℕ) → cost_at turns_price broader x ≤ fuel → cost_at choices_price broader x ≤ most_choices
      → 1 + 2 * cost_at choices_price broader x ≤ room.nodes → cost_at entries_price broader x ≤ room.places → 1 + most_record * cost_at entries_price broader x ≤ room.bytes
      → let r = turns (B broader) room fuel (loaded (above_of n x)) in r.number ≡ 0
  unfolding loaded
  above-ends x low room fuel enough few wide places bytes =
      ends_well (B broader) Comes (weight 1 turns_price) (weight 0 choices_price) (weight 1 entries_price) by-turns by-choices by_entries_lem
      turn-some entry-some room
      (cost_at turns_price broader x) (cost_at choices_price broader x) (cost_at entries_price broader x) few wide places bytes fuel (loaded (above_of n x)) (loaded_enough x low) (omega arith)
