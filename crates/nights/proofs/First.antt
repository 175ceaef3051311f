-- "Its broader terms" of any heading, with circles or without: with k of them, 2 + 2k turns, k choices and 1 + k entries are enough.
use mathlib.Core.Bool.{true, false}
use mathlib.Core.Path.{◌≡◌, refl, sym, ap, ◌∙◌}
use mathlib.Core.Logic.{◌⊎◌, inl, inr}
use mathlib.Core.List.{List, [], ◌∷◌}
use Prim.Native.Nat.{ℕ, suc, ◌+◌, ◌*◌, ◌≤◌, ◌<◌}
use native.Mathlib.Omega.{arith}
use borrow.Author.Tests.{lt-ltb, le-ltb}
use lib.Dec.{ltb}
use lib.ListN.{length}
use Rattle.rewriting.specs.Lists.{All}
use Rattle.machine.specs.Answers.{records_bytes}
use Rattle.limits.specs.Sizes.{most_choices}
use Rattle.expressions.specs.Expressions.{Expr}
use Rattle.book.specs.Trees.{Tree}
use Rattle.machine.specs.Made.{make, expr_choices}
use Rattle.machine.specs.Turn.{Rooms, turns, loaded}
use Rattle.tagged.specs.Listing.{Broader}
use Rattle.tagged.specs.Terms.{nested, first_of, broader_than}
use Rattle.tagged.specs.Hops.{broader_of, Inside}
use Rattle.above.proofs.Book.{B, constructs, first_operates, first-rule}
use Rattle.nights.proofs.Weights.{Plain, Weighs, Load}
use Rattle.nights.proofs.Paying.{most_record, open_few, Ruled, Law}
use Rattle.nights.proofs.Ends.{by_turns, by_choices, by_entries, Enough, ends_well}
use Rattle.nights.proofs.Nests.{nest_weighs, nest_choices, first-items, sum_first_lem, first-length}

module _ (broader : Broader) (inside : Inside broader) (x : ℕ) (low : x < length broader) where
  abbrev n : ℕ
  n = length broader

  abbrev k : ℕ
  k = length (broader_of broader x)

  -- the symbols that can come: terms, and this operation
  abbrev Comes : ℕ → Type 0
  Comes f = (f < n) ⊎ (f ≡ n + x)

  unfoldable weight : ℕ → ℕ → ℕ → ℕ
  weight c own f = elim (ltb f n) [ true ↦ c | false ↦ own ]

  weight_term : (c own f : ℕ) → f < n → weight c own f ≡ c
  unfolding weight
  weight_term c own f less = rw (lt-ltb f n less, weight) refl

  weight_own : (c own : ℕ) → weight c own (n + x) ≡ own
  unfolding weight
  weight_own c own = rw (le-ltb (n + x) n (omega arith), weight) refl

  module _ (c own κ γ : ℕ) (μ : ℕ → ℕ → ℕ → ℕ) where
    abbrev φ : ℕ → ℕ
    φ = weight c own

    -- its rule, by its broader terms
    ruled_by : (bs : List ℕ) → broader_of broader x ≡ bs
        → ((t j a : ℕ) → μ (suc t) (j + 0) a + γ ≤ μ t j a + own) → γ ≤ own
        → ((m w : ℕ) → suc m ≡ k → w + κ ≡ (κ + c) * suc m → (t j a : ℕ) → μ (suc t) (j + m) a + w ≤ μ t j a + own)
        → ((m w : ℕ) → suc m ≡ k → w + κ ≡ (κ + c) * suc m → w ≤ own)
        → Ruled (B broader) Comes φ κ γ μ (n + x)
    unfolding first_of nested expr_choices
    ruled_by [] is none-pays none-light pay light = record {
      expr = Expr.fail;
      weight = γ;
      operates = first_operates broader x low;
      is = first-rule broader x low ∙ ap (λ bs. Tree.rule (nested (first_of bs))) is;
      plain = Plain.fails;
      pays = λ t j a. rw (weight_own c own) (none-pays t j a);
      lighter = rw (weight_own c own) none-light;
    }
    ruled_by (b ∷ bs) is none-pays none-light pay light =
        let items = first-items Comes φ κ γ (b ∷ bs) (λ d i. inl (inside x d (rw is i))) in
        let (w, sum, plain) = nest_weighs Comes φ κ γ items in
        let all : w + κ ≡ (κ + c) * suc (length bs) = sum ∙ sum_first_lem Comes φ κ γ c (b ∷ bs) (λ d i. weight_term c own d (inside x d (rw is i))) in
        let many : suc (length bs) ≡ k = sym (ap length is) in
        let choices : expr_choices (nested (first_of (b ∷ bs))) ≡ length bs = nest_choices Comes φ κ γ items ∙ first-length bs in
        record {
          expr = nested (first_of (b ∷ bs));
          weight = w;
          operates = first_operates broader x low;
          is = first-rule broader x low ∙ ap (λ bs. Tree.rule (nested (first_of bs))) is;
          plain = plain;
          pays = λ t j a. rw (choices, weight_own c own) (pay (length bs) w many all t j a);
          lighter = rw (weight_own c own) (light (length bs) w many all);
        }

  -- ---- the three laws

  abbrev φt : ℕ → ℕ
  φt = weight 1 (2 + 2 * k)

  abbrev φc : ℕ → ℕ
  φc = weight 0 k

  abbrev φe : ℕ → ℕ
  φe = weight 1 (1 + k)

  by-turns : Law (B broader) Comes φt 1 1 by_turns
  by-turns = record { fail_pays = λ t j a. omega arith; choice_pays = λ t j a. omega arith; known = known }
    where
      known : (f : ℕ) → Comes f → (((B broader).is_constructor f ≡ true) × ((t j a : ℕ) → by_turns (suc t) j (suc a) ≤ by_turns t j a + φt f)) ⊎ Ruled (B broader) Comes φt 1 1 by_turns f
      known f (inl less) = inl (constructs broader f less, λ t j a. omega (arith, weight_term 1 (2 + 2 * k) f less))
      known f (inr is) = inr (rw is (ruled_by 1 (2 + 2 * k) 1 1 by_turns (broader_of broader x) refl (λ t j a. omega arith) (omega arith) (λ m w many all t j a. omega arith) (λ m w many all. omega arith)))

  by-choices : Law (B broader) Comes φc 0 0 by_choices
  by-choices = record { fail_pays = λ t j a. omega arith; choice_pays = λ t j a. omega arith; known = known }
    where
      known : (f : ℕ) → Comes f → (((B broader).is_constructor f ≡ true) × ((t j a : ℕ) → by_choices (suc t) j (suc a) ≤ by_choices t j a + φc f)) ⊎ Ruled (B broader) Comes φc 0 0 by_choices f
      known f (inl less) = inl (constructs broader f less, λ t j a. omega arith)
      known f (inr is) = inr (rw is (ruled_by 0 k 0 0 by_choices (broader_of broader x) refl (λ t j a. omega arith) (omega arith) (λ m w many all t j a. omega arith) (λ m w many all. omega arith)))

  by_entries_lem : Law (B broader) Comes φe 0 1 by_entries
  by_entries_lem = record { fail_pays = λ t j a. omega arith; choice_pays = λ t j a. omega arith; known = known }
    where
      known : (f : ℕ) → Comes f → (((B broader).is_constructor f ≡ true) × ((t j a : ℕ) → by_entries (suc t) j (suc a) ≤ by_entries t j a + φe f)) ⊎ Ruled (B broader) Comes φe 0 1 by_entries f
      known f (inl less) = inl (constructs broader f less, λ t j a. omega (arith, weight_term 1 (1 + k) f less))
      known f (inr is) = inr (rw is (ruled_by 1 (1 + k) 0 1 by_entries (broader_of broader x) refl (λ t j a. omega arith) (omega arith) (λ m w many all t j a. omega arith) (λ m w many all. omega arith)))

  some_of_lem : (own : ℕ) → 0 < own → (f : ℕ) → Comes f → 0 < weight 1 own f
  some_of_lem own some f (inl less) = omega (arith, weight_term 1 own f less)
  some_of_lem own some f (inr is) = rw (is, weight_own 1 own) some

  turn-some : (f : ℕ) → Comes f → 0 < φt f
  turn-some = some_of_lem (2 + 2 * k) (omega arith)

  entry-some : (f : ℕ) → Comes f → 0 < φe f
  entry-some = some_of_lem (1 + k) (omega arith)

  -- ---- the question

  loaded_enough : Enough (B broader) Comes φt φc φe by-turns by-choices by_entries_lem turn-some entry-some (loaded (broader_than n x)) (2 + 2 * k) k (1 + k)
  unfolding loaded make records_bytes
  loaded_enough =
      let comes : Comes (n + x) = inr refl in
      record {
        nodes = refl;
        t = _;
        c = _;
        e = _;
        loadt = Load.more (Weighs.leaf refl comes) Load.none;
        loadc = Load.more (Weighs.leaf refl comes) Load.none;
        loade = Load.more (Weighs.leaf refl comes) Load.none;
        enought = omega (arith, weight_own 1 (2 + 2 * k));
        enoughc = omega (arith, weight_own 0 k);
        enoughe = omega (arith, weight_own 1 (1 + k));
        slim = record { entries = All.more open_few All.none; bytes = omega arith };
      }

  -- "ITS BROADER TERMS" IS FINISHED.
  pub first_ends : (room : Rooms) (fuel : ℕ) → 2 + 2 * k ≤ fuel → k ≤ most_choices → 1 + 2 * k ≤ room.nodes → 1 + k ≤ room.places → 1 + most_record * (1 + k) ≤ room.bytes
      → let r = turns (B broader) room fuel (loaded (broader_than n x)) in r.number ≡ 0
  unfolding loaded
  first_ends room fuel enough few wide places bytes =
      ends_well (B broader) Comes φt φc φe by-turns by-choices by_entries_lem turn-some entry-some room (2 + 2 * k) k (1 + k) few wide places bytes fuel
      (loaded (broader_than n x)) loaded_enough (omega arith)
