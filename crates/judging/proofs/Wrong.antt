-- What is wrong at a node, as the code sees it.
use mathlib.Core.Bool.{Bool, true, false, ◌||◌}
use mathlib.Core.List.{List}
use mathlib.Core.Path.{◌≡◌, refl, sym, ap, ◌∙◌}
use Prim.Native.Nat.{ℕ, zero, suc, ◌<◌, ◌≤◌}
use native.Mathlib.Omega.{arith}
use borrow.Author.Tests.{le-leb, lt-leb}
use lib.Dec.{leb}
use lib.ListN.{length, get_or}
use Rattle.symbols.specs.Symbols.{Symbol, Symbols}
use Rattle.symbols.specs.Table.{symbol_in, symbols_in}
use Rattle.symbols.proofs.Tables.{symbol-there, as_many}
use Rattle.nodes.specs.Numbers.{kind_in, label_in, arrow_in}
use Rattle.rewriting.specs.Lists.{firsts}
use Rattle.sorts.specs.Sorts.{arguments_of}
use Rattle.accepted.specs.Read.{node_by, node_in}
use Rattle.judging.specs.declared.said.Said.{Said}
use Rattle.judging.specs.Sorts.{some_unfit, wrong_by}

module _ (book table m : List ℕ) (met : List Said) (k n : ℕ) where
  abbrev S : Symbols
  S = symbols_in book table

  abbrev wrong : Bool
  wrong = wrong_by S k met (node_in S m n)

  -- an apply's arguments, by the sorts that its symbol asks
  abbrev argued : List ℕ → Bool
  argued ss = some_unfit met (firsts (length ss) (arrow_in m n)) ss

  pub wrong_known : (kind f : ℕ) (r : Bool) → kind ≡ kind_in m n → kind ≡ 0 → f ≡ label_in m n → f < length table
      → r ≡ some_unfit met (firsts (length (symbol_in book (get_or table f 0)).arguments) (arrow_in m n)) (symbol_in book (get_or table f 0)).arguments → r ≡ wrong
  unfolding wrong_by node_by
  wrong_known kind f r q is l lt e =
      let known : label_in m n < length S = omega (arith, l, lt, as_many book table) in
      let same : (symbol_in book (get_or table f 0)).arguments ≡ arguments_of S (label_in m n) =
      sym (ap (λ (x : Symbol). x.arguments) (symbol-there book table f lt)) ∙ ap (λ (g : ℕ). arguments_of S g) l in
      e ∙ ap argued same ∙ rw (sym q ∙ is, wrong_by, lt-leb (length S) (label_in m n) known) refl

  pub wrong_unknown : (kind f : ℕ) → kind ≡ kind_in m n → kind ≡ 0 → f ≡ label_in m n → length table ≤ f → true ≡ wrong
  unfolding wrong_by node_by
  wrong_unknown kind f q is l past =
      let unknown : length S ≤ label_in m n = omega (arith, l, past, as_many book table) in
      rw (sym q ∙ is, wrong_by, le-leb (length S) (label_in m n) unknown) refl

  pub wrong_choice : (kind i : ℕ) → kind ≡ kind_in m n → kind ≡ 1 → i ≡ label_in m n → leb k i ≡ wrong
  unfolding wrong_by node_by
  wrong_choice kind i q is l = rw (l, sym q ∙ is, wrong_by) refl

  pub wrong_other : (kind : ℕ) → kind ≡ kind_in m n → (kind ≡ 0 → ⊥) → (kind ≡ 1 → ⊥) → false ≡ wrong
  unfolding wrong_by node_by
  wrong_other kind q a b = by (kind_in m n) (λ z. a (q ∙ z)) (λ z. b (q ∙ z))
    where
      by : (c : ℕ) → (c ≡ 0 → ⊥) → (c ≡ 1 → ⊥) → false ≡ wrong_by S k met (node_by c S m n)
      by zero a b = absurd (a refl)
      by (suc zero) a b = absurd (b refl)
      by (suc (suc zero)) a b = refl
      by (suc (suc (suc zero))) a b = refl
      by (suc (suc (suc (suc c)))) a b = refl

-- ---- one of three tests

pub first_of : (a b c : Bool) → a ≡ true → true ≡ (a || b || c)
first_of a b c e = rw e refl

pub second_of_lem : (a b c : Bool) → b ≡ true → true ≡ (a || b || c)
second_of_lem true b c e = refl
second_of_lem false b c e = rw e refl

pub third_of : (a b c : Bool) → a ≡ false → b ≡ false → c ≡ (a || b || c)
third_of a b c e f = rw (e, f) refl
