-- The arrows of a node, as the code reads them.
use mathlib.Core.Bool.{Bool, true, false, ◌||◌}
use mathlib.Core.List.{List, [], ◌∷◌}
use mathlib.Core.Path.{◌≡◌, refl, sym, ap, ◌∙◌}
use Prim.Native.Nat.{ℕ, zero, suc, ◌+◌, ◌<◌, ◌≤◌}
use native.Mathlib.Omega.{arith}
use lib.ListN.{length, get_or, drop, get_or-eq_default}
use Rattle.symbols.specs.Symbols.{Symbol, no_symbol}
use Rattle.symbols.specs.Table.{symbol_in, symbols_in}
use Rattle.symbols.proofs.Tables.{symbol-there, as_many}
use Rattle.nodes.specs.Numbers.{kind_in, label_in, arrow_in}
use Rattle.rewriting.proofs.Lists.{length-firsts, get_or_firsts}
use Rattle.sorts.specs.Sorts.{arguments_of}
use Rattle.accepted.specs.Read.{node_by, node_in}
use Rattle.accepted.specs.Faults.{some_of, arrows_of}

-- ---- how many arrows

module _ (book table m : List ℕ) (n : ℕ) where
  -- the node
  abbrev many : ℕ
  many = length (arrows_of (node_in (symbols_in book table) m n))

  -- an apply has as many as its symbol takes
  apply-many : kind_in m n ≡ 0 → many ≡ length (arguments_of (symbols_in book table) (label_in m n))
  unfolding node_by arrows_of
  apply-many is = rw is (length-firsts (length (arguments_of (symbols_in book table) (label_in m n))) (arrow_in m n))

  pub known_many : (kind f r : ℕ) → kind ≡ kind_in m n → kind ≡ 0 → f ≡ label_in m n → f < length table → r ≡ length
      (symbol_in book (get_or table f 0)).arguments → r ≡ many
  known_many kind f r k is l lt e =
      e ∙ ap (λ (x : Symbol). length x.arguments) (sym (symbol-there book table f lt)) ∙ ap
      (λ (g : ℕ). length (arguments_of (symbols_in book table) g)) l ∙ sym (apply-many (sym k ∙ is))

  pub unknown_many : (kind f : ℕ) → kind ≡ kind_in m n → kind ≡ 0 → f ≡ label_in m n → length table ≤ f → 0 ≡ many
  unfolding no_symbol
  unknown_many kind f k is l past =
      sym (apply-many (sym k ∙ is) ∙ ap (λ (x : Symbol). length x.arguments)
      (get_or-eq_default (symbols_in book table) no_symbol (omega (arith, l, past, as_many book table))))

  pub choice-many : (kind : ℕ) → kind ≡ kind_in m n → kind ≡ 1 → 2 ≡ many
  unfolding node_by arrows_of
  choice-many kind k is = rw (sym k ∙ is) refl

  pub forward-many : (kind : ℕ) → kind ≡ kind_in m n → kind ≡ 3 → 1 ≡ many
  unfolding node_by arrows_of
  forward-many kind k is = rw (sym k ∙ is) refl

  pub other-many : (kind : ℕ) → kind ≡ kind_in m n → (kind ≡ 0 → ⊥) → (kind ≡ 1 → ⊥) → (kind ≡ 3 → ⊥) → 0 ≡ many
  unfolding node_by arrows_of
  other-many kind k a b d = by (kind_in m n) (λ z. a (k ∙ z)) (λ z. b (k ∙ z)) (λ z. d (k ∙ z))
    where
      by : (c : ℕ) → (c ≡ 0 → ⊥) → (c ≡ 1 → ⊥) → (c ≡ 3 → ⊥) → 0 ≡ length (arrows_of (node_by c (symbols_in book table) m n))
      by zero a b d = absurd (a refl)
      by (suc zero) a b d = absurd (b refl)
      by (suc (suc zero)) a b d = refl
      by (suc (suc (suc zero))) a b d = absurd (d refl)
      by (suc (suc (suc (suc c)))) a b d = refl

  -- the j-th of them
  pub nth-arrow : (j : ℕ) → j < many → get_or (arrows_of (node_in (symbols_in book table) m n)) j 0 ≡ arrow_in m n j
  unfolding node_by arrows_of
  nth-arrow j lt = by (kind_in m n) lt
    where
      by : (c : ℕ) → j < length (arrows_of (node_by c (symbols_in book table) m n)) → get_or (arrows_of (node_by c (symbols_in book table) m n)) j 0 ≡ arrow_in m n j
      by zero lt = get_or_firsts (length (arguments_of (symbols_in book table) (label_in m n))) (arrow_in m n) j 0 (rw length-firsts at lt)
      by (suc zero) lt = two j lt
        where
          two : (i : ℕ) → i < 2 → get_or (arrow_in m n 0 ∷ arrow_in m n 1 ∷ []) i 0 ≡ arrow_in m n i
          two zero lt = refl
          two (suc zero) lt = refl
          two (suc (suc i)) lt = absurd (omega arith)
      by (suc (suc zero)) lt = absurd (omega arith)
      by (suc (suc (suc zero))) lt = one j lt
        where
          one : (i : ℕ) → i < 1 → get_or (arrow_in m n 0 ∷ []) i 0 ≡ arrow_in m n i
          one zero lt = refl
          one (suc i) lt = absurd (omega arith)
      by (suc (suc (suc (suc c)))) lt = absurd (omega arith)

-- ---- some of a row, from a place on

-- none before place j, and then what is left
pub none_left : (bad : ℕ → Bool) (xs : List ℕ) (j : ℕ) → length xs ≤ j → some_of bad (drop j xs) ≡ false
unfolding some_of
none_left bad [] zero le = refl
none_left bad [] (suc j) le = refl
none_left bad (x ∷ xs) zero le = absurd (omega arith)
none_left bad (x ∷ xs) (suc j) le = none_left bad xs j (omega arith)

pub one_more : (bad : ℕ → Bool) (xs : List ℕ) (j : ℕ) → j < length xs → some_of bad (drop j xs) ≡ (bad (get_or xs j 0) || some_of bad (drop (suc j) xs))
unfolding some_of
one_more bad [] j lt = absurd (omega arith)
one_more bad (x ∷ []) zero lt = refl
one_more bad (x ∷ (y ∷ xs)) zero lt = refl
one_more bad (x ∷ xs) (suc j) lt = one_more bad xs j (omega arith)

-- one that is not bad, and one that is
pub step-none : (bad : ℕ → Bool) (xs : List ℕ) (j x : ℕ) → j < length xs → get_or xs j 0 ≡ x → bad x ≡ false → some_of bad (drop j xs) ≡ some_of bad
    (drop (j + 1) xs)
step-none bad xs j x lt is e =
    let here : bad (get_or xs j 0) ≡ false = ap bad is ∙ e in
    let next : suc j ≡ j + 1 = omega arith in
    one_more bad xs j lt ∙ rw (here, next) refl

pub step-some : (bad : ℕ → Bool) (xs : List ℕ) (j x : ℕ) → j < length xs → get_or xs j 0 ≡ x → bad x ≡ true → some_of bad (drop j xs) ≡ true
step-some bad xs j x lt is e =
    let here : bad (get_or xs j 0) ≡ true = ap bad is ∙ e in
    one_more bad xs j lt ∙ rw here refl
