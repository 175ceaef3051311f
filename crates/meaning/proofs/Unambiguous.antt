-- The symbols of an answer say which value it is: no two values that fit the sorts have the same symbols.
use mathlib.Core.Path.{◌≡◌, refl, ap, ap₂}
use mathlib.Core.List.{List, [], ◌∷◌, ◌++◌, map, append_assoc}
use Prim.Native.Nat.{ℕ}
use Rattle.symbols.specs.Symbols.{Symbols}
use Rattle.book.specs.Rules.{Book, Rules, book_of}
use Rattle.nodes.specs.Nodes.{Heap}
use Rattle.rewriting.specs.Rewriting.{State, Steps, Value, Values, con, no_values, more_values, IsValue, AreValues, Reaches}
use Rattle.rewriting.specs.Heaps.{InRange}
use Rattle.sorts.specs.Sorts.{arguments_of, HeapFits}
use Rattle.sorts.proofs.HeapsFit.{Sorted, sorted-step}
use Rattle.meaning.proofs.Finite.{step_range}
use Rattle.meaning.specs.Demand3.{flatten, flattens}

-- each constructor has as many arguments as its symbol has sorts
abbrev mutual
  pub Full : Symbols → Value → Type 0
  Full S (con c vs) = FullRow S vs (arguments_of S c)

  pub FullRow : Symbols → Values → List ℕ → Type 0
  FullRow S no_values [] = Unit
  FullRow S no_values (s ∷ ss) = ⊥
  FullRow S (more_values v vs) [] = ⊥
  FullRow S (more_values v vs) (s ∷ ss) = Full S v × FullRow S vs ss

module _ (S : Symbols) where
  mutual
    unfolding flatten

    -- such a value can be read off the front of a row of symbols in one way
    read_off : (v w : Value) (ms ns : List ℕ) → Full S v → Full S w → flatten v ++ ms ≡ flatten w ++ ns → (v ≡ w) × (ms ≡ ns)
    read_off (con c vs) (con d ws) ms ns f g e =
        let same : c ≡ d = cc in
        let (is, rest) = read-row vs ws (arguments_of S c) ms ns f (rw same g) (cc) in
        (ap₂ con same is, rest)

    -- so can a row of them
    read-row : (vs ws : Values) (ss ms ns : List ℕ) → FullRow S vs ss → FullRow S ws ss → flattens vs ++ ms ≡ flattens ws ++ ns
        → (vs ≡ ws) × (ms ≡ ns)
    read-row no_values no_values ss ms ns f g e = (refl, e)
    read-row no_values (more_values w ws) [] ms ns f g e = absurd g
    read-row no_values (more_values w ws) (s ∷ ss) ms ns f g e = absurd f
    read-row (more_values v vs) ws [] ms ns f g e = absurd f
    read-row (more_values v vs) no_values (s ∷ ss) ms ns f g e = absurd g
    read-row (more_values v vs) (more_values w ws) (s ∷ ss) ms ns (f, fs) (g, gs) e =
        let (is, rest) = read_off v w (flattens vs ++ ms) (flattens ws ++ ns) f g (simp append_assoc at e) in
        let (are, last) = read-row vs ws ss ms ns fs gs rest in
        (ap₂ more_values is are, last)

  -- so the symbols say which value it is
  pub flatten_injective : (v w : Value) → Full S v → Full S w → flatten v ≡ flatten w → v ≡ w
  flatten_injective v w f g e = (read_off v w [] [] f g (ap (λ l. l ++ []) e)).0

  -- a value on a well-sorted heap is such
  module _ (B : Book) (h : Heap) (σ : ℕ → ℕ) (heap : HeapFits S σ h) where
    mutual
      value-full : {n : ℕ} {v : Value} → IsValue B h n v → Full S v
      value-full (IsValue.value {m} {c} {xs} {vs} l e k are) = let (known, sort, args) = rw e at (heap m) in rw (← args) (values_full are)

      values_full : {xs : List ℕ} {vs : Values} → AreValues B h xs vs → FullRow S vs (map σ xs)
      values_full AreValues.none = tt
      values_full (AreValues.more is are) = (value-full is, values_full are)

module _ {r : Rules} where
  -- steps keep heaps well-sorted
  steps-sorted : {s t : State} → Sorted r s.heap → InRange s.heap → Steps (book_of r) s t → Sorted r t.heap
  steps-sorted sorted range Steps.done = sorted
  steps-sorted sorted range (Steps.then a rest) = steps-sorted (sorted-step sorted range a) (step_range a range) rest

  -- two values that can be reached and have the same symbols are one
  pub reached-once : (s : State) (n m : ℕ) (v w : Value) → Sorted r s.heap → InRange s.heap → Reaches (book_of r) s n v
      → Reaches (book_of r) s m w
      → flatten v ≡ flatten w → v ≡ w
  unfolding Reaches
  reached-once s n m v w sorted range (t, steps, is) (t', steps', is') =
      let a = steps-sorted sorted range steps in
      let b = steps-sorted sorted range steps' in
      flatten_injective r.symbols v w (value-full r.symbols (book_of r) t.heap a.sorts a.fits is)
      (value-full r.symbols (book_of r) t'.heap b.sorts b.fits is')
