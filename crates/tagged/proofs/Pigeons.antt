-- More than n numbers below n have one of them twice.
use mathlib.Core.Path.{◌≡◌, refl, sym, ap}
use mathlib.Core.Logic.{◌⊎◌, inl, inr, ◌≢◌}
use mathlib.Core.List.{List, [], ◌∷◌, ◌++◌}
use Prim.Native.Nat.{ℕ, zero, suc, ◌≤◌, ◌<◌}
use native.Mathlib.Omega.{arith}
use native.Mathlib.Nat.{not-suc-le-zero}
use native.Mathlib.Decide.{ℕ_discrete}
use lib.ListN.{length}
use Rattle.tagged.specs.Hops.{In, first, later}
use Rattle.tagged.proofs.Members.{in_row}

-- ---- where one stands

abbrev Stands : ℕ → List ℕ → Type 0
Stands a l = (before : List ℕ) × (behind : List ℕ) × (l ≡ before ++ (a ∷ behind))

stands? : (a : ℕ) (l : List ℕ) → Stands a l ⊎ (In a l → ⊥)
stands? a [] = inr (λ i. elim i [ ])
stands? a (b ∷ l) = by (ℕ_discrete a b) (stands? a l)
  where
    by : Dec (a ≡ b) → Stands a l ⊎ (In a l → ⊥) → Stands a (b ∷ l) ⊎ (In a (b ∷ l) → ⊥)
    by (yes is) rest = inl ([], l, ap (λ c. c ∷ l) (sym is))
    by (no differs) (inl (before, behind, is)) = inl (b ∷ before, behind, ap (◌∷◌ b) is)
    by (no differs) (inr none) = inr (λ i. other (in_row i))
      where
        other : (a ≡ b) ⊎ In a l → ⊥
        other (inl is) = differs is
        other (inr i) = none i

-- ---- rows without a number twice

data Distinct : List ℕ → Type 0 where
  none : Distinct []
  more : {a : ℕ} {l : List ℕ} → (In a l → ⊥) → Distinct l → Distinct (a ∷ l)

-- the same number stands twice
pub record Twice (l : List ℕ) : Type 0 where
  pub number : ℕ
  pub before : List ℕ
  pub between : List ℕ
  pub behind : List ℕ
  pub is : l ≡ before ++ (number ∷ (between ++ (number ∷ behind)))

twice? : (l : List ℕ) → Twice l ⊎ Distinct l
twice? [] = inr none
twice? (a ∷ l) = by (stands? a l) (twice? l)
  where
    by : Stands a l ⊎ (In a l → ⊥) → Twice l ⊎ Distinct l → Twice (a ∷ l) ⊎ Distinct (a ∷ l)
    by (inl (between, behind, is)) rest = inl (record { number = a; before = []; between = between; behind = behind; is = ap (◌∷◌ a) is })
    by (inr alone) (inl t) = inl (record { number = t.number; before = a ∷ t.before; between = t.between; behind = t.behind; is = ap (◌∷◌ a) t.is })
    by (inr alone) (inr d) = inr (more alone d)

-- ---- no more than there are to choose from

-- a row without one that stands in it
without : {a : ℕ} (m : List ℕ) → In a m → (rest : List ℕ) × (length m ≡ suc (length rest)) × ((b : ℕ) → In b m → b ≢ a → In b rest)
without {a = a} [] i = elim i [ ]
without (a ∷ m) first = (m, refl, λ b i differs. keeps b (in_row i) differs)
  where
    keeps : (b : ℕ) → (b ≡ a) ⊎ In b m → b ≢ a → In b m
    keeps b (inl is) differs = absurd (differs is)
    keeps b (inr i) differs = i
without {a} (c ∷ m) (later i) = by (without m i)
  where
    by : (rest : List ℕ) × (length m ≡ suc (length rest)) × ((b : ℕ) → In b m → b ≢ a → In b rest)
        → (rest : List ℕ) × (suc (length m) ≡ suc (length rest)) × ((b : ℕ) → In b (c ∷ m) → b ≢ a → In b rest)
    by (rest, long, keeps) = (c ∷ rest, ap suc long, λ b j differs. at_row b (in_row j) differs)
      where
        at_row : (b : ℕ) → (b ≡ c) ⊎ In b m → b ≢ a → In b (c ∷ rest)
        at_row b (inl is) differs = rw is first
        at_row b (inr j) differs = later (keeps b j differs)

few : {l : List ℕ} → Distinct l → (m : List ℕ) → ((a : ℕ) → In a l → In a m) → length l ≤ length m
few none m within = omega arith
few (more {a} {l} alone d) m within =
    let (rest, long, keeps) = without m (within a first) in
    omega (arith, long, few d rest (λ b i. keeps b (within b (later i)) (λ is. alone (rw is at i))))

-- the numbers below n
numbers : ℕ → List ℕ
numbers zero = []
numbers (suc n) = n ∷ numbers n

how-many : (n : ℕ) → length (numbers n) ≡ n
unfolding numbers
how-many zero = refl
how-many (suc n) = ap suc (how-many n)

all_there : (n b : ℕ) → b < n → In b (numbers n)
unfolding numbers
all_there zero b h = absurd (not-suc-le-zero h)
all_there (suc n) b h = by (ℕ_discrete b n) (all_there n b)
  where
    by : Dec (b ≡ n) → (b < n → In b (numbers n)) → In b (n ∷ numbers n)
    by (yes is) rest = rw is first
    by (no differs) rest = later (rest (omega arith))

-- MORE NUMBERS THAN THERE ARE: one stands twice.
pub twice : (n : ℕ) (l : List ℕ) → ((a : ℕ) → In a l → a < n) → n < length l → Twice l
twice n l low many = by (twice? l)
  where
    by : Twice l ⊎ Distinct l → Twice l
    by (inl t) = t
    by (inr d) = absurd (omega (arith, many, how-many n, few d (numbers n) (λ a i. all_there n a (low a i))))
