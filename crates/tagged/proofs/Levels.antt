-- Levels: a chain as long as the level, and none longer.
use mathlib.Core.Path.{◌≡◌, refl}
use mathlib.Core.Logic.{◌⊎◌, inl, inr}
use mathlib.Core.List.{List, [], ◌∷◌}
use Prim.Native.Nat.{ℕ, zero, suc, max, ◌≤◌, ◌<◌}
use native.Mathlib.Omega.{arith}
use native.Mathlib.Nat.{not-suc-le-zero}
use native.Mathlib.Decide.{dec_lt}
use lib.ListN.{length, get_or, replicate, get_or-map, get_or-replicate, get_or-eq_default, length-replicate}
use Rattle.tagged.specs.Listing.{Broader}
use Rattle.tagged.specs.Hops.{In, first, later, broader_of, IsBroader, Hops, here, hop, HasCircle}
use Rattle.tagged.specs.Levels.{longest, chains, levels}
use Rattle.tagged.specs.Told.{IsLevel}
use Rattle.tagged.proofs.Ways.{chain-short}

-- ---- one hop

-- the longest is 0, or one hop more than some broader term's
longest-is : (row bs : List ℕ) → (longest row bs ≡ 0) ⊎ ((b : ℕ) × In b bs × (longest row bs ≡ suc (get_or row b 0)))
unfolding longest
longest-is row [] = inl refl
longest-is row (b ∷ bs) = by (dec_lt (longest row bs) (suc (get_or row b 0))) (longest-is row bs)
  where
    by : Dec (longest row bs < suc (get_or row b 0)) → (longest row bs ≡ 0) ⊎ ((c : ℕ) × In c bs × (longest row bs ≡ suc (get_or row c 0)))
        → (max (suc (get_or row b 0)) (longest row bs) ≡ 0) ⊎ ((c : ℕ) × In c (b ∷ bs) × (max (suc (get_or row b 0)) (longest row bs) ≡ suc (get_or row c 0)))
    by (yes low) rest = inr (b, first, omega arith)
    by (no high) (inl is) = inr (b, first, omega arith)
    by (no high) (inr (c, there, is)) = inr (c, later there, omega arith)

-- and no less than any
pub longest-over : (row : List ℕ) {b : ℕ} {bs : List ℕ} → In b bs → suc (get_or row b 0) ≤ longest row bs
unfolding longest
longest-over row first = omega arith
longest-over row (later i) = omega (arith, longest-over row i)

module _ (broader : Broader) where
  -- ---- chains of so many hops

  pub chains-none : (x : ℕ) → get_or (chains broader 0) x 0 ≡ 0
  unfolding chains
  chains-none x = by (dec_lt x (length broader))
    where
      by : Dec (x < length broader) → ◌≡◌ {A = ℕ} (get_or (replicate (length broader) 0) x 0) 0
      by (yes low) = get_or-replicate (length broader) x 0 0 low
      by (no high) = get_or-eq_default (replicate (length broader) 0) 0 {n = x} (omega (arith, length-replicate {A = ℕ} (length broader) 0))

  pub chains-more : (k x : ℕ) → get_or (chains broader (suc k)) x 0 ≡ longest (chains broader k) (broader_of broader x)
  unfolding chains longest
  chains-more k x = get_or-map (longest (chains broader k)) broader x []

  -- there is a chain that long
  pub chain-there : (k x : ℕ) → (y : ℕ) × Hops broader (get_or (chains broader k) x 0) x y
  chain-there zero x = rw (chains-none x) (x, here)
  chain-there (suc k) x = rw (chains-more k x) (by (longest-is (chains broader k) (broader_of broader x)) (chain-there k))
    where
      by : (longest (chains broader k) (broader_of broader x) ≡ 0)
          ⊎ ((b : ℕ) × IsBroader broader x b × (longest (chains broader k) (broader_of broader x) ≡ suc (get_or (chains broader k) b 0)))
          → ((z : ℕ) → (y : ℕ) × Hops broader (get_or (chains broader k) z 0) z y)
          → (y : ℕ) × Hops broader (longest (chains broader k) (broader_of broader x)) x y
      by (inl is) rest = rw is (x, here)
      by (inr (b, there, is)) rest = let (y, hops) = rest b in rw is (y, hop there hops)

  -- and none of so few hops is longer
  pub chain-most : (k j : ℕ) {x y : ℕ} → Hops broader j x y → j ≤ k → j ≤ get_or (chains broader k) x 0
  chain-most k zero hops le = omega arith
  chain-most zero (suc j) hops le = absurd (not-suc-le-zero le)
  chain-most (suc k) (suc j) {x} (hop {y = b} there hops) le =
      rw (chains-more k x) (omega (arith, chain-most k j hops (omega arith), longest-over (chains broader k) there))

  -- WITHOUT A CIRCLE THE LEVELS ARE THE LONGEST CHAINS.
  pub levels-are : (HasCircle broader → ⊥) → (x : ℕ) → IsLevel broader x (get_or (levels broader) x 0)
  unfolding levels
  levels-are none x = record {
    chain = chain-there (length broader) x;
    longest = λ j y hops. chain-most (length broader) j hops (chain-short broader none j hops);
  }
