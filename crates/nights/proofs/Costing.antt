-- Without a circle the costs settle: each heading costs what its broader terms' costs make.
use mathlib.Core.Path.{◌≡◌, refl, sym, ap, ◌∙◌}
use mathlib.Core.List.{List, [], ◌∷◌}
use Prim.Native.Nat.{ℕ, zero, suc, ◌-◌, ◌≤◌, ◌<◌}
use native.Mathlib.Omega.{arith}
use native.Mathlib.Nat.{not-suc-le-zero}
use lib.ListN.{length, get_or}
use Rattle.rewriting.proofs.Lists.{get_or_mapped}
use Rattle.tagged.specs.Listing.{Broader}
use Rattle.tagged.specs.Hops.{In, first, later, broader_of, IsBroader, Inside, hop, HasCircle}
use Rattle.tagged.specs.Levels.{levels}
use Rattle.tagged.proofs.Levels.{levels-are}
use Rattle.tagged.proofs.Ways.{chain-short}
use Rattle.nights.specs.Costs.{Price, sums, cost_from, rounds, costs, cost_at}

-- the same costs of the broader terms make the same cost
sums_same : (price : Price) (row row' bs : List ℕ) → ((b : ℕ) → In b bs → get_or row b 0 ≡ get_or row' b 0) → sums price row bs ≡ sums price row' bs
unfolding sums
sums_same price row row' [] same = refl
sums_same price row row' (b ∷ bs) same = omega (arith, same b first, sums_same price row row' bs (λ c i. same c (later i)))

cost_same : (price : Price) (row row' bs : List ℕ) → ((b : ℕ) → In b bs → get_or row b 0 ≡ get_or row' b 0) → cost_from price row bs ≡ cost_from price row' bs
unfolding cost_from
cost_same price row row' [] same = refl
cost_same price row row' (b ∷ bs) same = ap (λ k. k - price.off) (sums_same price row row' (b ∷ bs) same)

module _ (price : Price) (broader : Broader) (inside : Inside broader) (none : HasCircle broader → ⊥) where
  abbrev n : ℕ
  n = length broader

  abbrev level : ℕ → ℕ
  level x = get_or (levels broader) x 0

  -- a broader term is on a lower level
  lower_level : (x b : ℕ) → IsBroader broader x b → level b < level x
  lower_level x b there =
      let (y, hops) = (levels-are broader none b).chain in
      (levels-are broader none x).longest (suc (level b)) y (hop there hops)

  -- no level is above the count of headings
  low_level : (x : ℕ) → level x ≤ n
  low_level x = let (y, hops) = (levels-are broader none x).chain in chain-short broader none (level x) hops

  one-round : (k x : ℕ) → x < n → get_or (rounds price broader (suc k)) x 0 ≡ cost_from price (rounds price broader k) (broader_of broader x)
  unfolding rounds
  one-round k x low = get_or_mapped (cost_from price (rounds price broader k)) broader x [] 0 low

  -- after more rounds than its level a heading's cost stays
  settled : (k x : ℕ) → x < n → level x < k → get_or (rounds price broader (suc k)) x 0 ≡ get_or (rounds price broader k) x 0
  settled zero x low high = absurd (not-suc-le-zero high)
  settled (suc k) x low high =
      one-round (suc k) x low
      ∙ cost_same price (rounds price broader (suc k)) (rounds price broader k) (broader_of broader x)
      (λ b there. settled k b (inside x b there) (omega (arith, lower_level x b there)))
      ∙ sym (one-round k x low)

  -- A HEADING COSTS WHAT ITS BROADER TERMS' COSTS MAKE.
  pub cost_is : (x : ℕ) → x < n → cost_at price broader x ≡ cost_from price (costs price broader) (broader_of broader x)
  unfolding costs
  cost_is x low =
      one-round n x low
      ∙ cost_same price (rounds price broader n) (rounds price broader (suc n)) (broader_of broader x)
      (λ b there. sym (settled n b (inside x b there) (omega (arith, lower_level x b there, low_level x))))
