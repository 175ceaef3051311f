-- Each circle is found at its lowest heading: from there it goes by headings no lower.
use mathlib.Core.Bool.{Bool, true, false}
use mathlib.Core.Path.{◌≡◌, refl}
use mathlib.Core.Logic.{◌⊎◌, inl, inr}
use Prim.Native.Nat.{ℕ, zero, suc, ◌+◌, ◌≤◌, ◌<◌}
use native.Mathlib.Omega.{arith}
use native.Mathlib.Nat.{not-suc-le-zero}
use native.Mathlib.Decide.{dec_lt}
use lib.ListN.{length}
use Rattle.tagged.specs.Listing.{Broader}
use Rattle.tagged.specs.Hops.{Hops, here, hop}
use Rattle.tagged.specs.Circle.{returns}
use Rattle.circles.specs.Saving.{HopsFrom, still, step}
use Rattle.tagged.proofs.Ways.{has-broader}
use Rattle.tagged.proofs.FirstCircle.{returns_hops}

module _ (broader : Broader) where
  -- hops over a heading below `low`
  record Lower (low k x z : ℕ) : Type 0 where
    pub mid : ℕ
    pub before : ℕ
    pub after : ℕ
    pub sum : k ≡ before + after
    pub less : mid < low
    pub there : Hops broader before x mid
    pub on : Hops broader after mid z

  -- hops go by headings no lower, or over a lower one
  split : (low : ℕ) {k x z : ℕ} → Hops broader k x z → HopsFrom broader low k x z ⊎ Lower low k x z
  split low here = inl still
  split low (hop {k = k} {x = x} {y = y} {z = z} there more) = by (dec_lt x low) (split low more)
    where
      by : Dec (x < low) → HopsFrom broader low k y z ⊎ Lower low k y z → HopsFrom broader low (suc k) x z ⊎ Lower low (suc k) x z
      by (yes less) rest = inr (record { mid = x; before = 0; after = suc k; sum = omega arith; less = less; there = here; on = hop there more })
      by (no high) (inl m) = let le : low ≤ x = omega arith in inl (step le there m)
      by (no high) (inr l) = inr (record {
        mid = l.mid;
        before = suc l.before;
        after = l.after;
        sum = omega (arith, l.sum);
        less = l.less;
        there = hop there l.there;
        on = l.on;
      })

  join : {i j x y z : ℕ} (k : ℕ) → k ≡ i + j → Hops broader i x y → Hops broader j y z → Hops broader k x z
  join {j = j} k is here more = let e : k ≡ j = omega arith in rw e more
  join {j = j} k is (hop {k = i} there rest) more = let e : k ≡ suc (i + j) = omega arith in rw e (hop there (join (i + j) refl rest more))

  -- the lowest heading of a circle
  pub lowest-round : (bound k y : ℕ) → y < bound → Hops broader k y y → (z : ℕ) × (z ≤ y) × HopsFrom broader z k z z
  lowest-round zero k y low hops = absurd (not-suc-le-zero low)
  lowest-round (suc bound) k y low hops = by (split y hops) (lowest-round bound k)
    where
      by : HopsFrom broader y k y y ⊎ Lower y k y y → ((w : ℕ) → w < bound → Hops broader k w w → (z : ℕ) × (z ≤ w) × HopsFrom broader z k z z)
          → (z : ℕ) × (z ≤ y) × HopsFrom broader z k z z
      by (inl all) rest = (y, omega arith, all)
      by (inr l) rest =
          let (z, le, round) = rest l.mid (omega (arith, l.less)) (join k (omega (arith, l.sum)) l.on l.there) in
          (z, omega (arith, le, l.less), round)

  -- so who is not reached from itself by headings no lower, for all headings up to y, is not reached at all
  pub not-returned : (k y : ℕ) → ((z : ℕ) → z ≤ y → HopsFrom broader z k z z → ⊥) → returns broader k y ≡ false
  not-returned k y nobody = by (returns broader k y) refl
    where
      by : (t : Bool) → returns broader k y ≡ t → t ≡ false
      by false is = refl
      by true is = let (z, le, round) = lowest-round (suc y) k y (omega arith) (returns_hops broader k y is) in absurd (nobody z le round)

  -- the last hops of more
  pub last_hops : (low i j k : ℕ) {x z : ℕ} → j ≡ i + k → HopsFrom broader low j x z → (y : ℕ) × HopsFrom broader low k y z
  last_hops low zero j k {x} is hops = let e : j ≡ k = omega arith in (x, rw e at hops)
  last_hops low (suc i) zero k is still = absurd (omega arith)
  last_hops low (suc i) (suc j) k is (step le there more) = last_hops low i j k (omega arith) more

  pub from_low : {low k x z : ℕ} → HopsFrom broader low (suc k) x z → x < length broader
  from_low (step le there more) = has-broader broader there
