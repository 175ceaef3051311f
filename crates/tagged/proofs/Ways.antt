-- Ways and hops: a way over headings is so many hops, and one with more hops than there are headings goes round a shorter circle.
use mathlib.Core.Path.{◌≡◌, refl, sym, ap}
use mathlib.Core.List.{List, [], ◌∷◌, ◌++◌}
use Prim.Native.Nat.{ℕ, zero, suc, ◌≤◌, ◌<◌}
use native.Mathlib.Omega.{arith}
use native.Mathlib.Decide.{dec_lt}
use lib.ListN.{length, length-append, get_or-eq_default}
use Rattle.tagged.specs.Listing.{Broader}
use Rattle.tagged.specs.Hops.{In, first, later, IsBroader, Hops, here, hop, HasCircle}
use Rattle.tagged.specs.Told.{Way, last, next}
use Rattle.tagged.proofs.Pigeons.{twice}

module _ (broader : Broader) where
  -- whoever has a broader term is a heading
  pub has-broader : {x y : ℕ} → IsBroader broader x y → x < length broader
  has-broader {x} {y} there = by (dec_lt x (length broader))
    where
      nobody : In y [] → ⊥
      nobody i = elim i [ ]

      by : Dec (x < length broader) → x < length broader
      by (yes low) = low
      by (no high) = absurd (nobody (rw (get_or-eq_default broader [] {n = x} (omega arith)) at there))

  -- ---- ways and hops

  pub way_hops : {x z : ℕ} {ys : List ℕ} → Way broader x ys z → Hops broader (suc (length ys)) x z
  way_hops (last there) = hop there here
  way_hops (next there way) = hop there (way_hops way)

  pub hops_way : (k : ℕ) {x z : ℕ} → Hops broader (suc k) x z → (ys : List ℕ) × (length ys ≡ k) × Way broader x ys z
  hops_way zero (hop there here) = ([], refl, last there)
  hops_way (suc k) (hop {y = y} there more) = let (ys, long, way) = hops_way k more in (y ∷ ys, ap suc long, next there way)

  -- each heading of a way has a broader term
  way-low : {x z : ℕ} {ys : List ℕ} → Way broader x ys z → (a : ℕ) → In a (x ∷ ys) → a < length broader
  way-low (last there) a first = has-broader there
  way-low (last {z = z} there) a (later i) = elim i [ ]
  way-low (next there way) a first = has-broader there
  way-low (next there way) a (later i) = way-low way a i

  -- ---- parts of a way

  -- from a heading on it
  way-from : (before : List ℕ) {x z d : ℕ} {ys rest : List ℕ} → Way broader x ys z → before ++ (d ∷ rest) ≡ x ∷ ys → Way broader d rest z
  way-from [] {x} {d = d} {ys} {rest} way is =
      let start : x ≡ d = cc in
      let same : ys ≡ rest = cc in
      rw (start, same) at way
  way-from (b ∷ before) {d = d} {rest = rest} (last there) is =
      absurd (omega (arith, ap length is, length-append before (d ∷ rest)))
  way-from (b ∷ before) {d = d} {rest = rest} (next {y = y} {ys = ys} there way) is =
      let tail : before ++ (d ∷ rest) ≡ y ∷ ys = cc in
      way-from before way tail

  -- up to a heading on it
  way_upto : (between : List ℕ) {d z : ℕ} (e : ℕ) (behind : List ℕ) → Way broader d (between ++ (e ∷ behind)) z → Way broader d between e
  way_upto [] e behind (next there way) = last there
  way_upto (b ∷ between) e behind (next there way) = next there (way_upto between e behind way)

  -- ---- circles

  -- a way with more headings than there are has a circle that is shorter
  round : {x z : ℕ} {ys : List ℕ} → Way broader x ys z → length broader < length (x ∷ ys) → (d : ℕ) × (between : List ℕ) × (length between < length ys) × Way broader d between d
  round {x} {ys = ys} way many =
      let t = twice (length broader) (x ∷ ys) (way-low way) many in
      let part = way-from t.before way (sym t.is) in
      let long = ap length t.is in
      let sum = length-append t.before (t.number ∷ (t.between ++ (t.number ∷ t.behind))) in
      let inner = length-append t.between (t.number ∷ t.behind) in
      (t.number, t.between, omega arith, way_upto t.between t.number t.behind part)

  -- a circle of no more headings than there are
  abbrev pub Small : Type 0
  Small = (d : ℕ) × (k : ℕ) × (suc k ≤ length broader) × Hops broader (suc k) d d

  -- so where there is one, there is such a one
  smaller : {x : ℕ} {ys : List ℕ} → Way broader x ys x → ((d : ℕ) (between : List ℕ) → length between < length ys → Way broader d between d → Small) → Small
  smaller {x} {ys} way rest = by (dec_lt (length broader) (length (x ∷ ys)))
    where
      by : Dec (length broader < length (x ∷ ys)) → Small
      by (no few) = (x, length ys, omega arith, way_hops way)
      by (yes many) = let (d, between, less, inner) = round way many in rest d between less inner

  small-circle : (bound : ℕ) {x : ℕ} {ys : List ℕ} → length ys ≤ bound → Way broader x ys x → Small
  small-circle zero le way = smaller way (λ d between less inner. absurd (omega arith))
  small-circle (suc bound) le way = smaller way (λ d between less inner. small-circle bound (omega arith) inner)

  pub circle-small : HasCircle broader → Small
  circle-small (x, (k, hops)) = let (ys, long, way) = hops_way k hops in small-circle (length ys) (omega arith) way

  -- and without one no chain is longer than there are headings
  pub chain-short : (HasCircle broader → ⊥) → (j : ℕ) {x y : ℕ} → Hops broader j x y → j ≤ length broader
  chain-short none zero hops = omega arith
  chain-short none (suc k) {x} {y} hops =
      let (ys, long, way) = hops_way k hops in
      by ys long way (dec_lt (length broader) (suc k))
    where
      by : (ys : List ℕ) → length ys ≡ k → Way broader x ys y → Dec (length broader < suc k) → suc k ≤ length broader
      by ys long way (no few) = omega arith
      by ys long way (yes many) = let (d, between, less, inner) = round way (omega arith) in absurd (none (d, (length between, way_hops inner)))
