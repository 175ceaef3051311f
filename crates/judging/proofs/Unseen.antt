-- Nodes that are not seen, and how many they are.
use mathlib.Core.Bool.{Bool, true, false}
use mathlib.Core.List.{List}
use mathlib.Core.Path.{◌≡◌, refl, sym, ap, ap₂, ◌∙◌}
use Prim.Native.Nat.{ℕ, zero, suc, ◌+◌, ◌<◌, ◌≤◌}
use native.Mathlib.Decide.{ℕ_discrete, dec_lt}
use native.Mathlib.Omega.{arith}
use lib.ListN.{length, get_or, set}
use lib.Seq.{get_or-set_same, get_or-set_other}
use Rattle.judging.specs.Search.{missing, unseen}

-- ---- counting

is_seen : (v : Bool) → v ≡ true → missing v ≡ 0
unfolding missing
is_seen v q = rw q refl

not_seen : (v : Bool) → (v ≡ true → ⊥) → missing v ≡ 1
unfolding missing
not_seen true q = absurd (q refl)
not_seen false q = refl

-- what is not seen
pub no-true : (v : Bool) → v ≡ false → v ≡ true → ⊥
no-true true f q = absurd (let z : ◌≡◌ {A = ℕ} 0 1 = cc in omega arith)
no-true false f q = absurd (let z : ◌≡◌ {A = ℕ} 0 1 = cc in omega arith)

-- nodes past the first n do not count
unseen-past : (n i : ℕ) (seen : List Bool) → n ≤ i → unseen n (set seen i true) ≡ unseen n seen
unfolding unseen
unseen-past zero i seen le = refl
unseen-past (suc n) i seen le =
    ap₂ ◌+◌ (ap missing (get_or-set_other seen i n true false (λ q. omega arith))) (unseen-past n i seen (omega arith))

-- one more is seen
pub unseen-less : (n i : ℕ) (seen : List Bool) → i < n → i < length seen → (get_or seen i false ≡ true → ⊥) → suc (unseen n (set seen i true)) ≡ unseen n seen
unfolding unseen
unseen-less zero i seen lt inside other = absurd (omega arith)
unseen-less (suc n) i seen lt inside other = by (ℕ_discrete n i) (λ lt. unseen-less n i seen lt inside other)
  where
    by : Dec (n ≡ i) → (i < n → suc (unseen n (set seen i true)) ≡ unseen n seen)
        → suc (missing (get_or (set seen i true) n false) + unseen n (set seen i true)) ≡ missing (get_or seen n false) + unseen n seen
    by (yes q) ih =
        let now = is_seen (get_or (set seen i true) n false) (ap (λ (k : ℕ). get_or (set seen i true) k false) q ∙ get_or-set_same seen i true false inside) in
        let was = not_seen (get_or seen n false) (λ z. other (ap (λ (k : ℕ). get_or seen k false) (sym q) ∙ z)) in
        omega (arith, now, was, unseen-past n i seen (omega arith))
    by (no q) ih = omega (arith, ap missing (get_or-set_other seen i n true false q), ih (between n i lt q))
      where
        between : (n i : ℕ) → i < suc n → (n ≡ i → ⊥) → i < n
        between n i lt q = elim (dec_lt i n) [ yes le ↦ le | no ge ↦ absurd (q (omega arith)) ]
