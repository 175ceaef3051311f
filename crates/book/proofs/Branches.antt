-- A branch that may be made: its variable is bound and no case binds past the last; and the flags of any path tell some variables.
use mathlib.Core.Bool.{Bool, true, false}
use mathlib.Core.List.{List, [], ◌∷◌}
use mathlib.Core.Path.{◌≡◌, refl, sym, ap, ap₂, ◌∙◌}
use Prim.Native.Nat.{ℕ, zero, suc, ◌+◌, ◌≤◌, ◌<◌}
use native.Mathlib.Decide.{ℕ_discrete}
use native.Mathlib.Omega.{arith}
use borrow.Author.Tests.{leb-false, eq-eqb, ne_eqb}
use lib.Dec.{leb}
use lib.ListN.{length, get_or, take}
use lib.Seq.{length-take-le, get_or-take}
use Rattle.limits.specs.Sizes.{most_variables}
use Rattle.reading.specs.Reading.{got}
use Rattle.reading.proofs.Good.{Good, good, good-got, then-good, unless, byte_good}
use Rattle.symbols.specs.Symbols.{Symbols}
use Rattle.book.specs.TreeAt.{is_in, branched_at}
use Rattle.book.proofs.Constructors.{any_past}
use Rattle.book.proofs.Paths.{Flags}

-- the cases of a branch on x bind past the last, as the sorts of a path's variables say it
pub past_bound : (S : Symbols) (sorts : List ℕ) (bound x : ℕ) → bound ≤ length sorts → x < bound
    → any_past (length (take bound sorts)) (get_or (take bound sorts) x 0) S ≡ any_past bound (get_or sorts x 0) S
past_bound S sorts bound x h l = ap₂ (λ (n s : ℕ). any_past n s S) (length-take-le bound sorts h) (get_or-take bound sorts x 0 l)

-- the flags below n tell these variables, and no others
record FlagsBelow (flags : List Bool) (n : ℕ) : Type 0 where
  pub done : List ℕ
  pub below : (x : ℕ) → x < n → is_in x done ≡ get_or flags x false
  pub above : (x : ℕ) → n ≤ x → is_in x done ≡ false

-- one flag more
module _ (flags : List Bool) (n : ℕ) (less : FlagsBelow flags n) where
  -- its variable was not branched on
  flag_unset : get_or flags n false ≡ false → FlagsBelow flags (suc n)
  flag_unset unset = record { done = less.done; below = λ x h. by x h (ℕ_discrete x n); above = λ x h. less.above x (omega arith) }
    where
      by : (x : ℕ) → x < suc n → Dec (x ≡ n) → is_in x less.done ≡ get_or flags x false
      by x h (yes e) = less.above x (omega arith) ∙ sym (ap (λ (k : ℕ). get_or flags k false) e ∙ unset)
      by x h (no other) = less.below x (omega arith)

  -- its variable was branched on
  flag_set : get_or flags n false ≡ true → FlagsBelow flags (suc n)
  unfolding is_in
  flag_set is_set = record {
    done = n ∷ less.done;
    below = λ x h. by x h (ℕ_discrete x n);
    above = λ x h. simp (is_in, ne_eqb x n (λ e. omega arith)) (less.above x (omega arith));
  }
    where
      by : (x : ℕ) → x < suc n → Dec (x ≡ n) → is_in x (n ∷ less.done) ≡ get_or flags x false
      by x h (yes e) = simp (is_in, eq-eqb x n e) (sym (ap (λ (k : ℕ). get_or flags k false) e ∙ is_set))
      by x h (no other) = simp (is_in, ne_eqb x n other) (less.below x (omega arith))

  -- whether or not it was
  flag_more : (b : Bool) → get_or flags n false ≡ b → FlagsBelow flags (suc n)
  flag_more true is_set = flag_set is_set
  flag_more false unset = flag_unset unset

-- the flags below any number tell some variables
flags_below : (flags : List Bool) (n : ℕ) → FlagsBelow flags n
unfolding is_in
flags_below flags zero = record { done = []; below = λ x h. absurd (omega arith); above = λ x h. refl }
flags_below flags (suc n) = flag_more flags n (flags_below flags n) (get_or flags n false) refl

-- so any flags tell some variables
pub flags_some : (flags : List Bool) → (done : List ℕ) × Flags flags done
flags_some flags =
    let told = flags_below flags most_variables in
    (told.done, told.below)

-- a variable to branch on that was read at p, among the bound ones of these sorts
pub record Fitting (S : Symbols) (sorts : List ℕ) (bound e p x q : ℕ) : Type 0 where
  pub there : x < bound
  pub fits : any_past bound (get_or sorts x 0) S ≡ false
  pub behind : q ≡ p + 1
  pub within : q ≤ e

-- the definition reads no other variable
branched_fits : (bs : List ℕ) (S : Symbols) (sort e : ℕ) (vars done : List ℕ) (p : ℕ) → Good (Fitting S vars (length vars) e p) (branched_at bs S sort e vars done p)
unfolding branched_at
branched_fits bs S sort e vars done p =
    then-good (byte_good bs 0 e p) λ x q is.
    unless _ _ (leb (length vars) x) λ _ there. unless _ _ _ λ _ _. unless _ _ _ λ _ fits.
    good (record { there = leb-false (length vars) x there; fits = fits; behind = is.1; within = is.2 })

-- nor does what agrees with the definition at whatever variables the flags tell
pub branch_fits : (bs : List ℕ) (S : Symbols) (sort e : ℕ) (sorts : List ℕ) (bound : ℕ) (flags : List Bool) (p : ℕ) {x q : ℕ} → bound ≤ length sorts
    → ((done : List ℕ) → Flags flags done → got x q ≡ branched_at bs S sort e (take bound sorts) done p) → Fitting S sorts bound e p x q
branch_fits bs S sort e sorts bound flags p {x} {q} h read =
    let some = flags_some flags in
    let is = good-got (branched_fits bs S sort e (take bound sorts) some.0 p) (sym (read some.0 some.1)) in
    let there : x < bound = omega (arith, is.there, length-take-le bound sorts h) in
    record { there = there; fits = sym (past_bound S sorts bound x h there) ∙ is.fits; behind = is.behind; within = is.within }
