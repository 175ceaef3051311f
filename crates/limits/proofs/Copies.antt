-- A copy in progress: what a loop that copies a row into another has done after j turns (`paste`), for every loop that does so; and a
-- row laid over zeros.
use mathlib.Core.List.{List, ◌++◌}
use mathlib.Core.Path.{◌≡◌, sym, ap, ◌∙◌}
use Prim.Native.Nat.{ℕ, zero, suc, ◌+◌, ◌-◌, ◌≤◌, ◌<◌}
use native.Mathlib.Nat.{sub-zero, zero-sub, suc-sub-suc, zero-add}
use native.Mathlib.Numerals.{add-one}
use native.Mathlib.Omega.{arith}
use lib.ListN.{length, get_or, set, take, drop, replicate, length-replicate}
use lib.Seq.{sets, sets-eq, paste, paste-suc, take-paste, take_all}

module _ {A : Type 0} (d s : List A) (from : ℕ) where
  -- one element more
  pub copy_more : (is : List A) (j : ℕ) (z : A) → is ≡ paste d from s j → from + j < length d → j < length s
      → set is (from + j) (get_or s j z) ≡ paste d from s (j + 1)
  copy_more is j z e h l = ap (λ (r : List A). set r (from + j) (get_or s j z)) e ∙ paste-suc d from s j z h l ∙ ap (paste d from s) (sym (add-one j))

  -- all of them, behind what stood in front
  pub copied : (is : List A) (j : ℕ) → is ≡ paste d from s j → j ≡ length s → from ≤ length d → take (from + length s) is ≡ take from d ++ s
  copied is j e all h =
      ap (take (from + length s)) (e ∙ ap (paste d from s) all) ∙ take-paste d from s (length s) h (omega arith) ∙ ap (λ (r : List A). take from d ++ r) (take_all (length s) s (omega arith))

-- zeros without the first k are the others
pub drop_zeros : (k n : ℕ) → drop k (replicate {A = ℕ} n 0) ≡ replicate (n - k) 0
drop_zeros zero n = simp sub-zero
drop_zeros (suc k) zero = sym (rw zero-sub)
drop_zeros (suc k) (suc n) = rw suc-sub-suc (drop_zeros k n)

-- a row laid over zeros has zeros behind it
pub over_zeros : (row : List ℕ) (n : ℕ) → length row ≤ n → sets (replicate n 0) 0 row ≡ row ++ replicate (n - length row) 0
over_zeros row n h = sets-eq row (replicate n 0) 0 (simp (length-replicate, zero-add) h) ∙ simp (zero-add, drop_zeros)
