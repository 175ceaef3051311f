-- What is told of a tree where its reader returns.
use mathlib.Core.List.{List, ◌∷◌, ◌++◌}
use mathlib.Core.Path.{◌≡◌}
use Prim.Native.Nat.{ℕ, suc, ◌+◌, ◌-◌, ◌<◌}
use native.Mathlib.Omega.{arith}
use lib.ListN.{get_or, set}
use Rattle.reading.specs.Reading.{Reading, got, refusal}
use Rattle.reading.specs.Answer.{keeping, nothing}
use Rattle.reading.proofs.Good.{Good, good-got}
use Rattle.reading.proofs.Keeping.{kept-got}
use Rattle.symbols.specs.Symbols.{Symbols, constructors_of}
use Rattle.book.specs.Trees.{Trees}
use Rattle.book.specs.TreeAt.{trees_with, branched_at, tree_in}
use Rattle.book.specs.Reader.{Marked, MarkedRow}
use Rattle.book.proofs.TreeWays.{Told, branch_read, branch-cases-refused}

-- what holds of whatever is read holds of what was read, of which this was kept
pub kept-good : {A : Type 0} {P : A → ℕ → Type 0} (number : A → ℕ) {k : Reading A} {v n : ℕ} → Good P k → got v n ≡ keeping number k → (a : A) × P a n
kept-good number is told =
    let a = kept-got number _ told in
    (a.0, good-got is a.1)

module _ (bs : List ℕ) (S : Symbols) (sort e depth : ℕ) (vars done : List ℕ) (p : ℕ) where
  -- what is told at one more than the depth below
  pub told_at : {r : Reading ℕ} {was is : List ℕ} → (depth ≡ 0 → ⊥) → Told p r (tree_in bs S sort e (suc (depth - 1)) vars done p) was is
      → (r ≡ keeping nothing (tree_in bs S sort e depth vars done p)) × Marked p (tree_in bs S sort e depth vars done p) was is
  told_at deep told =
      let one_more : suc (depth - 1) ≡ depth = omega arith in
      let at_depth = rw one_more at told in
      (at_depth.answer, at_depth.marks)

-- a branch on x, by what is told of its cases behind `branched(x)`
module _ (bs : List ℕ) (S : Symbols) (sort e : ℕ) (vars done : List ℕ) (p depth : ℕ) (h : p < e) (was : List ℕ) (x q : ℕ) (is inner : List ℕ) (branch : ℕ) where
  -- the row of its cases
  abbrev row : Reading Trees
  row = trees_with bs S sort e (λ sorts k. tree_in bs S sort e depth (inner ++ sorts) (x ∷ done) k) (constructors_of branch S) q

  module _ (code : get_or bs p 0 ≡ 2) (read : got x q ≡ branched_at bs S sort e vars done (p + 1)) (same : inner ≡ vars) (of : branch ≡ get_or vars x 0) where
    pub branch-told : {n : ℕ} → (got 0 n ≡ keeping nothing row) × MarkedRow q row was is → Told p (got 0 n) (tree_in bs S sort e (suc depth) vars done p) was (set is p n)
    branch-told cases =
        let told = rw (same, of) at cases in
        branch_read bs S sort e vars done p depth h was x q is code read told.0 told.1

    pub branch-told-refused : {c j : ℕ} → refusal c j ≡ keeping nothing row → Told p (refusal c j) (tree_in bs S sort e (suc depth) vars done p) was is
    branch-told-refused cases = branch-cases-refused bs S sort e vars done p depth h was x q is code read (rw (same, of) at cases)
