-- Reading a tree, one lemma for each way through the code.
use mathlib.Core.List.{List, ◌∷◌, ◌++◌}
use mathlib.Core.Path.{◌≡◌, refl, sym, ap, ap₂, ◌∙◌}
use Prim.Native.Nat.{ℕ, zero, suc, ◌+◌, ◌<◌}
use native.Mathlib.Omega.{arith}
use borrow.Author.Tests.{eq-eqb, ne_eqb}
use lib.ListN.{get_or, set}
use Rattle.reading.specs.Reading.{Reading, got, refusal}
use Rattle.reading.specs.Bytes.{version_of, byte_at}
use Rattle.reading.specs.Answer.{keeping, nothing}
use Rattle.reading.proofs.AtPlace.{byte_got}
use Rattle.reading.proofs.Good.{good-got}
use Rattle.reading.proofs.Keeping.{kept-got, kept-refusal, then-got, then-refusal, passed, failed-test}
use Rattle.symbols.specs.Symbols.{Symbols, constructors_of}
use Rattle.expressions.specs.ExpressionAt.{left_of, whole_at, whole_expr_at}
use Rattle.expressions.proofs.Extents.{whole_extent}
use Rattle.book.specs.Trees.{Tree, Trees, exempt, rule, branch}
use Rattle.book.specs.TreeAt.{trees_with, branched_at, branch_at, tree_code_at, tree_in}
use Rattle.book.specs.Index.{mark_tree, mark_trees}
use Rattle.book.specs.Reader.{Marked, MarkedRow}
use Rattle.book.proofs.TreeExtents.{branched_extent, row_extent, tree_extent}

-- a tree's reading is told by an answer, and its ends are marked
pub record Told (p : ℕ) (r : Reading ℕ) (t : Reading Tree) (was is : List ℕ) : Type 0 where
  pub answer : r ≡ keeping nothing t
  pub marks : Marked p t was is

-- a tree that is refused
pub told-refused : (p : ℕ) {t : Reading Tree} (was is : List ℕ) {c q : ℕ} → t ≡ refusal c q → Told p (refusal c q) t was is
unfolding keeping Marked
told-refused p {t} was is {c} {q} e = record { answer = rw (e, keeping); marks = rw (e, Marked) tt }

-- a tree that was read, with its own end marked over the ends within it
pub told-read : (p : ℕ) {r : Reading Tree} (was is : List ℕ) (t : Tree) (q : ℕ) → r ≡ got t q → is ≡ mark_tree p t was → Told p (got 0 q) r was is
unfolding keeping Marked
told-read p was is t q e m = record { answer = rw (e, keeping); marks = rw (e, Marked) m }

-- a row that was read is marked
marked-read : (p : ℕ) (was is : List ℕ) {r : Reading Trees} {ts : Trees} {q : ℕ} → r ≡ got ts q → MarkedRow p r was is → is ≡ mark_trees p ts was
unfolding MarkedRow
marked-read p was is e m = rw (e, MarkedRow) at m

module _ (bs : List ℕ) (S : Symbols) (sort e : ℕ) (vars done : List ℕ) (p : ℕ) where
  abbrev tree : ℕ → Reading Tree
  tree depth = tree_in bs S sort e depth vars done p

  -- by its code
  by_code : (depth : ℕ) → p < e → tree (suc depth) ≡ tree_code_at bs S sort e (tree_in bs S sort e depth) (get_or bs p 0) vars done p
  unfolding tree_in
  by_code depth h = then-got _ (sym (byte_got bs 0 e p {v = get_or bs p 0} refl h))

  pub no_depth : (was is : List ℕ) → Told p (refusal 4 p) (tree 0) was is
  unfolding tree_in
  no_depth was is = told-refused p was is refl

  pub no_code : (depth : ℕ) (was is : List ℕ) {c q : ℕ} → refusal c q ≡ byte_at bs 0 e p → Told p (refusal c q) (tree (suc depth)) was is
  unfolding tree_in
  no_code depth was is told = told-refused p was is (then-refusal _ (sym told))

  module _ (depth : ℕ) (h : p < e) (was : List ℕ) where
    pub unknown_code : (is : List ℕ) → 2 < get_or bs p 0 → Told p (refusal 4 p) (tree (suc depth)) was is
    unfolding tree_code_at
    unknown_code is l = told-refused p was is (by_code depth h ∙ unknown (get_or bs p 0) l)
      where
        unknown : (c : ℕ) → 2 < c → tree_code_at bs S sort e (tree_in bs S sort e depth) c vars done p ≡ refusal 4 p
        unknown zero l = absurd (omega arith)
        unknown (suc zero) l = absurd (omega arith)
        unknown (suc (suc zero)) l = absurd (omega arith)
        unknown (suc (suc (suc c))) l = refl

    -- an exempt, not in edition 2
    pub exempt-refused : (is : List ℕ) → get_or bs p 0 ≡ 0 → version_of bs ≡ 2 → Told p (refusal 4 p) (tree (suc depth)) was is
    unfolding tree_code_at
    exempt-refused is c second = told-refused p was is (by_code depth h ∙ rw c (failed-test _ _ _ (eq-eqb (version_of bs) 2 second)))

    pub exempt-read : get_or bs p 0 ≡ 0 → (version_of bs ≡ 2 → ⊥) → Told p (got 0 (p + 1)) (tree (suc depth)) was (set was p (p + 1))
    unfolding tree_code_at mark_tree
    exempt-read c first = told-read p was _ exempt (p + 1) (by_code depth h ∙ rw c (passed _ _ (ne_eqb (version_of bs) 2 first))) refl

    -- a rule whose expression was read
    pub rule-read : {v n : ℕ} → get_or bs p 0 ≡ 1 → got v n ≡ keeping left_of (whole_at bs 0 S e vars sort (p + 1))
        → Told p (got 0 n) (tree (suc depth)) was (set was p n)
    unfolding tree_code_at mark_tree whole_expr_at
    rule-read {n} c told =
        let x = kept-got left_of (whole_at bs 0 S e vars sort (p + 1)) told in
        let at_n = good-got (whole_extent bs 0 S e vars sort (p + 1)) x.1 in
        told-read p was _ (rule x.0.what) n (by_code depth h ∙ rw c (then-got _ (then-got _ x.1))) (ap (set was p) (omega (arith, at_n.size)))

    -- a rule whose expression is refused
    pub rule-refused : (is : List ℕ) {k q : ℕ} → get_or bs p 0 ≡ 1 → refusal k q ≡ keeping left_of (whole_at bs 0 S e vars sort (p + 1))
        → Told p (refusal k q) (tree (suc depth)) was is
    unfolding tree_code_at whole_expr_at
    rule-refused is c told =
        told-refused p was is (by_code depth h ∙ rw c (then-refusal _ (then-refusal _ (kept-refusal left_of (whole_at bs 0 S e vars sort (p + 1)) told))))

    -- a branch on a variable that is refused
    pub branch-refused : (is : List ℕ) {k q : ℕ} → get_or bs p 0 ≡ 2 → refusal k q ≡ branched_at bs S sort e vars done (p + 1)
        → Told p (refusal k q) (tree (suc depth)) was is
    unfolding tree_code_at branch_at
    branch-refused is c told = told-refused p was is (by_code depth h ∙ rw c (then-refusal _ (sym told)))

    -- the cases of a branch on x, from q on
    abbrev pub within : ℕ → List ℕ → ℕ → Reading Tree
    within x sorts k = tree_in bs S sort e depth (vars ++ sorts) (x ∷ done) k

    abbrev pub cases : ℕ → ℕ → Reading Trees
    cases x q = trees_with bs S sort e (within x) (constructors_of (get_or vars x 0) S) q

    -- a branch on x whose cases were read and marked
    pub branch_read : {v n : ℕ} (x q : ℕ) (is : List ℕ) → get_or bs p 0 ≡ 2 → got x q ≡ branched_at bs S sort e vars done (p + 1)
        → got v n ≡ keeping nothing (cases x q) → MarkedRow q (cases x q) was is → Told p (got 0 n) (tree (suc depth)) was (set is p n)
    unfolding tree_code_at branch_at mark_tree
    branch_read {n} x q is c var told marked =
        let ts = kept-got nothing (cases x q) told in
        let behind = good-got (branched_extent bs S sort e vars done (p + 1)) (sym var) in
        let row = good-got (row_extent bs S sort e (within x) (λ sorts k. tree_extent bs S sort e depth (vars ++ sorts) (x ∷ done) k) _ q behind.1) ts.1 in
        let there : q ≡ p + 2 = omega (arith, behind.0) in
        told-read p was _ (branch x ts.0) n (by_code depth h ∙ rw c (then-got _ (sym var) ∙ then-got _ ts.1))
        (ap₂ (λ (m : List ℕ) (k : ℕ). set m p k) (marked-read q was is ts.1 marked ∙ ap (λ (k : ℕ). mark_trees k ts.0 was) there) (omega (arith, behind.0, row.size)))

    -- a branch on x one of whose cases is refused
    pub branch-cases-refused : (x q : ℕ) (is : List ℕ) {k j : ℕ} → get_or bs p 0 ≡ 2 → got x q ≡ branched_at bs S sort e vars done (p + 1)
        → refusal k j ≡ keeping nothing (cases x q) → Told p (refusal k j) (tree (suc depth)) was is
    unfolding tree_code_at branch_at
    branch-cases-refused x q is c var told =
        told-refused p was is (by_code depth h ∙ rw c (then-got _ (sym var) ∙ then-refusal _ (kept-refusal nothing (cases x q) told)))
