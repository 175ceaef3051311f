-- The book of a listing, symbol by symbol: which are constructors, and what the rule of each operation is.
use mathlib.Core.Bool.{true, false, not}
use mathlib.Core.Path.{◌≡◌, refl, ap, ◌∙◌}
use mathlib.Core.List.{List, [], ◌∷◌, ◌++◌}
use Prim.Native.Nat.{ℕ, zero, suc, ◌+◌, ◌<◌}
use native.Mathlib.Omega.{arith}
use native.Mathlib.Nat.{not-suc-le-zero}
use lib.ListN.{length, get_or, replicate, length-append, length-replicate, length-map, get_or-replicate, get_or-append, get_or-map}
use lib.Seq.{get_or-append-add}
use Rattle.symbols.specs.Symbols.{Symbol, no_symbol, symbol_of}
use Rattle.expressions.specs.Expressions.{Expr}
use Rattle.book.specs.Trees.{Tree, Trees, tree_at}
use Rattle.book.specs.Rules.{Book, book_of}
use Rattle.tagged.specs.Listing.{Broader}
use Rattle.tagged.specs.Terms.{term, operation, symbols_for, nested, first_of, second_of, rules_before, exempt_before, first_rules, second_rules, trees_for, rules_for}
use Rattle.tagged.specs.Hops.{broader_of}

-- ---- rows of trees

past-exempt : (n k : ℕ) (ts : Trees) → tree_at (exempt_before n ts) (n + k) ≡ tree_at ts k
unfolding tree_at exempt_before
past-exempt zero k ts = ap (tree_at ts) (omega arith)
past-exempt (suc n) k ts =
    let next : suc n + k ≡ suc (n + k) = omega arith in
    rw next (past-exempt n k ts)

rule-at : (es : List Expr) (k : ℕ) (ts : Trees) → k < length es → tree_at (rules_before es ts) k ≡ Tree.rule (get_or es k Expr.fail)
unfolding tree_at rules_before
rule-at [] k ts h = absurd (not-suc-le-zero h)
rule-at (e ∷ es) zero ts h = refl
rule-at (e ∷ es) (suc k) ts h = rule-at es k ts (omega arith)

module _ (broader : Broader) where
  abbrev n : ℕ
  n = length broader

  abbrev pub B : Book
  B = book_of (rules_for broader)

  -- ---- symbols

  pub term-at : (f : ℕ) → f < n → symbol_of (symbols_for n) f ≡ term
  unfolding symbols_for
  term-at f h =
      get_or-append (replicate n term) (replicate (n + n) operation) no_symbol f (simp length-replicate h)
      ∙ get_or-replicate n f term no_symbol h

  pub operation-at : (k : ℕ) → k < n + n → symbol_of (symbols_for n) (n + k) ≡ operation
  unfolding symbols_for
  operation-at k h =
      let seam = get_or-append-add (replicate n term) (replicate (n + n) operation) k no_symbol in
      rw (length-replicate n term) at seam ∙ get_or-replicate (n + n) k operation no_symbol h

  -- headings are constructors
  pub constructs : (f : ℕ) → f < n → B.is_constructor f ≡ true
  unfolding book_of rules_for
  constructs f h = ap (λ (x : Symbol). not x.is_operation) (term-at f h)

  operates : (k : ℕ) → k < n + n → B.is_constructor (n + k) ≡ false
  unfolding book_of rules_for
  operates k h = ap (λ (x : Symbol). not x.is_operation) (operation-at k h)

  -- both operations of a heading are operations
  pub first_operates : (x : ℕ) → x < n → B.is_constructor (n + x) ≡ false
  first_operates x h = operates x (omega arith)

  pub second_operates : (x : ℕ) → x < n → B.is_constructor (n + n + x) ≡ false
  second_operates x h =
      let next : n + n + x ≡ n + (n + x) = omega arith in
      rw next (operates (n + x) (omega arith))

  -- ---- rules

  -- the rule of an operation
  ruled : (k : ℕ) → k < n + n → B.tree (n + k) ≡ Tree.rule (get_or (first_rules broader ++ second_rules n broader) k Expr.fail)
  unfolding book_of rules_for trees_for first_rules second_rules
  ruled k h =
      past-exempt n k _ ∙ rule-at (first_rules broader ++ second_rules n broader) k Trees.no_trees
      (simp (length-append, length-map) h)

  -- the first of heading x
  pub first-rule : (x : ℕ) → x < n → B.tree (n + x) ≡ Tree.rule (nested (first_of (broader_of broader x)))
  unfolding first_rules second_rules nested first_of
  first-rule x h =
      ruled x (omega arith)
      ∙ ap Tree.rule (get_or-append (first_rules broader) (second_rules n broader) Expr.fail x (simp length-map h)
      ∙ get_or-map (λ (bs : List ℕ). nested (first_of bs)) broader x [])

  -- the second
  pub second-rule : (x : ℕ) → x < n → B.tree (n + n + x) ≡ Tree.rule (nested (second_of n (broader_of broader x)))
  unfolding first_rules second_rules nested second_of
  second-rule x h =
      let next : n + n + x ≡ n + (n + x) = omega arith in
      let seam = get_or-append-add (first_rules broader) (second_rules n broader) x Expr.fail in
      let long : length (first_rules broader) ≡ n = length-map broader _ in
      rw next (ruled (n + x) (omega arith)
      ∙ ap Tree.rule ((rw long at seam) ∙ get_or-map (λ (bs : List ℕ). nested (second_of n bs)) broader x []))
