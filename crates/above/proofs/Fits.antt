-- The rules of a listing fit their sort, and so does a question that applies one of its symbols.
use mathlib.Core.Path.{◌≡◌, refl, sym, ap, subst, ◌∙◌}
use mathlib.Core.List.{List, [], ◌∷◌}
use Prim.Native.Nat.{ℕ, ◌+◌, ◌-◌, ◌<◌}
use native.Mathlib.Omega.{arith}
use native.Mathlib.Decide.{dec_lt}
use lib.ListN.{length, length-append, length-replicate, get_or-eq_default}
use Rattle.symbols.specs.Symbols.{Symbol, Symbols, no_symbol, symbol_of}
use Rattle.expressions.specs.Expressions.{Expr, Exprs}
use Rattle.book.specs.Trees.{tree_at}
use Rattle.book.specs.Rules.{book_of}
use Rattle.machine.specs.Turn.{loaded}
use Rattle.tagged.specs.Listing.{Broader}
use Rattle.tagged.specs.Terms.{term, operation, symbols_for, nested, first_of, second_of, trees_for, rules_for}
use Rattle.tagged.specs.Hops.{In, first, later, broader_of, Inside}
use Rattle.sorts.specs.Sorts.{sort_of, arguments_of, ExprFits, TreeFits, RulesFit}
use Rattle.sorts.proofs.HeapsFit.{Sorted, loaded-fits}
use Rattle.meaning.specs.Demand3.{question}
use Rattle.above.proofs.ExprBack.{Readable}
use Rattle.above.proofs.Book.{term-at, operation-at, first-rule, second-rule}

-- ---- any row of applications

-- each of these is a symbol without arguments, of sort 0
pub data Fitting (S : Symbols) : List Expr → Type 0 where
  no_items : Fitting S []
  one_more : {f : ℕ} {es : List Expr} → ExprFits S [] (Expr.apply f Exprs.no_exprs) 0 → Fitting S es → Fitting S (Expr.apply f Exprs.no_exprs ∷ es)

pub nest_fits : {S : Symbols} {es : List Expr} → Fitting S es → ExprFits S [] (nested es) 0
unfolding nested
nest_fits no_items = tt
nest_fits (one_more h no_items) = h
nest_fits (one_more h (one_more k fit)) = (h, nest_fits (one_more k fit))

-- it can be read in any edition
pub nest_readable : {S : Symbols} {es : List Expr} → Fitting S es → (version : ℕ) → Readable version [] (nested es)
unfolding nested Readable
nest_readable no_items version = tt
nest_readable (one_more h no_items) version = tt
nest_readable (one_more h (one_more k fit)) version = (tt, nest_readable (one_more k fit) version)

module _ (broader : Broader) (inside : Inside broader) where
  abbrev n : ℕ
  n = length broader

  abbrev S : Symbols
  S = symbols_for n

  -- ---- symbols

  how-many : length S ≡ n + (n + n)
  unfolding symbols_for
  how-many = simp (length-append, length-replicate)

  -- where symbol f is one of these two kinds, it fits
  plain_fits : (f : ℕ) (x : Symbol) → f < n + (n + n) → symbol_of S f ≡ x → x.sort ≡ 0 → x.arguments ≡ [] → ExprFits S [] (Expr.apply f Exprs.no_exprs) 0
  plain_fits f x h is sort none = (omega (arith, how-many), ap (λ (y : Symbol). y.sort) is ∙ sort, rw (ap (λ (y : Symbol). y.arguments) is ∙ none) tt)

  pub symbol-fits : (f : ℕ) → f < n + (n + n) → ExprFits S [] (Expr.apply f Exprs.no_exprs) 0
  symbol-fits f h = by (dec_lt f n)
    where
      by : Dec (f < n) → ExprFits S [] (Expr.apply f Exprs.no_exprs) 0
      by (yes low) = plain_fits f term h (term-at broader f low) refl refl
      by (no high) =
          let past : f ≡ n + (f - n) = omega arith in
          plain_fits f operation h (rw past (operation-at broader (f - n) (omega arith))) refl refl

  -- ---- rules

  pub first_fitting : (bs : List ℕ) → ((b : ℕ) → In b bs → b < n) → Fitting S (first_of bs)
  unfolding first_of
  first_fitting [] low = no_items
  first_fitting (b ∷ bs) low = one_more (symbol-fits b (omega (arith, low b first))) (first_fitting bs (λ c i. low c (later i)))

  pub second_fitting : (bs : List ℕ) → ((b : ℕ) → In b bs → b < n) → Fitting S (second_of n bs)
  unfolding second_of
  second_fitting [] low = no_items
  second_fitting (b ∷ bs) low =
      one_more (symbol-fits b (omega (arith, low b first)))
      (one_more (symbol-fits (n + n + b) (omega (arith, low b first))) (second_fitting bs (λ c i. low c (later i))))

  -- both rules of heading x
  pub first_fits : (x : ℕ) → ExprFits S [] (nested (first_of (broader_of broader x))) 0
  first_fits x = nest_fits (first_fitting (broader_of broader x) (inside x))

  pub second_fits : (x : ℕ) → ExprFits S [] (nested (second_of n (broader_of broader x))) 0
  second_fits x = nest_fits (second_fitting (broader_of broader x) (inside x))

  -- the tree of operation k
  tree-fits : (k : ℕ) → k < n + n → TreeFits S 0 (tree_at (trees_for broader) (n + k)) []
  unfolding book_of rules_for
  tree-fits k h = by (dec_lt k n)
    where
      by : Dec (k < n) → TreeFits S 0 (tree_at (trees_for broader) (n + k)) []
      by (yes low) = rw (first-rule broader k low) (first_fits k)
      by (no high) =
          let past : n + k ≡ n + n + (k - n) = omega arith in
          rw (past, second-rule broader (k - n) (omega arith)) (second_fits (k - n))

  -- THE RULES FIT
  pub rules-fit : RulesFit (rules_for broader)
  unfolding rules_for no_symbol
  rules-fit f operates = by (dec_lt f n) (dec_lt f (n + (n + n)))
    where
      by : Dec (f < n) → Dec (f < n + (n + n)) → TreeFits S (sort_of S f) (tree_at (trees_for broader) f) (arguments_of S f)
      by (yes low) b = absurd (let z : ◌≡◌ {A = ℕ} 0 1 = cc (term-at broader f low) in omega arith)
      by (no high) (yes h) =
          let past : f ≡ n + (f - n) = omega arith in
          let is : symbol_of S f ≡ operation = rw past (operation-at broader (f - n) (omega arith)) in
          subst (λ (y : Symbol). TreeFits S y.sort (tree_at (trees_for broader) f) y.arguments) (sym is)
          (subst (λ (m : ℕ). TreeFits S 0 (tree_at (trees_for broader) m) []) (sym past) (tree-fits (f - n) (omega arith)))
      by (no high) (no over) =
          absurd (let z : ◌≡◌ {A = ℕ} 0 1 = cc (get_or-eq_default S no_symbol {n = f} (omega (arith, how-many))) in omega arith)

  -- A QUESTION THAT APPLIES A SYMBOL FITS
  pub question-sorted : (f : ℕ) → f < n + (n + n) → Sorted (rules_for broader) (question (Expr.apply f Exprs.no_exprs)).heap
  unfolding rules_for loaded
  question-sorted f h =
      let (sorts, fits, root) = loaded-fits S (Expr.apply f Exprs.no_exprs) 0 (symbol-fits f h) in
      record { rules = rules-fit; sorts = sorts; fits = fits }
