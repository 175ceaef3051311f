-- The bytes of a listing's book, 5 + 13 n + 12 m + 4 z for n headings, m BT lines and z headings without BT, and when a size is passed.
use mathlib.Core.Bool.{Bool, true, false, ◌||◌}
use mathlib.Core.Path.{◌≡◌, refl, sym, ap, ◌∙◌}
use mathlib.Core.List.{List, [], ◌∷◌, ◌++◌}
use Prim.Native.Nat.{ℕ, zero, suc, ◌+◌, ◌*◌, ◌≤◌, ◌<◌}
use native.Mathlib.Omega.{arith}
use borrow.Author.Tests.{lt-ltb, le-ltb}
use lib.Dec.{ltb}
use lib.ListN.{length, get_or, replicate, length-append, length-map}
use Rattle.limits.specs.Sizes.{most_book_bytes, most_symbols, most_expression_nodes}
use Rattle.reading.specs.Bytes.{two_bytes}
use Rattle.symbols.specs.Symbols.{Symbols}
use Rattle.expressions.specs.Expressions.{Expr, Exprs}
use Rattle.book.specs.Trees.{Tree, Trees}
use Rattle.tagged.specs.Listing.{Broader}
use Rattle.tagged.specs.Terms.{term, operation, symbols_for, nested, first_of, second_of, rules_before, exempt_before}
use Rattle.tagged.specs.Terms.{first_rules, second_rules, trees_for, rules_for}
use Rattle.tagged.specs.Laid.{symbol_laid, symbols_laid, expr_laid, row_laid, tree_laid, length_first, trees_laid, laid}
use Rattle.tagged.specs.Write.{nodes_of, nodes_of_row, some_over, passes}

-- ---- a nest of terms

-- terms and second operations, without arguments
data Leaves : List Expr → Type 0 where
  none : Leaves []
  more : {f : ℕ} {es : List Expr} → Leaves es → Leaves (Expr.apply f Exprs.no_exprs ∷ es)

-- three bytes each, and one for each choice
nest_bytes : {e : Expr} {es : List Expr} → Leaves (e ∷ es) → 1 + length (expr_laid (nested (e ∷ es))) ≡ 4 * suc (length es)
unfolding expr_laid row_laid nested two_bytes
nest_bytes (more none) = refl
nest_bytes (more {f} (more {f = g} {es} l)) =
    let rest = expr_laid (nested (Expr.apply g Exprs.no_exprs ∷ es)) in
    omega (arith, nest_bytes (more {f = g} l), length-append (expr_laid (Expr.apply f Exprs.no_exprs)) rest)

-- a node each, and one for each choice
nest_nodes : {e : Expr} {es : List Expr} → Leaves (e ∷ es) → 1 + nodes_of (nested (e ∷ es)) ≡ 2 * suc (length es)
unfolding nodes_of nodes_of_row nested
nest_nodes (more none) = refl
nest_nodes (more {f} (more {f = g} {es} l)) = omega (arith, nest_nodes (more {f = g} l))

first-leaves : (bs : List ℕ) → Leaves (first_of bs)
unfolding first_of
first-leaves [] = none
first-leaves (b ∷ bs) = more (first-leaves bs)

second-leaves : (n : ℕ) (bs : List ℕ) → Leaves (second_of n bs)
unfolding second_of
second-leaves n [] = none
second-leaves n (b ∷ bs) = more (more (second-leaves n bs))

first_count : (bs : List ℕ) → length (first_of bs) ≡ length bs
unfolding first_of
first_count bs = simp length-map

second-count : (n : ℕ) (bs : List ℕ) → length (second_of n bs) ≡ 2 * length bs
unfolding second_of
second-count n [] = refl
second-count n (b ∷ bs) = omega (arith, second-count n bs)

-- ---- bytes

-- a heading's three symbols and two rules, if it has so many broader terms
unfoldable pub heading_bytes : ℕ → ℕ
heading_bytes zero = 17
heading_bytes (suc k) = 25 + 12 * k

unfoldable pub all_bytes : Broader → ℕ
all_bytes [] = 0
all_bytes (bs ∷ rest) = heading_bytes (length bs) + all_bytes rest

-- one rule, with its length and its kind in front
abbrev rule_bytes : Expr → ℕ
rule_bytes e = 3 + length (expr_laid e)

rules_bytes : List Expr → ℕ
rules_bytes [] = 0
rules_bytes (e ∷ es) = rule_bytes e + rules_bytes es

rules_append : (xs ys : List Expr) → rules_bytes (xs ++ ys) ≡ rules_bytes xs + rules_bytes ys
unfolding rules_bytes
rules_append [] ys = omega arith
rules_append (x ∷ xs) ys = omega (arith, rules_append xs ys)

two-rules : (n : ℕ) (bs : List ℕ) → 9 + rule_bytes (nested (first_of bs)) + rule_bytes (nested (second_of n bs)) ≡ heading_bytes (length bs)
unfolding expr_laid nested first_of second_of heading_bytes
two-rules n [] = refl
two-rules n (b ∷ bs) =
    omega (arith, nest_bytes (first-leaves (b ∷ bs)), nest_bytes (second-leaves n (b ∷ bs)), first_count bs, second-count n bs)

heading-rules : (n : ℕ) (broader : Broader) → 9 * length broader + rules_bytes (first_rules broader) + rules_bytes (second_rules n broader) ≡ all_bytes broader
unfolding first_rules second_rules all_bytes rules_bytes
heading-rules n [] = refl
heading-rules n (bs ∷ rest) = omega (arith, heading-rules n rest, two-rules n bs)

-- the symbols, three bytes each
terms-bytes : (n : ℕ) (rest : Symbols) → length (symbols_laid (replicate n term ++ rest)) ≡ 3 * n + length (symbols_laid rest)
unfolding symbols_laid symbol_laid
terms-bytes zero rest = omega arith
terms-bytes (suc n) rest = omega (arith, terms-bytes n rest)

operations_bytes : (n : ℕ) → length (symbols_laid (replicate n operation)) ≡ 3 * n
unfolding symbols_laid symbol_laid
operations_bytes zero = refl
operations_bytes (suc n) = omega (arith, operations_bytes n)

symbols-bytes : (n : ℕ) → length (symbols_laid (symbols_for n)) ≡ 9 * n
unfolding symbols_for
symbols-bytes n = omega (arith, terms-bytes n (replicate (n + n) operation), operations_bytes (n + n))

-- the trees
terms_no_tree : (n : ℕ) (rest : Symbols) (ts : Trees) → trees_laid (replicate n term ++ rest) (exempt_before n ts) ≡ trees_laid rest ts
unfolding trees_laid exempt_before
terms_no_tree zero rest ts = refl
terms_no_tree (suc n) rest ts = terms_no_tree n rest ts

rules-laid : (rs : List Expr) → length (trees_laid (replicate (length rs) operation) (rules_before rs Trees.no_trees)) ≡ rules_bytes rs
unfolding trees_laid rules_before length_first tree_laid rules_bytes two_bytes
rules-laid [] = refl
rules-laid (r ∷ rs) =
    let rest = trees_laid (replicate (length rs) operation) (rules_before rs Trees.no_trees) in
    omega (arith, rules-laid rs, length-append (length_first (tree_laid (Tree.rule r))) rest)

module _ (broader : Broader) where
  abbrev n : ℕ
  n = length broader

  abbrev rules : List Expr
  rules = first_rules broader ++ second_rules n broader

  rule-count : length rules ≡ n + n
  unfolding first_rules second_rules
  rule-count = simp (length-append, length-map)

  trees-bytes : length (trees_laid (symbols_for n) (trees_for broader)) ≡ rules_bytes rules
  unfolding symbols_for trees_for
  trees-bytes =
      ap length (terms_no_tree n (replicate (n + n) operation) (rules_before rules Trees.no_trees))
      ∙ ap (λ k. length (trees_laid (replicate k operation) (rules_before rules Trees.no_trees))) (sym rule-count)
      ∙ rules-laid rules

  -- THE BYTES of a listing's book.
  pub book-bytes : length (laid (rules_for broader)) ≡ 5 + all_bytes broader
  unfolding laid rules_for length_first two_bytes
  book-bytes =
      let sy = symbols_laid (symbols_for n) in
      let tr = trees_laid (symbols_for n) (trees_for broader) in
      let both = length-append (length_first sy) (length_first tr) in
      omega (arith, both, symbols-bytes n, trees-bytes, rules_append (first_rules broader) (second_rules n broader), heading-rules n broader)

-- ---- when a size is passed

or_left : (a b : Bool) → a ≡ true → (a || b) ≡ true
or_left a b is = rw is refl

or_right : (a b : Bool) → b ≡ true → (a || b) ≡ true
or_right true b is = refl
or_right false b is = is

or-none : (a b : Bool) → a ≡ false → b ≡ false → (a || b) ≡ false
or-none a b none-a none-b = rw none-a none-b

over_append : (xs ys : List Expr) → some_over ys ≡ true → some_over (xs ++ ys) ≡ true
unfolding some_over
over_append [] ys is = is
over_append (x ∷ xs) ys is = or_right (ltb most_expression_nodes (nodes_of x)) (some_over (xs ++ ys)) (over_append xs ys is)

none_append : (xs ys : List Expr) → some_over xs ≡ false → some_over ys ≡ false → some_over (xs ++ ys) ≡ false
unfolding some_over
none_append [] ys is_x is_y = is_y
none_append (x ∷ xs) ys is_x is_y = by (ltb most_expression_nodes (nodes_of x)) is_x (λ is. none_append xs ys is is_y)
  where
    by : (t : Bool) → (t || some_over xs) ≡ false → (some_over xs ≡ false → some_over (xs ++ ys) ≡ false) → (t || some_over (xs ++ ys)) ≡ false
    by true is rest = absurd (let z : ◌≡◌ {A = ℕ} 0 1 = cc in omega arith)
    by false is rest = rest is

-- 17 BT under one heading: the second rule has 4 k - 1 nodes
second-over : (n : ℕ) (bs : List ℕ) → 17 ≤ length bs → 64 < nodes_of (nested (second_of n bs))
unfolding second_of
second-over n [] long = absurd (omega arith)
second-over n (b ∷ bs) long = omega (arith, nest_nodes (second-leaves n (b ∷ bs)), second-count n bs)

second-few : (n : ℕ) (bs : List ℕ) → length bs ≤ 16 → nodes_of (nested (second_of n bs)) ≤ 64
unfolding second_of nested nodes_of
second-few n [] short = omega arith
second-few n (b ∷ bs) short = omega (arith, nest_nodes (second-leaves n (b ∷ bs)), second-count n bs)

first-few : (bs : List ℕ) → length bs ≤ 16 → nodes_of (nested (first_of bs)) ≤ 64
unfolding first_of nested nodes_of
first-few [] short = omega arith
first-few (b ∷ bs) short = omega (arith, nest_nodes (first-leaves (b ∷ bs)), first_count bs)

seconds_over : (n : ℕ) (broader : Broader) (y : ℕ) → 17 ≤ length (get_or broader y []) → some_over (second_rules n broader) ≡ true
unfolding second_rules some_over
seconds_over n [] y long = absurd (omega arith)
seconds_over n (bs ∷ rest) zero long =
    or_left _ (some_over (second_rules n rest)) (lt-ltb most_expression_nodes (nodes_of (nested (second_of n bs))) (second-over n bs long))
seconds_over n (bs ∷ rest) (suc y) long = or_right (ltb most_expression_nodes (nodes_of (nested (second_of n bs)))) _ (seconds_over n rest y long)

-- each heading has 16 at most
abbrev pub Short : Broader → Type 0
Short broader = (y : ℕ) → length (get_or broader y []) ≤ 16

seconds_few : (n : ℕ) (broader : Broader) → Short broader → some_over (second_rules n broader) ≡ false
unfolding second_rules some_over
seconds_few n [] short = refl
seconds_few n (bs ∷ rest) short =
    or-none _ _ (le-ltb most_expression_nodes (nodes_of (nested (second_of n bs))) (second-few n bs (short 0))) (seconds_few n rest (λ y. short (suc y)))

firsts-few : (broader : Broader) → Short broader → some_over (first_rules broader) ≡ false
unfolding first_rules some_over
firsts-few [] short = refl
firsts-few (bs ∷ rest) short =
    or-none _ _ (le-ltb most_expression_nodes (nodes_of (nested (first_of bs))) (first-few bs (short 0))) (firsts-few rest (λ y. short (suc y)))

module _ (broader : Broader) where
  abbrev many : ℕ
  many = length broader

  abbrev own : List Expr
  own = first_rules broader ++ second_rules many broader

  abbrev bytes : ℕ
  bytes = length (laid (rules_for broader))

  -- 342 headings
  pub passes-headings : 342 ≤ many → passes broader ≡ true
  unfolding passes
  passes-headings over = or_left _ _ (or_left _ (some_over own) (lt-ltb most_symbols (many + (many + many)) (omega arith)))

  -- 17 BT under one
  pub passes-row : (y : ℕ) → 17 ≤ length (get_or broader y []) → passes broader ≡ true
  unfolding passes
  passes-row y long =
      let over = over_append (first_rules broader) (second_rules many broader) (seconds_over many broader y long) in
      or_left _ _ (or_right (ltb most_symbols (many + (many + many))) _ over)

  -- 32,769 bytes
  pub passes-bytes : 32768 < 5 + all_bytes broader → passes broader ≡ true
  unfolding passes
  passes-bytes over =
      or_right (ltb most_symbols (many + (many + many)) || some_over own) _ (lt-ltb most_book_bytes bytes (omega (arith, book-bytes broader)))

  -- none of these
  pub passes_none : many ≤ 341 → Short broader → 5 + all_bytes broader ≤ 32768 → passes broader ≡ false
  unfolding passes
  passes_none few short small =
      let nodes = none_append (first_rules broader) (second_rules many broader) (firsts-few broader short) (seconds_few many broader short) in
      or-none _ _
      (or-none _ _ (le-ltb most_symbols (many + (many + many)) (omega arith)) nodes)
      (le-ltb most_book_bytes bytes (omega (arith, book-bytes broader)))
