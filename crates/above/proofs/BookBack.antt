-- The book of a listing is read back: within the sizes of document 01 its bytes are admitted, and mean its symbols and trees.
use mathlib.Core.Bool.{Bool, true, false, ◌||◌}
use mathlib.Core.Path.{◌≡◌, refl, sym, ap, ◌∙◌}
use mathlib.Core.List.{List, [], ◌∷◌, ◌++◌, append_assoc, append-nil}
use Prim.Native.Nat.{ℕ, zero, suc, ◌+◌, ◌-◌, ◌*◌, ◌≤◌, ◌<◌}
use native.Mathlib.Omega.{arith}
use native.Mathlib.Nat.{not-suc-le-zero}
use borrow.Author.Tests.{le-ltb, lt-ltb, lt-leb, ne_eqb, ltb-false}
use lib.Dec.{ltb}
use lib.ListN.{length, get_or, drop, replicate, length-append, length-replicate, length-map}
use Rattle.limits.specs.Sizes.{most_book_bytes, most_symbols, most_expression_nodes, most_variables}
use Rattle.reading.specs.Reading.{got, ◌then◌, refuse◌at◌if◌else◌}
use Rattle.reading.specs.Bytes.{version_of, two_bytes}
use Rattle.symbols.specs.Symbols.{Symbol, Symbols}
use Rattle.symbols.specs.SymbolPart.{sorts_at, symbol_at, symbols_at, opened, symbol_part}
use Rattle.expressions.specs.Expressions.{Expr}
use Rattle.book.specs.Trees.{Tree, Trees}
use Rattle.book.specs.TreeAt.{tree_code_at, tree_in, item_at, trees_of, tree_part}
use Rattle.book.specs.Admission.{read_book}
use Rattle.tagged.specs.Listing.{Broader}
use Rattle.tagged.specs.Terms.{term, operation, symbols_for, rules_before, exempt_before, first_rules, second_rules, trees_for, rules_for}
use Rattle.tagged.specs.Laid.{symbol_laid, symbols_laid, expr_laid, tree_laid, length_first, trees_laid, laid}
use Rattle.tagged.specs.Write.{nodes_of, some_over, passes}
use Rattle.tagged.specs.Hops.{In, first, later, broader_of, Inside}
use Rattle.sorts.specs.Sorts.{ExprFits}
use Rattle.above.proofs.Standing.{goes_on, passes-test, one_at, behind, two_at, byte_reads, length_reads}
use Rattle.above.proofs.ExprBack.{Readable, whole_reads}
use Rattle.above.proofs.Fits.{nest_fits, nest_readable, first_fitting, second_fitting}

-- ---- symbols

-- a symbol of sort 0 without arguments
abbrev pub plain : Bool → Symbol
plain kind = record { is_operation = kind; sort = 0; arguments = [] }

pub data Plain : Symbols → Type 0 where
  none : Plain []
  more : {kind : Bool} {rest : Symbols} → Plain rest → Plain (plain kind ∷ rest)

plain_before : (n : ℕ) (kind : Bool) {rest : Symbols} → Plain rest → Plain (replicate n (plain kind) ++ rest)
plain_before zero kind p = p
plain_before (suc n) kind p = more (plain_before n kind p)

-- three bytes each
plain_bytes : {S : Symbols} → Plain S → length (symbols_laid S) ≡ 3 * length S
unfolding symbols_laid symbol_laid
plain_bytes none = refl
plain_bytes (more p) = omega (arith, plain_bytes p)

pub symbol_reads : (bs : List ℕ) (kind : Bool) (e before p : ℕ) (xs : List ℕ) → p + 3 ≤ e → before < most_symbols
    → drop p bs ≡ symbol_laid (plain kind) ++ xs → symbol_at bs e before p ≡ got (plain kind) (p + 3)
unfolding symbol_at symbol_laid sorts_at ◌then◌ refuse◌at◌if◌else◌
symbol_reads bs false e before p xs inside few stands =
    let a = one_at bs p 2 (0 ∷ 0 ∷ xs) stands in
    let b = one_at bs (p + 1) 0 (0 ∷ xs) a.1 in
    let two : p + 2 ≡ p + 1 + 1 = omega arith in
    let three : p + 1 + 2 ≡ p + 3 = omega arith in
    let c : get_or bs (p + 2) 0 ≡ 0 = rw two (one_at bs (p + 1 + 1) 0 xs b.1).0 in
    rw (a.0, b.0, c, three, le-ltb e (p + 3) inside, lt-leb most_symbols before few) refl
symbol_reads bs true e before p xs inside few stands =
    let a = one_at bs p 2 (1 ∷ 0 ∷ xs) stands in
    let b = one_at bs (p + 1) 1 (0 ∷ xs) a.1 in
    let two : p + 2 ≡ p + 1 + 1 = omega arith in
    let three : p + 1 + 2 ≡ p + 3 = omega arith in
    let c : get_or bs (p + 2) 0 ≡ 0 = rw two (one_at bs (p + 1 + 1) 0 xs b.1).0 in
    rw (a.0, b.0, c, three, le-ltb e (p + 3) inside, lt-leb most_symbols before few) refl

-- none is left, or one more
symbols-end : (bs : List ℕ) (bound e before p : ℕ) → e ≤ p → symbols_at bs (suc bound) e before p ≡ got [] p
unfolding symbols_at
symbols-end bs bound e before p over = rw (le-ltb p e over, symbols_at) refl

pub symbols-more : (bs : List ℕ) (bound e before p : ℕ) → p < e
    → symbols_at bs (suc bound) e before p
    ≡ ◌then◌ (symbol_at bs e before p) (λ (x : Symbol) (q : ℕ). ◌then◌ (symbols_at bs bound e (suc before) q) (λ (rest : Symbols) (r : ℕ). got (x ∷ rest) r))
unfolding symbols_at
symbols-more bs bound e before p inside = rw (lt-ltb p e inside, symbols_at) refl

symbols-read : (bs : List ℕ) {S : Symbols} → Plain S → (bound e before p : ℕ) (xs : List ℕ) → length S ≤ bound → before + length S ≤ most_symbols
    → p + length (symbols_laid S) ≡ e → drop p bs ≡ symbols_laid S ++ xs → symbols_at bs bound e before p ≡ got S e
unfolding symbols_laid symbols_at symbol_laid
symbols-read bs none zero e before p xs enough few ends stands = ap (got []) (omega arith)
symbols-read bs none (suc bound) e before p xs enough few ends stands = symbols-end bs bound e before p (omega arith) ∙ ap (got []) (omega arith)
symbols-read bs (more s) zero e before p xs enough few ends stands = absurd (not-suc-le-zero enough)
symbols-read bs (more {kind} {rest} s) (suc bound) e before p xs enough few ends stands =
    let own = symbol_laid (plain kind) in
    let long : length (own ++ symbols_laid rest) ≡ 3 + length (symbols_laid rest) = length-append own (symbols_laid rest) in
    let bytes : drop p bs ≡ own ++ (symbols_laid rest ++ xs) = stands ∙ append_assoc own (symbols_laid rest) xs in
    symbols-more bs bound e before p (omega (arith, long))
    ∙ goes_on _ (symbol_reads bs kind e before p (symbols_laid rest ++ xs) (omega (arith, long)) (omega arith) bytes)
    ∙ goes_on _ (symbols-read bs s bound e (suc before) (p + 3) xs (omega arith) (omega arith) (omega (arith, long)) (behind bs p own (symbols_laid rest ++ xs) bytes))

-- ---- trees

module _ (bs : List ℕ) (S : Symbols) where
  -- a rule is read back
  rule_reads : (sort e p : ℕ) (vars : List ℕ) (x : Expr) (xs : List ℕ) → ExprFits S vars x sort → Readable (version_of bs) vars x → nodes_of x ≤ most_expression_nodes
      → p + length (tree_laid (Tree.rule x)) ≤ e → drop p bs ≡ tree_laid (Tree.rule x) ++ xs
      → tree_in bs S sort e (suc most_variables) vars [] p ≡ got (Tree.rule x) (p + length (tree_laid (Tree.rule x)))
  unfolding tree_in tree_code_at tree_laid
  rule_reads sort e p vars x xs fits able few inside stands =
      goes_on _ (byte_reads bs 0 e p 1 (expr_laid x ++ xs) (omega arith) stands)
      ∙ goes_on _ (whole_reads bs 0 S e vars x sort (p + 1) xs fits able few (omega arith) (one_at bs p 1 (expr_laid x ++ xs) stands).1)
      ∙ ap (got (Tree.rule x)) (omega arith)

  -- with its length in front
  pub item_reads : (x : Symbol) (e p : ℕ) (r : Expr) (xs : List ℕ) → ExprFits S x.arguments r x.sort → Readable (version_of bs) x.arguments r → nodes_of r ≤ most_expression_nodes
      → p + length (length_first (tree_laid (Tree.rule r))) ≤ e → drop p bs ≡ length_first (tree_laid (Tree.rule r)) ++ xs
      → item_at bs S e x p ≡ got (Tree.rule r) (p + length (length_first (tree_laid (Tree.rule r))))
  unfolding item_at length_first two_bytes
  item_reads x e p r xs fits able few inside stands =
      let tree = tree_laid (Tree.rule r) in
      let two = two_at bs p (length tree) (tree ++ xs) stands in
      goes_on _ (length_reads bs 0 e p (length tree) (tree ++ xs) (omega arith) stands)
      ∙ goes_on _ (rule_reads x.sort (p + 2 + length tree) (p + 2) x.arguments r xs fits able few (omega arith) two.1)
      ∙ passes-test _ _ _ (le-ltb (p + 2 + length tree) (p + 2 + length tree) (omega arith))
      ∙ ap (got (Tree.rule r)) (omega arith)

-- each of these rules fits sort 0, and has no more nodes than an expression may have
data Sound (S : Symbols) : List Expr → Type 0 where
  none : Sound S []
  more : {r : Expr} {rs : List Expr} → ExprFits S [] r 0 → ((version : ℕ) → Readable version [] r) → nodes_of r ≤ most_expression_nodes → Sound S rs → Sound S (r ∷ rs)

-- the rules of operations
rules-read : (bs : List ℕ) (S : Symbols) (e : ℕ) {rs : List Expr} → Sound S rs → (p : ℕ) (xs : List ℕ)
    → let own = trees_laid (replicate (length rs) operation) (rules_before rs Trees.no_trees) in
    p + length own ≤ e → drop p bs ≡ own ++ xs
    → trees_of bs S e (replicate (length rs) operation) p ≡ got (rules_before rs Trees.no_trees) (p + length own)
unfolding trees_of trees_laid rules_before
rules-read bs S e none p xs inside stands = ap (got Trees.no_trees) (omega arith)
rules-read bs S e (more {r} {rs} fits able few s) p xs inside stands =
    let own = length_first (tree_laid (Tree.rule r)) in
    let others = trees_laid (replicate (length rs) operation) (rules_before rs Trees.no_trees) in
    let long = length-append own others in
    let bytes : drop p bs ≡ own ++ (others ++ xs) = stands ∙ append_assoc own others xs in
    goes_on _ (item_reads bs S operation e p r (others ++ xs) fits (able (version_of bs)) few (omega arith) bytes)
    ∙ goes_on _ (rules-read bs S e s (p + length own) xs (omega arith) (behind bs p own (others ++ xs) bytes))
    ∙ ap (got (Trees.more_trees (Tree.rule r) (rules_before rs Trees.no_trees))) (omega arith)

-- behind constructors
terms-read : (bs : List ℕ) (S : Symbols) (e n : ℕ) (rest : Symbols) (ts : Trees) (p q : ℕ) → trees_of bs S e rest p ≡ got ts q
    → trees_of bs S e (replicate n term ++ rest) p ≡ got (exempt_before n ts) q
unfolding trees_of exempt_before
terms-read bs S e zero rest ts p q is = is
terms-read bs S e (suc n) rest ts p q is = goes_on _ (terms-read bs S e n rest ts p q is)

terms-laid : (n : ℕ) (rest : Symbols) (ts : Trees) → trees_laid (replicate n term ++ rest) (exempt_before n ts) ≡ trees_laid rest ts
unfolding trees_laid exempt_before
terms-laid zero rest ts = refl
terms-laid (suc n) rest ts = terms-laid n rest ts

-- ---- the rules of a listing, within the sizes

pub or-false : (a b : Bool) → (a || b) ≡ false → (a ≡ false) × (b ≡ false)
or-false true b is = absurd (let z : ◌≡◌ {A = ℕ} 0 1 = cc in omega arith)
or-false false b is = (refl, is)

-- each rule fits
pub data Fit (S : Symbols) : List Expr → Type 0 where
  none : Fit S []
  more : {r : Expr} {rs : List Expr} → ExprFits S [] r 0 → ((version : ℕ) → Readable version [] r) → Fit S rs → Fit S (r ∷ rs)

fit_append : {S : Symbols} {rs ts : List Expr} → Fit S rs → Fit S ts → Fit S (rs ++ ts)
fit_append none g = g
fit_append (more h able f) g = more h able (fit_append f g)

-- and none is over
sound_of : {S : Symbols} {rs : List Expr} → Fit S rs → some_over rs ≡ false → Sound S rs
unfolding some_over
sound_of none is = none
sound_of (more {r} {rs} fits able f) is =
    let (small, others) = or-false (ltb most_expression_nodes (nodes_of r)) (some_over rs) is in
    more fits able (ltb-false most_expression_nodes (nodes_of r) small) (sound_of f others)

module _ (broader : Broader) (inside : Inside broader) where
  abbrev n : ℕ
  n = length broader

  abbrev S : Symbols
  S = symbols_for n

  -- every broader term of every heading is a heading
  abbrev Low : List ℕ → Type 0
  Low bs = (b : ℕ) → In b bs → b < n

  all-low : (rest : Broader) (k : ℕ) → ((x : ℕ) → broader_of broader (k + x) ≡ broader_of rest x) → {bs : List ℕ} → In bs rest → Low bs
  all-low (bs ∷ rest) k same first b there = inside (k + 0) b (rw (same 0) there)
  all-low (cs ∷ rest) k same (later i) b there =
      all-low rest (suc k) (λ x. let next : suc k + x ≡ k + suc x = omega arith in rw next (same (suc x))) i b there
  all-low [] k same {bs = bs} x3 b there = elim x3 [ ]

  low : (bs : List ℕ) → In bs broader → Low bs
  low bs i = all-low broader 0 (λ x. let zero-plus : 0 + x ≡ x = omega arith in rw zero-plus refl) i

  firsts-fit : (rest : Broader) → ((bs : List ℕ) → In bs rest → Low bs) → Fit S (first_rules rest)
  unfolding first_rules
  firsts-fit [] l = none
  firsts-fit (bs ∷ rest) l =
      let fit = first_fitting broader inside bs (l bs first) in
      more (nest_fits fit) (nest_readable fit) (firsts-fit rest (λ cs i. l cs (later i)))

  seconds_fit : (rest : Broader) → ((bs : List ℕ) → In bs rest → Low bs) → Fit S (second_rules n rest)
  unfolding second_rules
  seconds_fit [] l = none
  seconds_fit (bs ∷ rest) l =
      let fit = second_fitting broader inside bs (l bs first) in
      more (nest_fits fit) (nest_readable fit) (seconds_fit rest (λ cs i. l cs (later i)))

  abbrev rules : List Expr
  rules = first_rules broader ++ second_rules n broader

  -- as many as there are operations
  rule-count : length rules ≡ n + n
  unfolding first_rules second_rules
  rule-count = simp (length-append, length-map)

  -- ---- its bytes

  abbrev sy : List ℕ
  sy = symbols_laid S

  abbrev tr : List ℕ
  tr = trees_laid S (trees_for broader)

  abbrev bs : List ℕ
  bs = laid (rules_for broader)

  pub plain_symbols : Plain S
  unfolding symbols_for
  plain_symbols = rw append-nil at (plain_before n false (plain_before (n + n) true none))

  -- what stands where
  after-version : drop 1 bs ≡ two_bytes (length sy) ++ (sy ++ length_first tr)
  unfolding laid rules_for length_first
  after-version = append_assoc (two_bytes (length sy)) sy (length_first tr)

  pub symbols-stand : drop 3 bs ≡ sy ++ length_first tr
  symbols-stand = (two_at bs 1 (length sy) _ after-version).1

  pub how-long : length bs ≡ 1 + (2 + length sy) + (2 + length tr)
  unfolding laid rules_for length_first two_bytes
  how-long = omega (arith, length-append (length_first sy) (length_first tr))

  pub symbol-count : length S ≡ n + (n + n)
  unfolding symbols_for
  symbol-count = simp (length-append, length-replicate)

  -- three bytes to a symbol
  pub symbol-bytes : length sy ≡ 3 * length S
  symbol-bytes = plain_bytes plain_symbols

  starts : drop 0 bs ≡ 1 ∷ (length_first sy ++ length_first tr)
  unfolding laid rules_for
  starts = refl

  -- the tree part stands behind the symbol part
  pub part-stands : drop (3 + length sy) bs ≡ two_bytes (length tr) ++ (tr ++ [])
  unfolding length_first
  part-stands = behind bs 3 sy (length_first tr) symbols-stand ∙ ap (◌++◌ (two_bytes (length tr))) (sym (append-nil tr))

  -- the trees are those of the rules
  tree-bytes : tr ≡ trees_laid (replicate (n + n) operation) (rules_before rules Trees.no_trees)
  unfolding trees_for symbols_for
  tree-bytes = terms-laid n (replicate (n + n) operation) (rules_before rules Trees.no_trees)

  -- one for each operation
  pub as_many : replicate (length rules) operation ≡ replicate (n + n) operation
  as_many = ap (λ k. replicate k operation) rule-count

  pub own-bytes : trees_laid (replicate (length rules) operation) (rules_before rules Trees.no_trees) ≡ tr
  own-bytes = ap (λ l. trees_laid l (rules_before rules Trees.no_trees)) as_many ∙ sym tree-bytes

  pub all_fit : Fit S rules
  all_fit = fit_append (firsts-fit broader low) (seconds_fit broader low)

  -- ---- read, where it has no more bytes than a book may have

  module _ (some : 0 < n) (small : length bs ≤ most_book_bytes) where
    pub front : opened bs ≡ got (3 + length sy) 3
    unfolding opened
    front =
        passes-test _ _ _ (le-ltb most_book_bytes (length bs) small)
        ∙ goes_on _ (byte_reads bs 0 (length bs) 0 1 _ (omega (arith, how-long)) starts)
        ∙ passes-test _ _ _ refl ∙ passes-test _ _ _ refl
        ∙ goes_on _ (length_reads bs 0 (length bs) 1 (length sy) _ (omega (arith, how-long)) after-version)
        ∙ passes-test _ _ _ (ne_eqb 3 (3 + length sy) (λ is. omega (arith, symbol-bytes, symbol-count, is)))

    -- THE SYMBOLS ARE READ
    pub symbols-back : n + (n + n) ≤ most_symbols → symbol_part bs ≡ got S (3 + length sy)
    unfolding symbol_part
    symbols-back few =
        goes_on _ front
        ∙ symbols-read bs plain_symbols (3 + length sy - 3) (3 + length sy) 0 3 (length_first tr)
        (omega (arith, symbol-bytes)) (omega (arith, symbol-count, few)) refl symbols-stand

  -- ---- read whole, within the sizes

  module _ (some : 0 < n) (within : passes broader ≡ false) where
    -- the three sizes
    sizes : (n + (n + n) ≤ most_symbols) × (some_over rules ≡ false) × (length bs ≤ most_book_bytes)
    unfolding passes
    sizes =
        let (two, bytes) = or-false _ (ltb most_book_bytes (length bs)) within in
        let (symbols, few) = or-false (ltb most_symbols (n + (n + n))) (some_over rules) two in
        (ltb-false most_symbols (n + (n + n)) symbols, few, ltb-false most_book_bytes (length bs) bytes)

    rules-stand : (end p : ℕ) → end ≡ p + length tr → drop p bs ≡ tr ++ []
        → trees_of bs S end (replicate (n + n) operation) p ≡ got (rules_before rules Trees.no_trees) end
    rules-stand end p is stands =
        let read = rules-read bs S end (sound_of all_fit sizes.1) p [] (omega (arith, ap length own-bytes)) (stands ∙ ap (λ l. l ++ []) (sym own-bytes)) in
        ap (λ l. trees_of bs S end l p) (sym as_many) ∙ read ∙ ap (got (rules_before rules Trees.no_trees)) (omega (arith, ap length own-bytes))

    -- THE TREES ARE READ
    trees-back : tree_part bs S (3 + length sy) ≡ got (trees_for broader) (length bs)
    unfolding tree_part trees_for symbols_for
    trees-back =
        let e = 3 + length sy in
        let end = e + 2 + length tr in
        let part : drop e bs ≡ two_bytes (length tr) ++ (tr ++ []) = part-stands in
        let all : end ≡ length bs = omega (arith, how-long) in
        let inner : drop (e + 2) bs ≡ tr ++ [] = (two_at bs e (length tr) (tr ++ []) part).1 in
        goes_on _ (length_reads bs 0 (length bs) e (length tr) _ (omega (arith, how-long)) part)
        ∙ goes_on _ (terms-read bs S end n (replicate (n + n) operation) (rules_before rules Trees.no_trees) (e + 2) end (rules-stand end (e + 2) refl inner))
        ∙ passes-test _ _ _ (le-ltb end end (omega arith)) ∙ passes-test _ _ _ (le-ltb end (length bs) (omega arith))
        ∙ ap (got (trees_for broader)) all

    -- THE BOOK OF A LISTING IS ADMITTED, AND MEANS ITS SYMBOLS AND TREES.
    pub book-back : read_book (laid (rules_for broader)) ≡ got (rules_for broader) (length (laid (rules_for broader)))
    unfolding read_book rules_for
    book-back = goes_on _ (symbols-back some sizes.2 sizes.0) ∙ goes_on _ trees-back
