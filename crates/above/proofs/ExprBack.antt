-- An expression that fits its sort, is one of its edition, and has no more nodes than are left, is read back from its bytes.
use mathlib.Core.Bool.{not}
use mathlib.Core.Path.{◌≡◌, ap, ◌∙◌}
use mathlib.Core.List.{List, [], ◌∷◌, ◌++◌, append_assoc}
use Prim.Native.Nat.{ℕ, zero, suc, ◌+◌, ◌-◌, ◌≤◌, ◌<◌}
use native.Mathlib.Omega.{arith}
use native.Mathlib.Nat.{not-suc-le-zero}
use borrow.Author.Tests.{lt-leb, le-ltb, eq-eqb}
use lib.ListN.{length, get_or, drop, length-append}
use Rattle.limits.specs.Sizes.{most_expression_nodes, most_variables, last_sort}
use Rattle.reading.specs.Reading.{got}
use Rattle.reading.specs.Bytes.{version_of, two_bytes, byte_at}
use Rattle.symbols.specs.Symbols.{Symbols, symbol_of}
use Rattle.expressions.specs.Expressions.{Expr, Exprs}
use Rattle.expressions.specs.ExpressionAt.{leaving, node_at, variable_at, row_with, choice_at, applied_at, apply_at, shared_at, code_at, expr_at, whole_at, whole_expr_at}
use Rattle.tagged.specs.Laid.{expr_laid, row_laid}
use Rattle.tagged.specs.Write.{nodes_of, nodes_of_row}
use Rattle.sorts.specs.Sorts.{ExprFits, RowFits}
use Rattle.above.proofs.Standing.{goes_on, passes-test, one_at, behind, two_at, byte_reads, number_reads}

-- ---- lengths

pub length-applied : (f : ℕ) (es : Exprs) → length (expr_laid (Expr.apply f es)) ≡ 3 + length (row_laid es)
unfolding expr_laid two_bytes
length-applied f es = omega arith

pub length_chosen : (a b : Expr) → length (expr_laid (Expr.choice a b)) ≡ 1 + length (expr_laid a) + length (expr_laid b)
unfolding expr_laid
length_chosen a b = omega (arith, length-append (expr_laid a) (expr_laid b))

pub length-row : (x : Expr) (es : Exprs) → length (row_laid (Exprs.more_exprs x es)) ≡ length (expr_laid x) + length (row_laid es)
unfolding expr_laid
length-row x es = length-append (expr_laid x) (row_laid es)

pub length-shared : (s : ℕ) (a b : Expr) → length (expr_laid (Expr.shared s a b)) ≡ 2 + length (expr_laid a) + length (expr_laid b)
unfolding expr_laid
length-shared s a b = omega (arith, length-append (expr_laid a) (expr_laid b))

-- what a book or question of this version may have: shared parts in edition 2 only, with few variables and known sorts
unfoldable mutual
  pub Readable : ℕ → List ℕ → Expr → Type 0
  Readable version vars (Expr.var x) = Unit {0}
  Readable version vars (Expr.apply f es) = ReadableRow version vars es
  Readable version vars (Expr.choice a b) = Readable version vars a × Readable version vars b
  Readable version vars Expr.fail = Unit {0}
  Readable version vars (Expr.shared s a b) =
      (version ≡ 2) × (length vars < most_variables) × (s ≤ last_sort) × Readable version vars a × Readable version (vars ++ (s ∷ [])) b

  pub ReadableRow : ℕ → List ℕ → Exprs → Type 0
  ReadableRow version vars Exprs.no_exprs = Unit {0}
  ReadableRow version vars (Exprs.more_exprs e es) = Readable version vars e × ReadableRow version vars es

module _ (bs : List ℕ) (base : ℕ) (S : Symbols) (e : ℕ) where
  -- ---- one expression, by its code

  -- behind a symbol stand its arguments
  pub after-symbol : (f p : ℕ) (xs : List ℕ) → drop p bs ≡ 1 ∷ (two_bytes f ++ xs) → drop (p + 3) bs ≡ xs
  after-symbol f p xs stands =
      let next : p + 3 ≡ p + 1 + 2 = omega arith in
      rw next (two_at bs (p + 1) f xs (one_at bs p 1 _ stands).1).1

  -- the code is read
  pub coded : (depth : ℕ) (vars : List ℕ) (sort left p c : ℕ) (xs : List ℕ) → 0 < depth → p < e → drop p bs ≡ c ∷ xs
      → expr_at bs base S e depth vars sort left p ≡ code_at bs base S e (expr_at bs base S e (depth - 1)) vars c sort left p
  unfolding expr_at
  coded zero vars sort left p c xs some inside stands = absurd (not-suc-le-zero some)
  coded (suc depth) vars sort left p c xs some inside stands =
      let less : suc depth - 1 ≡ depth = omega arith in
      rw less (goes_on _ (byte_reads bs base e p c xs inside stands))

  -- a variable
  variable_reads : (vars : List ℕ) (sort left p x : ℕ) (xs : List ℕ) → p + 2 ≤ e → drop p bs ≡ 0 ∷ x ∷ xs → x < length vars → get_or vars x 0 ≡ sort
      → variable_at bs base e vars sort left p ≡ got (leaving left (Expr.var x)) (p + 2)
  unfolding variable_at
  variable_reads vars sort left p x xs inside stands known is =
      goes_on _ (byte_reads bs base e (p + 1) x xs (omega arith) (one_at bs p 0 (x ∷ xs) stands).1)
      ∙ passes-test _ _ _ (lt-leb (length vars) x known) ∙ passes-test _ _ _ (ap not (eq-eqb _ _ is)) ∙ ap (got (leaving left (Expr.var x))) (omega arith)

  -- a symbol
  pub applied_reads : (sort p f : ℕ) (xs : List ℕ) → p + 3 ≤ e → drop p bs ≡ 1 ∷ (two_bytes f ++ xs) → f < length S → (symbol_of S f).sort ≡ sort
      → applied_at bs base S e sort p ≡ got f (p + 3)
  unfolding applied_at
  applied_reads sort p f xs inside stands known is =
      goes_on _ (number_reads bs base e (p + 1) f xs (omega arith) (one_at bs p 1 (two_bytes f ++ xs) stands).1)
      ∙ passes-test _ _ _ (lt-leb (length S) f known) ∙ passes-test _ _ _ (ap not (eq-eqb _ _ is)) ∙ ap (got f) (omega arith)

  -- ---- expressions and rows: with as many nodes left as it has, and l more

  mutual
    unfolding nodes_of expr_laid code_at node_at choice_at apply_at row_with shared_at Readable

    pub expr_reads : (x : Expr) (depth : ℕ) (vars : List ℕ) (sort l p : ℕ) (xs : List ℕ) → ExprFits S vars x sort → Readable (version_of bs) vars x
        → length (expr_laid x) ≤ depth → p + length (expr_laid x) ≤ e → drop p bs ≡ expr_laid x ++ xs
        → expr_at bs base S e depth vars sort (nodes_of x + l) p ≡ got (leaving l x) (p + length (expr_laid x))
    expr_reads (Expr.var x) depth vars sort l p xs fits able deep inside stands =
        let none : 0 + l ≡ l = omega arith in
        rw none (coded depth vars sort l p 0 (x ∷ xs) (omega arith) (omega arith) stands
        ∙ variable_reads vars sort l p x xs inside stands fits.0 fits.1)
    expr_reads (Expr.apply f es) depth vars sort l p xs fits able deep inside stands =
        let row = row_laid es in
        let bytes : drop p bs ≡ 1 ∷ (two_bytes f ++ (row ++ xs)) = stands ∙ ap (◌∷◌ 1) (append_assoc (two_bytes f) row xs) in
        let long : length (expr_laid (Expr.apply f es)) ≡ 3 + length row = length-applied f es in
        let nodes : suc (nodes_of_row es) + l ≡ suc (nodes_of_row es + l) = omega arith in
        let behind-it : drop (p + 3) bs ≡ row ++ xs = after-symbol f p (row ++ xs) bytes in
        rw nodes (coded depth vars sort (suc (nodes_of_row es + l)) p 1 _ (omega (arith, long)) (omega (arith, long)) bytes
        ∙ goes_on _ (applied_reads sort p f (row ++ xs) (omega (arith, long)) bytes fits.0 fits.1)
        ∙ goes_on _ (row_reads es (depth - 1) vars (symbol_of S f).arguments l (p + 3) xs fits.2 able (omega (arith, long)) (omega (arith, long)) behind-it)
        ∙ ap (got (leaving l (Expr.apply f es))) (omega (arith, long)))
    expr_reads (Expr.choice a b) depth vars sort l p xs fits able deep inside stands =
        let one = expr_laid a in
        let two = expr_laid b in
        let bytes : drop p bs ≡ 2 ∷ (one ++ (two ++ xs)) = stands ∙ ap (◌∷◌ 2) (append_assoc one two xs) in
        let long : length (expr_laid (Expr.choice a b)) ≡ 1 + length one + length two = length_chosen a b in
        let nodes : suc (nodes_of a + nodes_of b) + l ≡ suc (nodes_of a + (nodes_of b + l)) = omega arith in
        let first : drop (p + 1) bs ≡ one ++ (two ++ xs) = (one_at bs p 2 _ bytes).1 in
        rw nodes (coded depth vars sort (suc (nodes_of a + (nodes_of b + l))) p 2 _ (omega (arith, long)) (omega (arith, long)) bytes
        ∙ goes_on _ (expr_reads a (depth - 1) vars sort (nodes_of b + l) (p + 1) (two ++ xs) fits.0 able.0 (omega (arith, long)) (omega (arith, long)) first)
        ∙ goes_on _ (expr_reads b (depth - 1) vars sort l (p + 1 + length one) xs fits.1 able.1 (omega (arith, long)) (omega (arith, long)) (behind bs (p + 1) one (two ++ xs) first))
        ∙ ap (got (leaving l (Expr.choice a b))) (omega (arith, long)))
    expr_reads Expr.fail depth vars sort l p xs fits able deep inside stands =
        let nodes : 1 + l ≡ suc l = omega arith in
        rw nodes (coded depth vars sort (suc l) p 3 xs (omega arith) (omega arith) stands)
    expr_reads (Expr.shared s a b) depth vars sort l p xs fits (edition, few, low, able, able') deep inside stands =
        let one = expr_laid a in
        let two = expr_laid b in
        let bytes : drop p bs ≡ 4 ∷ s ∷ (one ++ (two ++ xs)) = stands ∙ ap (λ (ys : List ℕ). 4 ∷ s ∷ ys) (append_assoc one two xs) in
        let long : length (expr_laid (Expr.shared s a b)) ≡ 2 + length one + length two = length-shared s a b in
        let nodes : nodes_of a + nodes_of b + l ≡ nodes_of a + (nodes_of b + l) = omega arith in
        let sorted = (one_at bs p 4 _ bytes).1 in
        let next : p + 2 ≡ p + 1 + 1 = omega arith in
        let first : drop (p + 2) bs ≡ one ++ (two ++ xs) = rw next (one_at bs (p + 1) s _ sorted).1 in
        let read : byte_at bs base e (p + 1) ≡ got s (p + 2) = byte_reads bs base e (p + 1) s _ (omega (arith, long)) sorted ∙ ap (got s) (omega arith) in
        rw nodes (coded depth vars sort (nodes_of a + (nodes_of b + l)) p 4 _ (omega (arith, long)) (omega (arith, long)) bytes
        ∙ passes-test _ _ _ (ap not (eq-eqb _ _ edition)) ∙ passes-test _ _ _ (lt-leb most_variables (length vars) few) ∙ goes_on _ read
        ∙ passes-test _ _ _ (le-ltb last_sort s low)
        ∙ goes_on _ (expr_reads a (depth - 1) vars s (nodes_of b + l) (p + 2) (two ++ xs) fits.0 able (omega (arith, long)) (omega (arith, long)) first)
        ∙ goes_on _ (expr_reads b (depth - 1) (vars ++ (s ∷ [])) sort l (p + 2 + length one) xs fits.1 able' (omega (arith, long)) (omega (arith, long))
        (behind bs (p + 2) one (two ++ xs) first))
        ∙ ap (got (leaving l (Expr.shared s a b))) (omega (arith, long)))

    pub row_reads : (es : Exprs) (depth : ℕ) (vars : List ℕ) (sorts : List ℕ) (l p : ℕ) (xs : List ℕ) → RowFits S vars es sorts → ReadableRow (version_of bs) vars es
        → length (row_laid es) ≤ depth → p + length (row_laid es) ≤ e → drop p bs ≡ row_laid es ++ xs
        → row_with (expr_at bs base S e depth vars) sorts (nodes_of_row es + l) p ≡ got (leaving l es) (p + length (row_laid es))
    row_reads Exprs.no_exprs depth vars [] l p xs fits able deep inside stands =
        let none : 0 + l ≡ l = omega arith in
        rw none (ap (got (leaving l Exprs.no_exprs)) (omega arith))
    row_reads Exprs.no_exprs depth vars (s ∷ ss) l p xs fits able deep inside stands = absurd fits
    row_reads (Exprs.more_exprs x es) depth vars [] l p xs fits able deep inside stands = absurd fits
    row_reads (Exprs.more_exprs x es) depth vars (s ∷ ss) l p xs fits able deep inside stands =
        let one = expr_laid x in
        let row = row_laid es in
        let bytes : drop p bs ≡ one ++ (row ++ xs) = stands ∙ append_assoc one row xs in
        let long : length (row_laid (Exprs.more_exprs x es)) ≡ length one + length row = length-row x es in
        let nodes : nodes_of x + nodes_of_row es + l ≡ nodes_of x + (nodes_of_row es + l) = omega arith in
        rw nodes (goes_on _ (expr_reads x depth vars s (nodes_of_row es + l) p (row ++ xs) fits.0 able.0 (omega (arith, long)) (omega (arith, long)) bytes)
        ∙ goes_on _ (row_reads es depth vars ss l (p + length one) xs fits.1 able.1 (omega (arith, long)) (omega (arith, long)) (behind bs p one (row ++ xs) bytes))
        ∙ ap (got (leaving l (Exprs.more_exprs x es))) (omega (arith, long)))

  -- A WHOLE EXPRESSION IS READ BACK
  pub whole_reads : (vars : List ℕ) (x : Expr) (sort p : ℕ) (xs : List ℕ) → ExprFits S vars x sort → Readable (version_of bs) vars x
      → nodes_of x ≤ most_expression_nodes → p + length (expr_laid x) ≤ e → drop p bs ≡ expr_laid x ++ xs
      → whole_expr_at bs base S e vars sort p ≡ got x (p + length (expr_laid x))
  unfolding whole_at whole_expr_at
  whole_reads vars x sort p xs fits able few inside stands =
      let all : most_expression_nodes ≡ nodes_of x + (most_expression_nodes - nodes_of x) = omega arith in
      goes_on _ (ap (λ (l : ℕ). expr_at bs base S e (e - p) vars sort l p) all
      ∙ expr_reads x (e - p) vars sort (most_expression_nodes - nodes_of x) p xs fits able (omega arith) inside stands)
