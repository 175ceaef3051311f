-- What passes a size is refused: an expression of more nodes than are left, a row of rules with such a one, and a row of symbols with a 1,025th.
use mathlib.Core.Bool.{Bool, true, false, not, ◌||◌}
use mathlib.Core.Path.{◌≡◌, refl, sym, ap, ◌∙◌}
use mathlib.Core.List.{List, [], ◌∷◌, ◌++◌, append_assoc}
use Prim.Native.Nat.{ℕ, zero, suc, ◌+◌, ◌-◌, ◌≤◌, ◌<◌}
use native.Mathlib.Omega.{arith}
use native.Mathlib.Nat.{not-suc-le-zero}
use native.Mathlib.Decide.{dec_lt}
use borrow.Author.Tests.{le-leb, lt-leb, le-ltb, eq-eqb}
use lib.Dec.{ltb}
use lib.ListN.{length, drop, replicate, length-append}
use Rattle.limits.specs.Sizes.{most_symbols, most_expression_nodes, most_variables, last_sort}
use Rattle.reading.specs.Reading.{Reading, got, refusal, ◌then◌, refuse◌at◌if◌else◌}
use Rattle.reading.specs.Bytes.{version_of, two_bytes, byte_at}
use Rattle.symbols.specs.Symbols.{Symbol, Symbols, symbol_of}
use Rattle.symbols.specs.SymbolPart.{symbol_at, symbols_at}
use Rattle.expressions.specs.Expressions.{Expr, Exprs}
use Rattle.expressions.specs.ExpressionAt.{Left, leaving, node_at, row_with, choice_at, apply_at, shared_at, code_at, expr_at, whole_at, whole_expr_at}
use Rattle.book.specs.Trees.{Tree, Trees}
use Rattle.book.specs.TreeAt.{tree_code_at, tree_in, item_at, trees_of}
use Rattle.tagged.specs.Terms.{term, operation, rules_before}
use Rattle.tagged.specs.Laid.{symbol_laid, symbols_laid, expr_laid, row_laid, tree_laid, length_first, trees_laid}
use Rattle.tagged.specs.Write.{nodes_of, nodes_of_row, some_over}
use Rattle.sorts.specs.Sorts.{ExprFits, RowFits}
use Rattle.above.proofs.Standing.{goes_on, passes-test, one_at, behind, two_at, byte_reads, length_reads}
use Rattle.above.proofs.ExprBack.{Readable, ReadableRow, length-applied, length_chosen, length-row, length-shared}
use Rattle.above.proofs.ExprBack.{after-symbol, coded, applied_reads, expr_reads}
use Rattle.above.proofs.BookBack.{plain, Plain, symbol_reads, symbols-more, Fit, item_reads}

-- ---- readings that are refused

abbrev pub Refuses : {A : Type 0} → Reading A → Type 0
Refuses r = (c : ℕ) × (q : ℕ) × (r ≡ refusal c q)

-- the same reading
pub on : {A : Type 0} {r s : Reading A} → r ≡ s → Refuses s → Refuses r
on is (c, q, so) = (c, q, is ∙ so)

-- nothing is read behind it
pub ends : {A B : Type 0} {r : Reading A} (more : A → ℕ → Reading B) → Refuses r → Refuses (◌then◌ r more)
unfolding ◌then◌
ends more (c, q, so) = (c, q, rw so refl)

-- ---- expressions

module _ (bs : List ℕ) (base : ℕ) (S : Symbols) (e : ℕ) where
  -- an expression behind which reading goes on: it is refused itself, or what stands behind it is, with the nodes that it leaves
  over-then : (x : Expr) (depth : ℕ) (vars : List ℕ) (sort l p : ℕ) (xs : List ℕ) {A : Type 0} (more : Left Expr → ℕ → Reading A)
      → ExprFits S vars x sort → Readable (version_of bs) vars x → length (expr_laid x) ≤ depth → p + length (expr_laid x) ≤ e → drop p bs ≡ expr_laid x ++ xs
      → (l < nodes_of x → Refuses (expr_at bs base S e depth vars sort l p))
      → (nodes_of x ≤ l → Refuses (more (leaving (l - nodes_of x) x) (p + length (expr_laid x))))
      → Refuses (◌then◌ (expr_at bs base S e depth vars sort l p) more)
  over-then x depth vars sort l p xs more fits able deep inside stands itself behind-it = elim (dec_lt l (nodes_of x)) [
    | yes many ↦ ends more (itself many)
    | no few ↦
        let all : l ≡ nodes_of x + (l - nodes_of x) = omega arith in
        on (goes_on more (ap (λ m. expr_at bs base S e depth vars sort m p) all
        ∙ expr_reads bs base S e x depth vars sort (l - nodes_of x) p xs fits able deep inside stands))
        (behind-it (omega arith))
  ]

  mutual
    unfolding nodes_of expr_laid code_at node_at choice_at apply_at row_with shared_at Readable

    -- AN EXPRESSION OF MORE NODES THAN ARE LEFT IS REFUSED
    expr-over : (x : Expr) (depth : ℕ) (vars : List ℕ) (sort left p : ℕ) (xs : List ℕ) → ExprFits S vars x sort → Readable (version_of bs) vars x
        → length (expr_laid x) ≤ depth → p + length (expr_laid x) ≤ e → drop p bs ≡ expr_laid x ++ xs → left < nodes_of x
        → Refuses (expr_at bs base S e depth vars sort left p)
    expr-over (Expr.var x) depth vars sort left p xs fits able deep inside stands over = absurd (not-suc-le-zero over)
    expr-over (Expr.apply f es) depth vars sort zero p xs fits able deep inside stands over =
        let long = length-applied f es in
        on (coded bs base S e depth vars sort 0 p 1 _ (omega (arith, long)) (omega (arith, long)) stands) (base + 4, p, refl)
    expr-over (Expr.apply f es) depth vars sort (suc l) p xs fits able deep inside stands over =
        let row = row_laid es in
        let bytes : drop p bs ≡ 1 ∷ (two_bytes f ++ (row ++ xs)) = stands ∙ ap (◌∷◌ 1) (append_assoc (two_bytes f) row xs) in
        let long : length (expr_laid (Expr.apply f es)) ≡ 3 + length row = length-applied f es in
        let behind-it : drop (p + 3) bs ≡ row ++ xs = after-symbol bs base S e f p (row ++ xs) bytes in
        on (coded bs base S e depth vars sort (suc l) p 1 _ (omega (arith, long)) (omega (arith, long)) bytes
        ∙ goes_on _ (applied_reads bs base S e sort p f (row ++ xs) (omega (arith, long)) bytes fits.0 fits.1))
        (ends _ (row-over es (depth - 1) vars (symbol_of S f).arguments l (p + 3) xs fits.2 able
        (omega (arith, long)) (omega (arith, long)) behind-it (omega arith)))
    expr-over (Expr.choice a b) depth vars sort zero p xs fits able deep inside stands over =
        let long = length_chosen a b in
        on (coded bs base S e depth vars sort 0 p 2 _ (omega (arith, long)) (omega (arith, long)) stands) (base + 4, p, refl)
    expr-over (Expr.choice a b) depth vars sort (suc l) p xs fits able deep inside stands over =
        let one = expr_laid a in
        let two = expr_laid b in
        let bytes : drop p bs ≡ 2 ∷ (one ++ (two ++ xs)) = stands ∙ ap (◌∷◌ 2) (append_assoc one two xs) in
        let long : length (expr_laid (Expr.choice a b)) ≡ 1 + length one + length two = length_chosen a b in
        let next : drop (p + 1) bs ≡ one ++ (two ++ xs) = (one_at bs p 2 _ bytes).1 in
        on (coded bs base S e depth vars sort (suc l) p 2 _ (omega (arith, long)) (omega (arith, long)) bytes)
        (over-then a (depth - 1) vars sort l (p + 1) (two ++ xs) _ fits.0 able.0 (omega (arith, long)) (omega (arith, long)) next
        (λ many. expr-over a (depth - 1) vars sort l (p + 1) (two ++ xs) fits.0 able.0 (omega (arith, long)) (omega (arith, long)) next many)
        (λ few. ends _ (expr-over b (depth - 1) vars sort (l - nodes_of a) (p + 1 + length one) xs fits.1 able.1
        (omega (arith, long)) (omega (arith, long)) (behind bs (p + 1) one (two ++ xs) next) (omega arith))))
    expr-over Expr.fail depth vars sort zero p xs fits able deep inside stands over =
        on (coded bs base S e depth vars sort 0 p 3 xs (omega arith) (omega arith) stands) (base + 4, p, refl)
    expr-over Expr.fail depth vars sort (suc l) p xs fits able deep inside stands over = absurd (omega arith)
    expr-over (Expr.shared s a b) depth vars sort left p xs fits (edition, few, low, able, able') deep inside stands over =
        let one = expr_laid a in
        let two = expr_laid b in
        let bytes : drop p bs ≡ 4 ∷ s ∷ (one ++ (two ++ xs)) = stands ∙ ap (λ (ys : List ℕ). 4 ∷ s ∷ ys) (append_assoc one two xs) in
        let long : length (expr_laid (Expr.shared s a b)) ≡ 2 + length one + length two = length-shared s a b in
        let sorted = (one_at bs p 4 _ bytes).1 in
        let place : p + 2 ≡ p + 1 + 1 = omega arith in
        let next : drop (p + 2) bs ≡ one ++ (two ++ xs) = rw place (one_at bs (p + 1) s _ sorted).1 in
        let read : byte_at bs base e (p + 1) ≡ got s (p + 2) = byte_reads bs base e (p + 1) s _ (omega (arith, long)) sorted ∙ ap (got s) (omega arith) in
        on (coded bs base S e depth vars sort left p 4 _ (omega (arith, long)) (omega (arith, long)) bytes
        ∙ passes-test _ _ _ (ap not (eq-eqb _ _ edition)) ∙ passes-test _ _ _ (lt-leb most_variables (length vars) few) ∙ goes_on _ read
        ∙ passes-test _ _ _ (le-ltb last_sort s low))
        (over-then a (depth - 1) vars s left (p + 2) (two ++ xs) _ fits.0 able (omega (arith, long)) (omega (arith, long)) next
        (λ many. expr-over a (depth - 1) vars s left (p + 2) (two ++ xs) fits.0 able (omega (arith, long)) (omega (arith, long)) next many)
        (λ known. ends _ (expr-over b (depth - 1) (vars ++ (s ∷ [])) sort (left - nodes_of a) (p + 2 + length one) xs fits.1 able'
        (omega (arith, long)) (omega (arith, long)) (behind bs (p + 2) one (two ++ xs) next) (omega arith))))

    row-over : (es : Exprs) (depth : ℕ) (vars : List ℕ) (sorts : List ℕ) (left p : ℕ) (xs : List ℕ)
        → RowFits S vars es sorts → ReadableRow (version_of bs) vars es
        → length (row_laid es) ≤ depth → p + length (row_laid es) ≤ e → drop p bs ≡ row_laid es ++ xs → left < nodes_of_row es
        → Refuses (row_with (expr_at bs base S e depth vars) sorts left p)
    row-over Exprs.no_exprs depth vars sorts left p xs fits able deep inside stands over = absurd (not-suc-le-zero over)
    row-over (Exprs.more_exprs x es) depth vars [] left p xs fits able deep inside stands over = absurd fits
    row-over (Exprs.more_exprs x es) depth vars (s ∷ ss) left p xs fits able deep inside stands over =
        let one = expr_laid x in
        let row = row_laid es in
        let bytes : drop p bs ≡ one ++ (row ++ xs) = stands ∙ append_assoc one row xs in
        let long : length (row_laid (Exprs.more_exprs x es)) ≡ length one + length row = length-row x es in
        over-then x depth vars s left p (row ++ xs) _ fits.0 able.0 (omega (arith, long)) (omega (arith, long)) bytes
        (λ many. expr-over x depth vars s left p (row ++ xs) fits.0 able.0 (omega (arith, long)) (omega (arith, long)) bytes many)
        (λ few. ends _ (row-over es depth vars ss (left - nodes_of x) (p + length one) xs fits.1 able.1 (omega (arith, long)) (omega (arith, long))
        (behind bs p one (row ++ xs) bytes) (omega arith)))

  -- "65th node": a whole expression
  whole-over : (vars : List ℕ) (x : Expr) (sort p : ℕ) (xs : List ℕ) → ExprFits S vars x sort → Readable (version_of bs) vars x
      → most_expression_nodes < nodes_of x → p + length (expr_laid x) ≤ e → drop p bs ≡ expr_laid x ++ xs → Refuses (whole_expr_at bs base S e vars sort p)
  unfolding whole_at whole_expr_at
  whole-over vars x sort p xs fits able over inside stands =
      ends _ (expr-over x (e - p) vars sort most_expression_nodes p xs fits able (omega arith) inside stands over)

-- ---- trees

module _ (bs : List ℕ) (S : Symbols) where
  -- a rule with too many nodes
  rule-over : (sort e p : ℕ) (vars : List ℕ) (x : Expr) (xs : List ℕ)
      → ExprFits S vars x sort → Readable (version_of bs) vars x → most_expression_nodes < nodes_of x
      → p + length (tree_laid (Tree.rule x)) ≤ e → drop p bs ≡ tree_laid (Tree.rule x) ++ xs → Refuses (tree_in bs S sort e (suc most_variables) vars [] p)
  unfolding tree_in tree_code_at tree_laid
  rule-over sort e p vars x xs fits able over inside stands =
      on (goes_on _ (byte_reads bs 0 e p 1 (expr_laid x ++ xs) (omega arith) stands))
      (ends _ (whole-over bs 0 S e vars x sort (p + 1) xs fits able over (omega arith) (one_at bs p 1 (expr_laid x ++ xs) stands).1))

  -- with its length in front
  item-over : (x : Symbol) (e p : ℕ) (r : Expr) (xs : List ℕ)
      → ExprFits S x.arguments r x.sort → Readable (version_of bs) x.arguments r → most_expression_nodes < nodes_of r
      → p + length (length_first (tree_laid (Tree.rule r))) ≤ e → drop p bs ≡ length_first (tree_laid (Tree.rule r)) ++ xs → Refuses (item_at bs S e x p)
  unfolding item_at length_first two_bytes
  item-over x e p r xs fits able over inside stands =
      let tree = tree_laid (Tree.rule r) in
      on (goes_on _ (length_reads bs 0 e p (length tree) (tree ++ xs) (omega arith) stands))
      (ends _ (rule-over x.sort (p + 2 + length tree) (p + 2) x.arguments r xs fits able over (omega arith)
      (two_at bs p (length tree) (tree ++ xs) stands).1))

-- A ROW OF RULES OF WHICH SOME HAS TOO MANY NODES IS REFUSED
pub rules-over : (bs : List ℕ) (S : Symbols) (e : ℕ) {rs : List Expr} → Fit S rs → some_over rs ≡ true → (p : ℕ) (xs : List ℕ)
    → let own = trees_laid (replicate (length rs) operation) (rules_before rs Trees.no_trees) in
    p + length own ≤ e → drop p bs ≡ own ++ xs
    → Refuses (trees_of bs S e (replicate (length rs) operation) p)
unfolding trees_of trees_laid rules_before some_over
rules-over bs S e Fit.none some p xs inside stands = absurd (let z : ◌≡◌ {A = ℕ} 0 1 = cc in omega arith)
rules-over bs S e (Fit.more {r} {rs} fits able f) some p xs inside stands = elim (dec_lt most_expression_nodes (nodes_of r)) [
  | yes over ↦
      let own = length_first (tree_laid (Tree.rule r)) in
      let others = trees_laid (replicate (length rs) operation) (rules_before rs Trees.no_trees) in
      let long = length-append own others in
      ends _ (item-over bs S operation e p r (others ++ xs) fits (able (version_of bs)) over (omega arith) (stands ∙ append_assoc own others xs))
  | no few ↦
      let own = length_first (tree_laid (Tree.rule r)) in
      let others = trees_laid (replicate (length rs) operation) (rules_before rs Trees.no_trees) in
      let long = length-append own others in
      let bytes : drop p bs ≡ own ++ (others ++ xs) = stands ∙ append_assoc own others xs in
      let not-it : ltb most_expression_nodes (nodes_of r) ≡ false = le-ltb most_expression_nodes (nodes_of r) (omega arith) in
      let later : some_over rs ≡ true = ap (λ t. t || some_over rs) (sym not-it) ∙ some in
      on (goes_on _ (item_reads bs S operation e p r (others ++ xs) fits (able (version_of bs)) (omega arith) (omega arith) bytes))
      (ends _ (rules-over bs S e f later (p + length own) xs (omega arith) (behind bs p own (others ++ xs) bytes)))
]

-- also behind constructors
pub terms-over : (bs : List ℕ) (S : Symbols) (e n : ℕ) (rest : Symbols) (p : ℕ)
    → Refuses (trees_of bs S e rest p) → Refuses (trees_of bs S e (replicate n term ++ rest) p)
unfolding trees_of
terms-over bs S e zero rest p so = so
terms-over bs S e (suc n) rest p so = ends _ (terms-over bs S e n rest p so)

-- ---- symbols

-- "1,025th symbol .. (place: its length byte)"
symbol-over : (bs : List ℕ) (kind : Bool) (e before p : ℕ) (xs : List ℕ) → p + 3 ≤ e → most_symbols ≤ before
    → drop p bs ≡ symbol_laid (plain kind) ++ xs → symbol_at bs e before p ≡ refusal 3 p
unfolding symbol_at symbol_laid refuse◌at◌if◌else◌
symbol-over bs kind e before p xs inside many stands =
    let a = one_at bs p 2 _ stands in
    let three : p + 1 + 2 ≡ p + 3 = omega arith in
    rw (a.0, three, le-ltb e (p + 3) inside, le-leb most_symbols before many) refl

-- A ROW OF TOO MANY SYMBOLS IS REFUSED
pub symbols-over : (bs : List ℕ) {S : Symbols} → Plain S → (bound e before p : ℕ) (xs : List ℕ) → length S ≤ bound
    → before ≤ most_symbols → most_symbols < before + length S
    → p + length (symbols_laid S) ≡ e → drop p bs ≡ symbols_laid S ++ xs → Refuses (symbols_at bs bound e before p)
unfolding symbols_laid symbol_laid
symbols-over bs Plain.none bound e before p xs enough few many ends_at stands = absurd (omega arith)
symbols-over bs (Plain.more s) zero e before p xs enough few many ends_at stands = absurd (not-suc-le-zero enough)
symbols-over bs (Plain.more {kind} {rest} s) (suc bound) e before p xs enough few many ends_at stands = elim (dec_lt before most_symbols) [
  | yes room ↦
      let own = symbol_laid (plain kind) in
      let long : length (own ++ symbols_laid rest) ≡ 3 + length (symbols_laid rest) = length-append own (symbols_laid rest) in
      let bytes : drop p bs ≡ own ++ (symbols_laid rest ++ xs) = stands ∙ append_assoc own (symbols_laid rest) xs in
      on (symbols-more bs bound e before p (omega (arith, long))
      ∙ goes_on _ (symbol_reads bs kind e before p (symbols_laid rest ++ xs) (omega (arith, long)) room bytes))
      (ends _ (symbols-over bs s bound e (suc before) (p + 3) xs (omega arith) (omega arith) (omega arith) (omega (arith, long))
      (behind bs p own (symbols_laid rest ++ xs) bytes)))
  | no none_left ↦
      let own = symbol_laid (plain kind) in
      let long : length (own ++ symbols_laid rest) ≡ 3 + length (symbols_laid rest) = length-append own (symbols_laid rest) in
      let bytes : drop p bs ≡ own ++ (symbols_laid rest ++ xs) = stands ∙ append_assoc own (symbols_laid rest) xs in
      on (symbols-more bs bound e before p (omega (arith, long)))
      (ends _ (3, p, symbol-over bs kind e before p (symbols_laid rest ++ xs) (omega (arith, long)) (omega arith) bytes))
]
