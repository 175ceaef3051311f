-- An expression that was read is read again, to the same, from the bytes that it is written as: wherever they stand in a version 2 book.
use mathlib.Core.Bool.{false, not}
use mathlib.Core.Path.{◌≡◌, refl, ap, subst, ◌∙◌}
use mathlib.Core.List.{List, [], ◌∷◌, ◌++◌}
use Prim.Native.Nat.{ℕ, zero, suc, ◌+◌, ◌-◌, ◌≤◌}
use native.Mathlib.Omega.{arith}
use borrow.Author.Tests.{eq-eqb}
use lib.Dec.{leb, ltb, eqb}
use lib.ListN.{length, get_or, length-append}
use Rattle.limits.specs.Sizes.{most_expression_nodes, most_variables, last_sort}
use Rattle.reading.specs.Reading.{Reading, got, refusal}
use Rattle.reading.specs.Bytes.{version_of, two_bytes, byte_at, number_at}
use Rattle.reading.proofs.Good.{Good, good, refused, each, then-good, unless}
use Rattle.reading.proofs.Keeping.{then-got, passed}
use Rattle.symbols.specs.Symbols.{Symbols, symbol_of}
use Rattle.expressions.specs.Expressions.{Expr, Exprs}
use Rattle.expressions.specs.ExpressionAt.{Left, leaving, ExprReader, node_at, variable_at, row_with, choice_at, applied_at, apply_at, shared_at, code_at, expr_at}
use Rattle.expressions.specs.ExpressionAt.{whole_at, whole_expr_at}
use Rattle.converter.specs.Written.{expr_written, row_written}
use Rattle.converter.proofs.Standing.{land, Stands, stands-front, stands-behind, stands-next, byte_again, two-long, number-again, stands-two}

-- nothing but that it was read
pub any : {A : Type 0} (r : Reading A) → Good (λ a p. Unit {0}) r
any (got a p) = good tt
any (refusal c p) = refused

module _ (bs : List ℕ) (e : ℕ) (cs : List ℕ) (second : version_of cs ≡ 2) (S : Symbols) where
  -- an expression is read again: of whatever depth is enough
  abbrev Again : List ℕ → ℕ → ℕ → Left Expr → Type 0
  Again vars s left x = (d e' p' : ℕ) → e' ≤ p' + d → Stands cs e' p' (expr_written x.what)
      → expr_at cs 0 S e' d vars s left p' ≡ got x (p' + length (expr_written x.what))

  -- it opens with its code, and behind that, found at p', it is read again, with what stands within read at the depth d
  abbrev AgainBehind : List ℕ → ℕ → ℕ → ℕ → Left Expr → Type 0
  AgainBehind vars c s left x = ((tail : List ℕ) × (expr_written x.what ≡ c ∷ tail)) × ((d e' p' : ℕ) → e' ≤ p' + suc d → Stands cs e' p' (expr_written x.what)
      → code_at cs 0 S e' (expr_at cs 0 S e' d) vars c s left p' ≡ got x (p' + length (expr_written x.what)))

  -- and so a row
  abbrev RowAgain : List ℕ → List ℕ → ℕ → Left Exprs → Type 0
  RowAgain vars ss left r = (d e' p' : ℕ) → e' ≤ p' + d → Stands cs e' p' (row_written r.what)
      → row_with (expr_at cs 0 S e' d vars) ss left p' ≡ got r (p' + length (row_written r.what))

  abbrev Reads : List ℕ → ExprReader → Type 0
  Reads vars expr = (s left p : ℕ) → Good (λ x q. Again vars s left x) (expr s left p)

  row-again : (vars : List ℕ) (expr : ExprReader) → Reads vars expr → (ss : List ℕ) (left p : ℕ)
      → Good (λ r q. RowAgain vars ss left r) (row_with expr ss left p)
  unfolding row_with row_written
  row-again vars expr reads [] left p = good {a = leaving left Exprs.no_exprs} {p = p} λ d e' p' enough s. land refl (omega arith)
  row-again vars expr reads (s ∷ ss) left p =
      then-good (reads s left p) λ a q first.
      then-good (row-again vars expr reads ss a.left q) λ r t others.
      good λ d e' p' enough st.
      let xs = expr_written a.what in
      let ys = row_written r.what in
      land (then-got _ (first d e' p' enough (stands-front xs ys st)) ∙ then-got _ (others d e' (p' + length xs) (omega arith) (stands-behind xs ys st)))
      (omega (arith, length-append xs ys))

  variable-again : (vars : List ℕ) (s left p : ℕ) → Good (λ x q. AgainBehind vars 0 s left x) (variable_at bs 0 e vars s left p)
  unfolding variable_at code_at expr_written
  variable-again vars s left p =
      then-good (any (byte_at bs 0 e _)) λ x q _. unless _ _ (leb (length vars) x) λ _ known. unless _ _ (not (eqb (get_or vars x 0) s)) λ _ sorted.
      good (
        (_, refl),
        λ d e' p' enough st.
            land (then-got _ (byte_again (stands-next st)) ∙ passed _ _ known ∙ passed _ _ sorted) (omega arith),
      )

  -- one node less is left below a node
  node-again : (vars : List ℕ) (c s left p : ℕ) {more : ℕ → Reading (Left Expr)} → ((l : ℕ) → Good (λ x q. AgainBehind vars c s (suc l) x) (more l))
      → Good (λ x q. AgainBehind vars c s left x) (node_at 0 left p more)
  unfolding node_at
  node-again vars c s zero p f = refused
  node-again vars c s (suc left) p f = f left

  apply-again : (vars : List ℕ) (expr : ExprReader) → Reads vars expr → (s l p : ℕ) → Good (λ x q. AgainBehind vars 1 s (suc l) x) (apply_at bs 0 S e expr s l p)
  unfolding apply_at applied_at code_at node_at expr_written
  apply-again vars expr reads s l p =
      then-good {P = λ f q. (leb (length S) f ≡ false) × (not (eqb (symbol_of S f).sort s) ≡ false)}
      (then-good (any (number_at bs 0 e _)) λ f q _. unless _ _ (leb (length S) f) λ _ known. unless _ _ (not (eqb (symbol_of S f).sort s)) λ _ sorted. good (known, sorted))
      λ f q is.
      then-good (row-again vars expr reads (symbol_of S f).arguments l q) λ r t row.
      good (
        (_, refl),
        λ d e' p' enough st.
            let symbol = stands-next st in
            land (then-got _ (then-got _ (number-again f (row_written r.what) symbol) ∙ passed _ _ is.0 ∙ passed _ _ is.1)
            ∙ then-got _ (row d e' (p' + 1 + 2) (omega arith) (stands-two f (row_written r.what) symbol)))
            (omega (arith, length-append (two_bytes f) (row_written r.what), two-long f)),
      )

  choice-again : (vars : List ℕ) (expr : ExprReader) → Reads vars expr → (s l p : ℕ) → Good (λ x q. AgainBehind vars 2 s (suc l) x) (choice_at expr s l p)
  unfolding choice_at code_at node_at expr_written
  choice-again vars expr reads s l p =
      then-good (reads s l (p + 1)) λ a q first.
      then-good (reads s a.left q) λ b t other.
      good (
        (_, refl),
        λ d e' p' enough st.
            let xs = expr_written a.what in
            let ys = expr_written b.what in
            let sides = stands-next st in
            land (then-got _ (first d e' (p' + 1) (omega arith) (stands-front xs ys sides))
            ∙ then-got _ (other d e' (p' + 1 + length xs) (omega arith) (stands-behind xs ys sides))) (omega (arith, length-append xs ys)),
      )

  shared-again : (expr : List ℕ → ExprReader) → ((vars : List ℕ) → Reads vars (expr vars)) → (vars : List ℕ) (s left p : ℕ)
      → Good (λ x q. AgainBehind vars 4 s left x) (shared_at bs 0 S e expr vars s left p)
  unfolding shared_at code_at expr_written
  shared-again expr reads vars s left p =
      unless _ _ _ λ _ _. unless _ _ (leb most_variables (length vars)) λ _ few. then-good (any (byte_at bs 0 e _)) λ t q _. unless _ _ (ltb last_sort t) λ _ sort.
      then-good (reads vars t left q) λ a r first.
      then-good (reads (vars ++ (t ∷ [])) s a.left r) λ b u body.
      good (
        (_, refl),
        λ d e' p' enough st.
            let xs = expr_written a.what in
            let ys = expr_written b.what in
            let both = stands-next (stands-next st) in
            land (passed _ _ (ap not (eq-eqb (version_of cs) 2 second)) ∙ passed _ _ few ∙ then-got _ (byte_again (stands-next st)) ∙ passed _ _ sort
            ∙ then-got _ (first d e' (p' + 1 + 1) (omega arith) (stands-front xs ys both))
            ∙ then-got _ (body d e' (p' + 1 + 1 + length xs) (omega arith) (stands-behind xs ys both))) (omega (arith, length-append xs ys)),
      )

  -- by the code
  code-again : (expr : List ℕ → ExprReader) → ((vars : List ℕ) → Reads vars (expr vars)) → (vars : List ℕ) (c s left p : ℕ)
      → Good (λ x q. AgainBehind vars c s left x) (code_at bs 0 S e expr vars c s left p)
  unfolding code_at node_at expr_written
  code-again expr reads vars zero s left p = variable-again vars s left p
  code-again expr reads vars (suc zero) s left p = node-again vars 1 s left p λ l. apply-again vars (expr vars) (reads vars) s l p
  code-again expr reads vars (suc (suc zero)) s left p = node-again vars 2 s left p λ l. choice-again vars (expr vars) (reads vars) s l p
  code-again expr reads vars (suc (suc (suc zero))) s left p = node-again vars 3 s left p λ l. good {a = leaving l Expr.fail} ((_, refl), λ d e' p' enough st. refl)
  code-again expr reads vars (suc (suc (suc (suc zero)))) s left p = shared-again expr reads vars s left p
  code-again expr reads vars (suc (suc (suc (suc (suc c))))) s left p = refused

  -- one level of the definition, which is deep enough
  at_depth : (vars : List ℕ) (s left c : ℕ) (x : Left Expr) → AgainBehind vars c s left x → Again vars s left x
  unfolding expr_at
  at_depth vars s left c x ((tail, opens), again) zero e' p' enough st = absurd (omega (arith, st.within, ap length opens))
  at_depth vars s left c x ((tail, opens), again) (suc d) e' p' enough st =
      then-got _ (byte_again (subst (Stands cs e' p') opens st)) ∙ again d e' p' enough st

  -- an expression, however deep
  expr-again : (depth : ℕ) (vars : List ℕ) → Reads vars (expr_at bs 0 S e depth vars)
  unfolding expr_at
  expr-again zero vars s left p = refused
  expr-again (suc depth) vars s left p =
      then-good (any (byte_at bs 0 e p)) λ c q _. each (λ x q is. at_depth vars s left c x is) (code-again (expr_at bs 0 S e depth) (expr-again depth) vars c s left p)

  -- so is a whole one, in any part that ends where its bytes may
  pub whole_again : (vars : List ℕ) (s p : ℕ)
      → Good (λ x q. (e' p' : ℕ) → Stands cs e' p' (expr_written x) → whole_expr_at cs 0 S e' vars s p' ≡ got x (p' + length (expr_written x))) (whole_expr_at bs 0 S e vars s p)
  unfolding whole_expr_at whole_at
  whole_again vars s p =
      then-good (expr-again (e - p) vars s most_expression_nodes p) λ x q is.
      good λ e' p' st. then-got _ (is (e' - p') e' p' (omega arith) st)
