-- The trees of a book, read again with a rule to fail in the place of each exempt, from the bytes that they are written as.
use mathlib.Core.Bool.{Bool, true, false}
use mathlib.Core.Path.{◌≡◌, refl, ◌∙◌}
use mathlib.Core.List.{List, [], ◌∷◌, ◌++◌}
use Prim.Native.Nat.{ℕ, zero, suc, ◌+◌, ◌-◌, ◌<◌}
use native.Mathlib.Omega.{arith}
use borrow.Author.Tests.{le-ltb}
use lib.Dec.{leb}
use lib.ListN.{length, get_or, length-append}
use Rattle.limits.specs.Sizes.{most_variables, most_expression_nodes}
use Rattle.reading.specs.Reading.{got, ◌then◌}
use Rattle.reading.specs.Bytes.{version_of, two_bytes, byte_at, length_at}
use Rattle.reading.proofs.Good.{Good, good, refused, then-good, unless}
use Rattle.reading.proofs.Keeping.{then-got, passed}
use Rattle.symbols.specs.Symbols.{Symbol, Symbols, constructors_of}
use Rattle.expressions.specs.Expressions.{Expr}
use Rattle.expressions.specs.ExpressionAt.{leaving, node_at, code_at, expr_at, whole_at, whole_expr_at}
use Rattle.book.specs.Trees.{Tree, Trees}
use Rattle.book.specs.TreeAt.{binds_past, is_in, trees_with, branched_at, branch_at, tree_code_at, tree_in, item_at, trees_of, tree_part}
use Rattle.converter.specs.Written.{expr_written, tree_written, trees_written, counted, items_written}
use Rattle.converter.specs.Converted.{without_exempt, without_exempts, trees_converted}
use Rattle.converter.proofs.Standing.{land, Stands, stands-to, stands-front, stands-behind, stands-next, byte_again, two-long, stands-two, length-again}
use Rattle.converter.proofs.Again.{any, whole_again}

-- the bytes of a tree, and of trees, without exempts
abbrev new_tree : Tree → List ℕ
new_tree t = tree_written (without_exempt t)

abbrev new_trees : Trees → List ℕ
new_trees ts = trees_written (without_exempts ts)

module _ (bs cs : List ℕ) (second : version_of cs ≡ 2) (S : Symbols) where
  -- a rule to fail
  fail-again : (e' : ℕ) (vars : List ℕ) (s p' : ℕ) → Stands cs e' p' (3 ∷ []) → whole_expr_at cs 0 S e' vars s p' ≡ got Expr.fail (p' + 1)
  unfolding whole_expr_at whole_at expr_at code_at node_at
  fail-again e' vars s p' st = then-got _ (deep (e' - p') (omega (arith, st.within)))
    where
      deep : (d : ℕ) → 0 < d → expr_at cs 0 S e' d vars s most_expression_nodes p' ≡ got (leaving 63 Expr.fail) (p' + 1)
      deep zero h = absurd (omega arith)
      deep (suc d) h = then-got _ (byte_again st)

  module _ (s e : ℕ) where
    -- a tree is read again without its exempts
    abbrev Again : ℕ → List ℕ → List ℕ → Tree → Type 0
    Again depth vars done t = (e' p' : ℕ) → Stands cs e' p' (new_tree t) → tree_in cs S s e' depth vars done p' ≡ got (without_exempt t) (p' + length (new_tree t))

    abbrev Reads : ℕ → Type 0
    Reads depth = (vars done : List ℕ) (p : ℕ) → Good (λ t q. Again depth vars done t) (tree_in bs S s e depth vars done p)

    -- one for each constructor
    cases-again : (depth : ℕ) → Reads depth → (vars done : List ℕ) (rows : List (List ℕ)) (p : ℕ)
        → Good (λ ts q. (e' p' : ℕ) → Stands cs e' p' (new_trees ts)
        → trees_with cs S s e' (λ sorts r. tree_in cs S s e' depth (vars ++ sorts) done r) rows p' ≡ got (without_exempts ts) (p' + length (new_trees ts)))
        (trees_with bs S s e (λ sorts r. tree_in bs S s e depth (vars ++ sorts) done r) rows p)
    unfolding trees_with without_exempts trees_written
    cases-again depth reads vars done [] p = good {a = Trees.no_trees} λ e' p' st. land refl (omega arith)
    cases-again depth reads vars done (sorts ∷ rows) p =
        then-good (reads (vars ++ sorts) done p) λ t q first.
        then-good (cases-again depth reads vars done rows q) λ ts r others.
        good λ e' p' st.
        land (then-got _ (first e' p' (stands-front (new_tree t) (new_trees ts) st))
        ∙ then-got _ (others e' (p' + length (new_tree t)) (stands-behind (new_tree t) (new_trees ts) st))) (omega (arith, length-append (new_tree t) (new_trees ts)))

    -- by the code
    code-again : (depth : ℕ) → Reads depth → (c : ℕ) (vars done : List ℕ) (p : ℕ)
        → Good (λ t q. Again (suc depth) vars done t) (tree_code_at bs S s e (tree_in bs S s e depth) c vars done p)
    unfolding tree_code_at branch_at branched_at tree_in without_exempt tree_written expr_written
    code-again depth reads zero vars done p = unless _ _ _ λ _ _. good {a = Tree.exempt} λ e' p' st.
        land (then-got _ (byte_again st) ∙ then-got _ (fail-again e' vars s (p' + 1) (stands-next st))) (omega arith)
    code-again depth reads (suc zero) vars done p =
        then-good (whole_again bs e cs second S vars s (p + 1)) λ x q is.
        good λ e' p' st. land (then-got _ (byte_again st) ∙ then-got _ (is e' (p' + 1) (stands-next st))) (omega arith)
    code-again depth reads (suc (suc zero)) vars done p =
        then-good {P = λ x q. (leb (length vars) x ≡ false) × (is_in x done ≡ false) × (binds_past (length vars) (constructors_of (get_or vars x 0) S) ≡ false)}
        (then-good (any (byte_at bs 0 e _)) λ x q _. unless _ _ (leb (length vars) x) λ _ known. unless _ _ (is_in x done) λ _ once.
        unless _ _ (binds_past (length vars) (constructors_of (get_or vars x 0) S)) λ _ few. good (known, once, few)) λ x q is.
        then-good (cases-again depth reads vars (x ∷ done) (constructors_of (get_or vars x 0) S) q) λ ts r row.
        good λ e' p' st.
        land (then-got _ (byte_again st)
        ∙ then-got _ (then-got _ (byte_again (stands-next st)) ∙ passed _ _ is.0 ∙ passed _ _ is.1 ∙ passed _ _ is.2)
        ∙ then-got _ (row e' (p' + 1 + 1) (stands-next (stands-next st)))) (omega arith)
    code-again depth reads (suc (suc (suc c))) vars done p = refused

    tree_again : (depth : ℕ) → Reads depth
    unfolding tree_in
    tree_again zero vars done p = refused
    tree_again (suc depth) vars done p = then-good (any (byte_at bs 0 e p)) λ c q _. code-again depth (tree_again depth) c vars done p

  -- the tree of operation x, behind its length
  item-again : (e : ℕ) (x : Symbol) (p : ℕ)
      → Good (λ t q. (e' p' : ℕ) → Stands cs e' p' (counted (new_tree t)) → item_at cs S e' x p' ≡ got (without_exempt t) (p' + length (counted (new_tree t)))) (item_at bs S e x p)
  unfolding item_at counted
  item-again e x p =
      then-good (any (length_at bs 0 e p)) λ item q _.
      then-good (tree_again x.sort item (suc most_variables) x.arguments [] q) λ t r is. unless _ _ _ λ _ _.
      good λ e' p' st.
      let n = length (new_tree t) in
      let end = p' + 2 + n in
      land (then-got _ (length-again n (new_tree t) st (omega arith))
      ∙ then-got _ (is end (p' + 2) (stands-to end (omega arith) (stands-two n (new_tree t) st)))
      ∙ passed _ _ (le-ltb end end (omega arith))) (omega (arith, length-append (two_bytes n) (new_tree t), two-long n))

  -- the bytes of the trees of these symbols
  abbrev new_items : Symbols → Trees → List ℕ
  new_items rest ts = items_written rest (trees_converted rest ts)

  abbrev ItemsAgain : Symbols → Trees → Type 0
  ItemsAgain rest ts = (e' p' : ℕ) → Stands cs e' p' (new_items rest ts) → trees_of cs S e' rest p' ≡ got (trees_converted rest ts) (p' + length (new_items rest ts))

  -- a constructor has none
  constructor-again : (x : Symbol) (rest : Symbols) (ts : Trees) → x.is_operation ≡ false → ItemsAgain rest ts
      → ItemsAgain (x ∷ rest) (Trees.more_trees Tree.exempt ts)
  unfolding trees_of trees_converted items_written
  constructor-again x rest ts k is e' p' st = rw k (then-got _ (is e' p' (rw k at st)))

  -- an operation has one
  operation-again : (x : Symbol) (rest : Symbols) (t : Tree) (ts : Trees) → x.is_operation ≡ true
      → ((e' p' : ℕ) → Stands cs e' p' (counted (new_tree t)) → item_at cs S e' x p' ≡ got (without_exempt t) (p' + length (counted (new_tree t))))
      → ItemsAgain rest ts → ItemsAgain (x ∷ rest) (Trees.more_trees t ts)
  unfolding trees_of trees_converted items_written
  operation-again x rest t ts k first is e' p' st =
      let one = counted (new_tree t) in
      let others = new_items rest ts in
      let st' : Stands cs e' p' (one ++ others) = simp k at st in
      simp k (land (then-got _ (first e' p' (stands-front one others st')) ∙ then-got _ (is e' (p' + length one) (stands-behind one others st')))
      (omega (arith, length-append one others)))

  items-again : (e : ℕ) (rest : Symbols) (p : ℕ) → Good (λ ts q. ItemsAgain rest ts) (trees_of bs S e rest p)
  unfolding trees_of trees_converted items_written
  items-again e [] p = good {a = Trees.no_trees} λ e' p' st. land refl (omega arith)
  items-again e (x ∷ rest) p = by x.is_operation refl (λ q. items-again e rest q)
    where
      by : (t : Bool) → x.is_operation ≡ t → ((q : ℕ) → Good (λ ts r. ItemsAgain rest ts) (trees_of bs S e rest q))
          → Good (λ ts q. ItemsAgain (x ∷ rest) ts) (elim t [
            | false ↦ ◌then◌ (trees_of bs S e rest p) (λ ts r. got (Trees.more_trees Tree.exempt ts) r)
            | true ↦ ◌then◌ (item_at bs S e x p) (λ t q. ◌then◌ (trees_of bs S e rest q) (λ ts r. got (Trees.more_trees t ts) r))
          ])
      by false k ih = then-good (ih p) λ ts r is. good (constructor-again x rest ts k is)
      by true k ih = then-good (item-again e x p) λ t q first. then-good (ih q) λ ts r is. good (operation-again x rest t ts k first is)

  -- the tree part, where nothing stands behind it
  pub part-again : (p : ℕ) → Good (λ ts q. (p' : ℕ) → Stands cs (length cs) p' (counted (new_items S ts)) → p' + length (counted (new_items S ts)) ≡ length cs
      → tree_part cs S p' ≡ got (trees_converted S ts) (length cs)) (tree_part bs S p)
  unfolding tree_part counted
  part-again p =
      then-good (any (length_at bs 0 _ p)) λ e q _. then-good (items-again e S q) λ ts r is. unless _ _ _ λ _ _. unless _ _ _ λ _ _.
      good λ p' st all.
      let n = length (new_items S ts) in
      let end = p' + 2 + n in
      let whole : end ≡ length cs = omega (arith, length-append (two_bytes n) (new_items S ts), two-long n) in
      land (then-got _ (length-again n (new_items S ts) st (omega arith))
      ∙ then-got _ (is end (p' + 2) (stands-to end (omega arith) (stands-two n (new_items S ts) st)))
      ∙ passed _ _ (le-ltb end end (omega arith)) ∙ passed _ _ (le-ltb end (length cs) (omega arith))) whole
