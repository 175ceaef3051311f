-- The numbers of an expression that was read, both ways: where its bytes are those of a row's numbers, that row opens with the numbers of the
-- expression; and where the bytes behind it are those of some numbers, its own are those of its numbers and these.
use mathlib.Core.List.{List, [], ◌∷◌, ◌++◌, append_assoc}
use mathlib.Core.Path.{◌≡◌, refl, sym, ap, ◌∙◌}
use Prim.Native.Nat.{ℕ, zero, suc, ◌+◌, ◌-◌, ◌/◌, ◌%◌, ◌≤◌, ◌<◌}
use native.Mathlib.Omega.{arith}
use native.Mathlib.Numerals.{add-one}
use mathlib.Core.Bool.{not}
use borrow.Author.Tests.{leb-false, eqb-true, not-false}
use lib.Dec.{leb, eqb}
use lib.ListN.{length, get_or, drop, length-drop, get_or-map}
use lib.Seq.{drop-cons}
use Rattle.limits.specs.Sizes.{most_variables, most_expression_nodes}
use Rattle.reading.specs.Reading.{Reading}
use Rattle.reading.specs.Bytes.{version_of, big_endian, two_bytes}
use Rattle.reading.proofs.Good.{Good, good, refused, then-good, unless, byte_good, number-good}
use Rattle.symbols.specs.Symbols.{Symbol, Symbols, no_symbol, symbol_of}
use Rattle.expressions.specs.Expressions.{Expr, Exprs}
use Rattle.expressions.specs.ExpressionAt.{Left, leaving, ExprReader, node_at, variable_at, row_with, choice_at, applied_at, apply_at, shared_at, code_at, expr_at, whole_at, whole_expr_at}
use Rattle.book.specs.Reader.{FewArguments}
use Rattle.writer.specs.Rows.{expr_numbers, argument_numbers}
use Rattle.writer.specs.Layout.{byte_of, arities_of, code, variable, symbol, Due, due, behind_expr, behind_code, behind, number_bytes, numbers_bytes}
use Rattle.writer.specs.Exact.{Bytes}

-- ---- numbers before numbers

-- P is said of the numbers from a place on, Q of those from a later place on: between the two stand xs, and nothing else can.
pub record Laid (S : Symbols) (bs : List ℕ) (P Q : List ℕ → Type 0) (xs : List ℕ) : Type 0 where
  pub back : FewArguments S → (ns : List ℕ) → P ns → (more : List ℕ) × (ns ≡ xs ++ more) × Q more
  pub laid : Bytes bs → (more : List ℕ) → Q more → P (xs ++ more)

-- none
pub laid_none : {S : Symbols} {bs : List ℕ} {P : List ℕ → Type 0} → Laid S bs P P []
laid_none = record { back = λ few ns at. (ns, refl, at); laid = λ bytes more at. at }

-- some, and others behind them
pub laid_then : {S : Symbols} {bs : List ℕ} {P Q R : List ℕ → Type 0} {xs ys : List ℕ} → Laid S bs P Q xs → Laid S bs Q R ys → Laid S bs P R (xs ++ ys)
laid_then {xs} {ys} one two = record {
  back = λ few ns at.
      let first = one.back few ns at in
      let second = two.back few first.0 first.2 in
      (second.0, first.1 ∙ ap (◌++◌ xs) second.1 ∙ sym (append_assoc xs ys second.0), second.2);
  laid = λ bytes more at. rw append_assoc (one.laid bytes (ys ++ more) (two.laid bytes more at));
}

-- where every symbol takes few arguments, few variables are bound: a byte holds each, and no other number becomes this byte
abbrev pub Narrow : Symbols → List ℕ → Type 0
Narrow S vars = FewArguments S → length vars ≤ most_variables

-- ---- two bytes

module _ (bs : List ℕ) (p : ℕ) (fits : p + 2 ≤ length bs) where
  -- two bytes and what stands behind them
  two-drop : drop p bs ≡ get_or bs p 0 ∷ get_or bs (p + 1) 0 ∷ drop (p + 2) bs
  two-drop =
      let next : p + 2 ≡ suc (suc p) = omega arith in
      rw (next, add-one p) (drop-cons bs p 0 (omega arith) ∙ ap (◌∷◌ (get_or bs p 0)) (drop-cons bs (suc p) 0 (omega arith)))

  -- the two bytes of a number are read as this number
  pub two_back : (n : ℕ) (xs : List ℕ) → drop p bs ≡ two_bytes n ++ xs → (big_endian bs p ≡ n) × (drop (p + 2) bs ≡ xs)
  unfolding two_bytes
  two_back n xs at =
      let both : get_or bs p 0 ∷ get_or bs (p + 1) 0 ∷ drop (p + 2) bs ≡ n / 256 ∷ n % 256 ∷ xs = sym two-drop ∙ at in
      let high : get_or bs p 0 ≡ n / 256 = cc in
      let low : get_or bs (p + 1) 0 ≡ n % 256 = cc in
      (omega arith, cc)

  -- a number that is read has these two bytes
  pub two-laid : Bytes bs → drop p bs ≡ two_bytes (big_endian bs p) ++ drop (p + 2) bs
  unfolding two_bytes
  two-laid bytes =
      let byte = bytes (p + 1) in
      let high : big_endian bs p / 256 ≡ get_or bs p 0 = omega arith in
      let low : big_endian bs p % 256 ≡ get_or bs (p + 1) 0 = omega arith in
      rw (high, low) two-drop

-- ---- one number

-- as many arguments as the symbol takes
arity_is : (S : Symbols) (f : ℕ) → get_or (arities_of S) f 0 ≡ length (symbol_of S f).arguments
unfolding arities_of no_symbol
arity_is S f = get_or-map (λ (x : Symbol). length x.arguments) S f no_symbol

-- from p on stand the bytes of these numbers, up to e
abbrev pub NumbersAt : Symbols → List ℕ → ℕ → ℕ → Due → List ℕ → Type 0
NumbersAt S bs e p d ns = drop p bs ≡ numbers_bytes (arities_of S) d ns ++ drop e bs

-- between p and q stand the numbers xs, those of so many expressions, however many are to come behind them
record ExpressionsAt (S : Symbols) (bs : List ℕ) (e many p q : ℕ) (xs : List ℕ) : Type 0 where
  pub before : (others : ℕ) → Laid S bs (NumbersAt S bs e p (due code (many + others))) (NumbersAt S bs e q (due code others)) xs

-- expressions behind one
expressions-more : {S : Symbols} {bs : List ℕ} {e many p q r : ℕ} {xs ys : List ℕ} → ExpressionsAt S bs e 1 p q xs → ExpressionsAt S bs e many q r ys
    → ExpressionsAt S bs e (suc many) p r (xs ++ ys)
expressions-more {many} first more = record {
  before = λ others.
      let all : suc many + others ≡ 1 + (many + others) = omega arith in
      rw all (laid_then (first.before (many + others)) (more.before others));
}

module _ (S : Symbols) (bs : List ℕ) (e : ℕ) (fits : e ≤ length bs) where
  -- before the end there is a number
  some_number : (p : ℕ) (d : Due) → p < e → NumbersAt S bs e p d [] → ⊥
  unfolding numbers_bytes
  some_number p d h at = omega (arith, ap length at, length-drop p bs, length-drop e bs)

  module _ (d : Due) (p n : ℕ) (there : p < e) (read : n ≡ get_or bs p 0) where
    -- a number that takes one byte
    pub byte_laid : ((k : ℕ) → number_bytes d.next k ≡ byte_of k ∷ []) → (FewArguments S → n < 255)
        → Laid S bs (NumbersAt S bs e p d) (NumbersAt S bs e (p + 1) (behind (arities_of S) d n)) (n ∷ [])
    unfolding numbers_bytes byte_of
    byte_laid one small = record { back = λ few. from (small few); laid = to }
      where
        own : drop p bs ≡ n ∷ drop (p + 1) bs
        own = rw (read, add-one p) (drop-cons bs p 0 (omega arith))

        from : n < 255 → (ns : List ℕ) → NumbersAt S bs e p d ns → (more : List ℕ) × (ns ≡ n ∷ more) × NumbersAt S bs e (p + 1) (behind (arities_of S) d n) more
        from less [] at = absurd (some_number p d there at)
        from less (k ∷ ns) at =
            let all : n ∷ drop (p + 1) bs ≡ byte_of k ∷ (numbers_bytes (arities_of S) (behind (arities_of S) d k) ns ++ drop e bs) = sym own ∙ rw one at at in
            let first : n ≡ byte_of k = cc in
            let same : k ≡ n = omega arith in
            let others : NumbersAt S bs e (p + 1) (behind (arities_of S) d k) ns = cc in
            (ns, ap (λ m. m ∷ ns) same, rw same at others)

        to : Bytes bs → (more : List ℕ) → NumbersAt S bs e (p + 1) (behind (arities_of S) d n) more → NumbersAt S bs e p d (n ∷ more)
        to bytes more at =
            let byte = bytes p in
            let same : byte_of n ≡ n = omega arith in
            own ∙ rw (one, same) (ap (◌∷◌ n) at)

  -- a symbol takes two
  symbol-laid : (m p f : ℕ) → p + 2 ≤ e → f ≡ big_endian bs p
      → Laid S bs (NumbersAt S bs e p (due symbol m)) (NumbersAt S bs e (p + 2) (due code (length (symbol_of S f).arguments + m))) (f ∷ [])
  unfolding numbers_bytes number_bytes behind
  symbol-laid m p f there read = rw (← arity_is S f) (record { back = λ few ns at. from ns at; laid = to })
    where
      from : (ns : List ℕ) → NumbersAt S bs e p (due symbol m) ns → (more : List ℕ) × (ns ≡ f ∷ more) × NumbersAt S bs e (p + 2) (due code (get_or (arities_of S) f 0 + m)) more
      from [] at = absurd (some_number p (due symbol m) (omega arith) at)
      from (k ∷ ns) at =
          let two = two_back bs p (omega arith) k _ (at ∙ append_assoc (two_bytes k) _ _) in
          let same : k ≡ f = sym two.0 ∙ sym read in
          (ns, ap (λ m. m ∷ ns) same, rw same at two.1)

      to : Bytes bs → (more : List ℕ) → NumbersAt S bs e (p + 2) (due code (get_or (arities_of S) f 0 + m)) more → NumbersAt S bs e p (due symbol m) (f ∷ more)
      to bytes more at = two-laid bs p (omega arith) bytes ∙ rw (← read, at) (sym (append_assoc (two_bytes _) _ _))

  -- ---- an expression

  -- whatever the reader reads has its numbers there
  abbrev Reads : ExprReader → Type 0
  Reads expr = (s left p : ℕ) → Good (λ x q. ExpressionsAt S bs e 1 p q (expr_numbers x.what)) (expr s left p)

  -- an expression's code, and what it asks for behind it
  code-laid : (m p c : ℕ) → p < e → c ≡ get_or bs p 0 → c < 4 → Laid S bs (NumbersAt S bs e p (due code (1 + m))) (NumbersAt S bs e (p + 1) (behind_expr m c)) (c ∷ [])
  unfolding behind behind_code number_bytes
  code-laid m p c there read known =
      let one : 1 + m ≡ suc m = omega arith in
      rw one (byte_laid (due code (suc m)) p c there read (λ k. refl) (λ few. omega arith))

  -- the arguments of a symbol
  row_reads : (expr : ExprReader) → Reads expr → (sorts : List ℕ) (left p : ℕ)
      → Good (λ x q. ExpressionsAt S bs e (length sorts) p q (argument_numbers x.what)) (row_with expr sorts left p)
  unfolding row_with argument_numbers
  row_reads expr reads [] left p = good {a = leaving left Exprs.no_exprs} {p = p} (record { before = λ m. let same : 0 + m ≡ m = omega arith in rw same laid_none })
  row_reads expr reads (s ∷ sorts) left p =
      then-good (reads s left p) λ a q first.
      then-good (row_reads expr reads sorts a.left q) λ r t others.
      good (expressions-more first others)

  -- a variable, behind its code
  variable_reads : (vars : List ℕ) → Narrow S vars → (s left p : ℕ) → p < e → 0 ≡ get_or bs p 0
      → Good (λ x q. ExpressionsAt S bs e 1 p q (expr_numbers x.what)) (variable_at bs 0 e vars s left p)
  unfolding variable_at expr_numbers behind_expr behind number_bytes
  variable_reads vars narrow s left p there zero-code =
      then-good (byte_good bs 0 e (p + 1)) λ x q is. unless _ _ (leb (length vars) x) λ _ known. unless _ _ _ λ _ _.
      good (record {
        before = λ m. rw is.1 (laid_then (code-laid m p 0 there zero-code (omega arith))
            (byte_laid (due variable m) (p + 1) x (omega arith) is.0 (λ k. refl) (λ few. omega (arith, narrow few, leb-false (length vars) x known))));
      })

  -- a symbol and its arguments, behind theirs
  apply_reads : (expr : ExprReader) → Reads expr → (s left p : ℕ) → p < e → 1 ≡ get_or bs p 0
      → Good (λ x q. ExpressionsAt S bs e 1 p q (expr_numbers x.what)) (apply_at bs 0 S e expr s left p)
  unfolding apply_at applied_at expr_numbers behind_expr
  apply_reads expr reads s left p there one_code =
      then-good {P = λ f q. (f ≡ big_endian bs (p + 1)) × (q ≡ p + 1 + 2) × (q ≤ e)}
      (then-good (number-good bs 0 e (p + 1)) λ f q is. unless _ _ _ λ _ _. unless _ _ _ λ _ _. good is) λ f q is.
      then-good (row_reads expr reads (symbol_of S f).arguments left q) λ r t row.
      good (record {
        before = λ m. laid_then (code-laid m p 1 there one_code (omega arith)) (laid_then (symbol-laid m (p + 1) f (omega arith) is.0) ((rw is.1 at row).before m));
      })

  -- the two sides of a choice, behind theirs
  choice_reads : (expr : ExprReader) → Reads expr → (s left p : ℕ) → p < e → 2 ≡ get_or bs p 0
      → Good (λ x q. ExpressionsAt S bs e 1 p q (expr_numbers x.what)) (choice_at expr s left p)
  unfolding choice_at expr_numbers behind_expr
  choice_reads expr reads s left p there two-code =
      then-good (reads s left (p + 1)) λ a q first.
      then-good (reads s a.left q) λ b t second.
      good (record { before = λ m. laid_then (code-laid m p 2 there two-code (omega arith)) ((expressions-more first second).before m) })

  -- one node less left
  node_reads : {P : Left Expr → ℕ → Type 0} (left p : ℕ) {more : ℕ → Reading (Left Expr)} → ((l : ℕ) → Good P (more l)) → Good P (node_at 0 left p more)
  unfolding node_at
  node_reads zero p f = refused
  node_reads (suc left) p f = f left

  -- an expression, by its code
  code_reads : version_of bs ≡ 1 → (expr : List ℕ → ExprReader) (vars : List ℕ) → Reads (expr vars) → Narrow S vars → (c s left p : ℕ) → p < e → c ≡ get_or bs p 0
      → Good (λ x q. ExpressionsAt S bs e 1 p q (expr_numbers x.what)) (code_at bs 0 S e expr vars c s left p)
  unfolding code_at shared_at expr_numbers behind_expr
  code_reads first expr vars reads narrow zero s left p there read = variable_reads vars narrow s left p there read
  code_reads first expr vars reads narrow (suc zero) s left p there read = node_reads left p λ l. apply_reads (expr vars) reads s l p there read
  code_reads first expr vars reads narrow (suc (suc zero)) s left p there read = node_reads left p λ l. choice_reads (expr vars) reads s l p there read
  code_reads first expr vars reads narrow (suc (suc (suc zero))) s left p there read = node_reads left p λ l. good (record { before = λ m. code-laid m p 3 there read (omega arith) })
  code_reads first expr vars reads narrow (suc (suc (suc (suc zero)))) s left p there read =
      unless _ _ (not (eqb (version_of bs) 2)) λ _ second. absurd (omega (arith, eqb-true (version_of bs) 2 (not-false _ second)))
  code_reads first expr vars reads narrow (suc (suc (suc (suc (suc c))))) s left p there read = refused

  -- an expression
  expr_reads : version_of bs ≡ 1 → (depth : ℕ) (vars : List ℕ) → Narrow S vars → Reads (expr_at bs 0 S e depth vars)
  unfolding expr_at
  expr_reads first zero vars narrow s left p = refused
  expr_reads first (suc depth) vars narrow s left p =
      then-good (byte_good bs 0 e p) λ c q is. code_reads first (expr_at bs 0 S e depth) vars (expr_reads first depth vars narrow) narrow c s left p (omega arith) is.0

  -- a whole expression, with none to come behind it
  pub whole_reads : version_of bs ≡ 1 → (vars : List ℕ) → Narrow S vars → (s p : ℕ)
      → Good (λ x q. Laid S bs (NumbersAt S bs e p (due code 1)) (NumbersAt S bs e q (due code 0)) (expr_numbers x)) (whole_expr_at bs 0 S e vars s p)
  unfolding whole_expr_at whole_at
  whole_reads first vars narrow s p = then-good (expr_reads first (e - p) vars narrow s most_expression_nodes p) λ x q is. good (is.before 0)
