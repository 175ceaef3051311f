-- What was read from a book stands there as it is written: its expressions and its symbols.
use mathlib.Core.List.{List, [], ◌∷◌, ◌++◌, append_assoc}
use mathlib.Core.Logic.{⊎_elim}
use mathlib.Core.Path.{◌≡◌, refl, sym, ap, ◌∙◌}
use Prim.Native.Nat.{ℕ, zero, suc, ◌+◌, ◌-◌, ◌≤◌, ◌<◌}
use native.Mathlib.Nat.{eq-or-lt_of_le}
use native.Mathlib.Numerals.{add-one}
use native.Mathlib.Omega.{arith}
use borrow.Author.Tests.{ltb-false}
use lib.Dec.{ltb, eqb}
use lib.ListN.{length, get_or, take, drop, length-append, length-take, length-drop, take-append-drop}
use lib.Seq.{drop-cons, drop-drop, take_at}
use Rattle.limits.specs.Sizes.{most_expression_nodes, most_arguments, last_sort}
use Rattle.reading.specs.Reading.{Reading}
use Rattle.reading.specs.Bytes.{big_endian, two_bytes, length_at}
use Rattle.reading.specs.Answer.{part_of}
use Rattle.reading.proofs.Good.{Good, good, refused, each, both, then-good, unless, byte_good, number-good}
use Rattle.symbols.specs.Symbols.{Symbol, Symbols, symbol_of}
use Rattle.symbols.specs.SymbolPart.{symbol_at, symbols_at, opened, symbol_part}
use Rattle.symbols.proofs.Parts.{sorts_good, symbols-none, symbols-next}
use Rattle.expressions.specs.Expressions.{Expr, Exprs, expr_bytes}
use Rattle.expressions.specs.ExpressionAt.{Left, leaving, ExprReader, node_at, variable_at, row_with, choice_at, applied_at, apply_at, shared_at, code_at, expr_at}
use Rattle.expressions.specs.ExpressionAt.{whole_at, whole_expr_at}
use Rattle.expressions.proofs.Extents.{whole_extent}
use Rattle.writer.specs.Exact.{Bytes}
use Rattle.writer.proofs.ExprRows.{two-laid}
use Rattle.converter.specs.Written.{expr_written, row_written, counted, kind_of, symbol_written, symbols_written}

-- ---- bytes at a place

-- from p to q stand xs
pub record Read (bs : List ℕ) (p q : ℕ) (xs : List ℕ) : Type 0 where
  pub is : drop p bs ≡ xs ++ drop q bs
  pub long : q ≡ p + length xs

module _ {bs : List ℕ} where
  -- none
  pub read_none : (p : ℕ) → Read bs p p []
  read_none p = record { is = refl; long = omega arith }

  -- some, and others behind them
  pub read-then : {p q r : ℕ} {xs ys : List ℕ} → Read bs p q xs → Read bs q r ys → Read bs p r (xs ++ ys)
  read-then {r = r} {xs = xs} {ys = ys} one two = record {
    is = one.is ∙ ap (◌++◌ xs) two.is ∙ sym (append_assoc xs ys (drop r bs));
    long = omega (arith, one.long, two.long, length-append xs ys);
  }

  -- a byte
  pub read_byte : {p q x : ℕ} → p < length bs → x ≡ get_or bs p 0 → q ≡ p + 1 → Read bs p q (x ∷ [])
  read_byte {p} there same next = record { is = rw (next, same, add-one p) (drop-cons bs p 0 there); long = next }

  -- two bytes
  pub read-two : Bytes bs → {p q n : ℕ} → p + 2 ≤ length bs → n ≡ big_endian bs p → q ≡ p + 2 → Read bs p q (two_bytes n)
  unfolding two_bytes
  read-two bytes {p} there same next = record { is = rw (next, same) (two-laid bs p there bytes); long = next }

  -- as many as there are
  pub read-many : {p q : ℕ} (n : ℕ) → p + n ≤ length bs → q ≡ p + n → Read bs p q (take n (drop p bs))
  read-many {p} n there next = record {
    is = rw next (sym (take-append-drop n (drop p bs)) ∙ ap (◌++◌ (take n (drop p bs))) (drop-drop n p bs));
    long = omega (arith, length-take n (drop p bs), length-drop p bs);
  }

  -- the part from p to q
  pub read-part : {p q : ℕ} {xs : List ℕ} → Read bs p q xs → part_of bs p q ≡ xs
  read-part {p} {q} {xs} read = rw read.is (take_at xs (drop q bs) (q - p) (omega (arith, read.long)))

-- ---- expressions

module _ (bs : List ℕ) (bytes : Bytes bs) (S : Symbols) (e : ℕ) (fits : e ≤ length bs) where
  -- whatever the reader reads stands there as it is written
  abbrev Reads : ExprReader → Type 0
  Reads expr = (s left p : ℕ) → Good (λ x q. Read bs p q (expr_written x.what)) (expr s left p)

  row_reads : (expr : ExprReader) → Reads expr → (sorts : List ℕ) (left p : ℕ) → Good (λ x q. Read bs p q (row_written x.what)) (row_with expr sorts left p)
  unfolding row_with row_written
  row_reads expr reads [] left p = good {a = leaving left Exprs.no_exprs} (read_none p)
  row_reads expr reads (s ∷ sorts) left p =
      then-good (reads s left p) λ a q first.
      then-good (row_reads expr reads sorts a.left q) λ r t others.
      good (read-then first others)

  -- by its code c, which stands at p
  module _ {p : ℕ} (there : p < e) where
    variable_reads : (vars : List ℕ) (s left : ℕ) → 0 ≡ get_or bs p 0 → Good (λ x q. Read bs p q (expr_written x.what)) (variable_at bs 0 e vars s left p)
    unfolding variable_at expr_written
    variable_reads vars s left code =
        then-good (byte_good bs 0 e (p + 1)) λ x q is. unless _ _ _ λ _ _. unless _ _ _ λ _ _.
        good (read-then (read_byte (omega arith) code refl) (read_byte (omega (arith, is.1, is.2)) is.0 is.1))

    apply_reads : (expr : ExprReader) → Reads expr → (s left : ℕ) → 1 ≡ get_or bs p 0
        → Good (λ x q. Read bs p q (expr_written x.what)) (apply_at bs 0 S e expr s left p)
    unfolding apply_at applied_at expr_written
    apply_reads expr reads s left code =
        then-good {P = λ f q. Read bs (p + 1) q (two_bytes f)}
        (then-good (number-good bs 0 e (p + 1)) λ f q is. unless _ _ _ λ _ _. unless _ _ _ λ _ _.
        good (read-two bytes (omega (arith, is.1, is.2)) is.0 is.1))
        λ f q symbol.
        then-good (row_reads expr reads (symbol_of S f).arguments left q) λ r t row.
        good (read-then (read_byte (omega arith) code refl) (read-then symbol row))

    choice_reads : (expr : ExprReader) → Reads expr → (s left : ℕ) → 2 ≡ get_or bs p 0
        → Good (λ x q. Read bs p q (expr_written x.what)) (choice_at expr s left p)
    unfolding choice_at expr_written
    choice_reads expr reads s left code =
        then-good (reads s left (p + 1)) λ a q first.
        then-good (reads s a.left q) λ b t other.
        good (read-then (read_byte (omega arith) code refl) (read-then first other))

    shared_reads : (expr : List ℕ → ExprReader) → ((vars : List ℕ) → Reads (expr vars)) → (vars : List ℕ) (s left : ℕ) → 4 ≡ get_or bs p 0
        → Good (λ x q. Read bs p q (expr_written x.what)) (shared_at bs 0 S e expr vars s left p)
    unfolding shared_at expr_written
    shared_reads expr reads vars s left code =
        unless _ _ _ λ _ _. unless _ _ _ λ _ _. then-good (byte_good bs 0 e (p + 1)) λ t q is. unless _ _ _ λ _ _.
        then-good (reads vars t left q) λ a r first.
        then-good (reads (vars ++ (t ∷ [])) s a.left r) λ b u body.
        good (read-then (read_byte (omega arith) code refl) (read-then (read_byte (omega (arith, is.1, is.2)) is.0 is.1) (read-then first body)))

    node_reads : (left : ℕ) {more : ℕ → Reading (Left Expr)} → ((l : ℕ) → Good (λ x q. Read bs p q (expr_written x.what)) (more l))
        → Good (λ x q. Read bs p q (expr_written x.what)) (node_at 0 left p more)
    unfolding node_at
    node_reads zero f = refused
    node_reads (suc left) f = f left

    code_reads : (expr : List ℕ → ExprReader) → ((vars : List ℕ) → Reads (expr vars)) → (vars : List ℕ) (c s left : ℕ) → c ≡ get_or bs p 0
        → Good (λ x q. Read bs p q (expr_written x.what)) (code_at bs 0 S e expr vars c s left p)
    unfolding code_at expr_written
    code_reads expr reads vars zero s left code = variable_reads vars s left code
    code_reads expr reads vars (suc zero) s left code = node_reads left λ l. apply_reads (expr vars) (reads vars) s l code
    code_reads expr reads vars (suc (suc zero)) s left code = node_reads left λ l. choice_reads (expr vars) (reads vars) s l code
    code_reads expr reads vars (suc (suc (suc zero))) s left code = node_reads left λ l. good {a = leaving l Expr.fail} (read_byte (omega arith) code refl)
    code_reads expr reads vars (suc (suc (suc (suc zero)))) s left code = shared_reads expr reads vars s left code
    code_reads expr reads vars (suc (suc (suc (suc (suc c))))) s left code = refused

  expr_reads : (depth : ℕ) (vars : List ℕ) → Reads (expr_at bs 0 S e depth vars)
  unfolding expr_at
  expr_reads zero vars s left p = refused
  expr_reads (suc depth) vars s left p =
      then-good (byte_good bs 0 e p) λ c q is. code_reads (omega (arith, is.1, is.2)) (expr_at bs 0 S e depth) (expr_reads depth) vars c s left is.0

  -- a whole one, and it ends where its bytes do
  pub whole_reads : (vars : List ℕ) (s p : ℕ) → Good (λ x q. Read bs p q (expr_written x) × (q ≡ p + expr_bytes x) × (q ≤ e)) (whole_expr_at bs 0 S e vars s p)
  unfolding whole_expr_at whole_at
  whole_reads vars s p =
      then-good (both (expr_reads (e - p) vars s most_expression_nodes p) (whole_extent bs 0 S e vars s p)) λ x q is. good (is.0, is.1.size, is.1.within)

-- ---- symbols

-- a length, and where what it counts ends
pub length-is : (bs : List ℕ) (e p : ℕ) → Good (λ end q. (q ≡ p + 2) × (end ≡ p + 2 + big_endian bs p) × (end ≤ e)) (length_at bs 0 e p)
unfolding length_at
length-is bs e p = then-good (number-good bs 0 e p) λ n q is. unless _ _ (ltb e (q + n)) λ _ t. good (is.1, omega (arith, is.0, is.1), ltb-false e (q + n) t)

-- a kind is written as it was read
kind_same : (kind : ℕ) → kind ≤ 1 → kind_of (eqb kind 1) ≡ kind
unfolding kind_of
kind_same zero small = refl
kind_same (suc zero) small = refl
kind_same (suc (suc kind)) small = absurd (omega arith)

-- a symbol takes some bytes
some : (x : Symbol) → 0 < length (symbol_written x)
unfolding symbol_written
some x = omega arith

module _ (bs : List ℕ) (e : ℕ) (fits : e ≤ length bs) where
  symbol_reads : (before p : ℕ) → Good (λ x q. Read bs p q (symbol_written x) × (q ≤ e)) (symbol_at bs e before p)
  unfolding symbol_at symbol_written
  symbol_reads before p =
      let n = get_or bs p 0 in
      unless _ _ (ltb e (p + 1 + n)) λ _ ends. unless _ _ _ λ _ _. unless _ _ (ltb n 2) λ _ long. unless _ _ (ltb (2 + most_arguments) n) λ _ short.
      unless _ _ (ltb 1 (get_or bs (p + 1) 0)) λ _ kind. unless _ _ (ltb last_sort (get_or bs (p + 2) 0)) λ _ sort.
      let inside : p + 1 + n ≤ e = ltb-false _ _ ends in
      let two : 2 ≤ n = ltb-false _ _ long in
      then-good (sorts_good bs (n - 2) (p + 3) (omega arith)) λ sorts q read.
      let first : 2 + length sorts ≡ n = omega (arith, read.many) in
      let arguments = read-many {bs = bs} {p = p + 3} {q = q} (n - 2) (omega arith) read.behind in
      good (
        rw (first, kind_same (get_or bs (p + 1) 0) (ltb-false 1 _ kind)) (read-then (read_byte {p = p} {q = p + 1} (omega arith) refl refl)
            (read-then (read_byte {p = p + 1} {q = p + 2} (omega arith) refl (omega arith))
            (read-then (read_byte {p = p + 2} {q = p + 3} (omega arith) refl (omega arith)) (rw (← read.same) at arguments)))),
        omega (arith, read.behind),
      )

  -- all symbols up to the end
  symbols-read : (bound before p : ℕ) → p ≤ e → e ≤ p + bound → Good (λ S q. Read bs p q (symbols_written S) × (q ≡ e)) (symbols_at bs bound e before p)
  unfolding symbols_at symbols_written
  symbols-read zero before p h enough = good {a = []} (read_none p, omega arith)
  symbols-read (suc bound) before p h enough = ⊎_elim
      (λ (ended : p ≡ e). rw (symbols-none bs (suc bound) e before p (omega arith)) (good {a = []} (read_none p, ended)))
      (λ (there : p < e). rw (symbols-next bs bound e before p there) (
      then-good (symbol_reads before p) λ x q first.
      then-good (symbols-read bound (suc before) q first.1 (omega (arith, first.0.long, some x))) λ rest r more.
      good (read-then first.0 more.0, more.1)))
      (eq-or-lt_of_le h)

-- where the symbol part begins and ends
opened-is : (bs : List ℕ) → Good (λ e q. (q ≡ 3) × (e ≡ 3 + big_endian bs 1) × (e ≤ length bs)) (opened bs)
unfolding opened
opened-is bs =
    unless _ _ _ λ _ _. then-good (byte_good bs 0 (length bs) 0) λ version p byte. unless _ _ _ λ _ _. unless _ _ _ λ _ _.
    then-good (length-is bs (length bs) p) λ e q part. unless _ _ _ λ _ _.
    let first : p ≡ 1 = omega (arith, byte.1) in
    good (omega (arith, part.0), part.1 ∙ rw first, part.2)

-- the symbol part, behind its length
pub part_reads : (bs : List ℕ) → Bytes bs
    → Good (λ S q. (part_of bs 1 (3 + big_endian bs 1) ≡ counted (symbols_written S)) × (q ≡ 3 + big_endian bs 1)) (symbol_part bs)
unfolding symbol_part counted
part_reads bs bytes =
    then-good (opened-is bs) λ e q start.
    each (λ S r is. whole e q start S r is) (symbols-read bs e start.2 (e - q) 0 q (omega (arith, start.0, start.1)) (omega arith))
  where
    whole : (e q : ℕ) → (q ≡ 3) × (e ≡ 3 + big_endian bs 1) × (e ≤ length bs) → (S : Symbols) (r : ℕ) → Read bs q r (symbols_written S) × (r ≡ e)
        → (part_of bs 1 (3 + big_endian bs 1) ≡ two_bytes (length (symbols_written S)) ++ symbols_written S) × (r ≡ 3 + big_endian bs 1)
    whole e q (first, end, inside) S r (read, all) =
        let many : length (symbols_written S) ≡ big_endian bs 1 = omega (arith, read.long) in
        let two : Read bs 1 q (two_bytes (length (symbols_written S))) = read-two bytes (omega arith) many first in
        (ap (part_of bs 1) (sym (all ∙ end)) ∙ read-part (read-then two read), all ∙ end)
