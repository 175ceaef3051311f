-- The book of a listing as the code puts it: the rows that hold its broader terms, its symbols, its rules, and what is handed back.
use mathlib.Core.Bool.{Bool, true, false, ◌||◌}
use mathlib.Core.List.{List, [], ◌∷◌, ◌++◌, append_assoc}
use mathlib.Core.Path.{◌≡◌, refl, sym, ap, ◌∙◌}
use Prim.Native.Nat.{ℕ, zero, suc, ◌+◌, ◌*◌, ◌-◌, ◌<◌, ◌≤◌}
use native.Mathlib.Numerals.{add-one}
use native.Mathlib.Omega.{arith}
use lib.ListN.{length, get_or, drop, replicate, length-append, length-map}
use borrow.Author.Tests.{lt-ltb, le-ltb, ltb-false}
use lib.Dec.{ltb}
use Rattle.limits.specs.Sizes.{most_book_bytes, most_symbols}
use Rattle.reading.specs.Reading.{Reading, got, refusal}
use Rattle.reading.specs.Bytes.{two_bytes}
use Rattle.expressions.specs.Expressions.{Expr}
use Rattle.symbols.specs.Symbols.{Symbols}
use Rattle.book.specs.Trees.{Tree, Trees}
use Rattle.tagged.specs.Listing.{Broader, broader_in}
use Rattle.tagged.specs.Terms.{term, operation, symbols_for, rules_before, exempt_before, first_rules, second_rules, trees_for, rules_for}
use Rattle.tagged.specs.Laid.{symbol_laid, symbols_laid, tree_laid, length_first, trees_laid, laid}
use Rattle.tagged.specs.Write.{passes, some_over, written, book_from, refusing}
use Rattle.terms.specs.Places.{bytes_of}
use Rattle.terms.specs.TermRows.{broader_rows, HoldTerms, Terms, TermsAs, Fitting}
use Rattle.listings.specs.Putting.{Put, HoldRow, HoldRows, kind_laid, kinds_laid, front_laid, rule_of, rule_laid, rules_laid, part_laid}
use Rattle.listings.proofs.PutWays.{put_then, put_whole, kinds-long}
use Rattle.tagged.proofs.Refused.{numbered, number_is}

-- ---- the rows

module _ (from to : List ℕ) where
  pub rows_long : (n x : ℕ) → length (broader_rows from to n x) ≡ n
  unfolding broader_rows
  rows_long zero x = refl
  rows_long (suc n) x = ap suc (rows_long n (suc x))

  module _ (above : Bool) (n x : ℕ) where
    -- the rule of heading x, then those behind it
    pub rules-more : x < n
        → rules_laid above n (broader_rows from to (n - x) x)
        ≡ rule_laid above n (bytes_of to (get_or from x 0) (get_or from (x + 1) 0)) ++ rules_laid above n (broader_rows from to (n - (x + 1)) (x + 1))
    unfolding broader_rows rules_laid
    rules-more less =
        let e : n - x ≡ suc (n - (x + 1)) = omega arith in
        rw (e, add-one) refl

    pub rules-none : n ≤ x → rules_laid above n (broader_rows from to (n - x) x) ≡ []
    unfolding broader_rows rules_laid
    rules-none past =
        let e : n - x ≡ 0 = omega arith in
        rw e refl

  module _ (n : ℕ) (rows : HoldRows from to n) where
    abbrev hold : HoldTerms from to n
    hold = rows.terms

    -- no heading's terms stand behind the last one's
    rises : (k x : ℕ) → x + k ≡ n → get_or from x 0 ≤ get_or from n 0
    rises zero x is = let e : x ≡ n = omega arith in rw e (omega arith)
    rises (suc k) x is = omega (arith, hold.rising x (omega arith), rises k (suc x) (omega arith))

    pub hold_row : (x : ℕ) → x < n → HoldRow to n (get_or from x 0) (get_or from (x + 1) 0)
    hold_row x less = record {
      whole = rows.whole;
      few = hold.few;
      rising = rw add-one (hold.rising x less);
      filled = rw add-one (hold.filled (suc x) (omega arith));
      inside = λ i there. hold.inside i (omega (arith, there, ap (λ (k : ℕ). get_or from k 0) (add-one x), rises (n - suc x) (suc x) (omega arith)));
    }

-- ---- the symbols

symbols_append : (xs ys : Symbols) → symbols_laid (xs ++ ys) ≡ symbols_laid xs ++ symbols_laid ys
unfolding symbols_laid
symbols_append [] ys = refl
symbols_append (x ∷ xs) ys =
    ap (λ (l : List ℕ). symbol_laid x ++ l) (symbols_append xs ys) ∙ sym (append_assoc (symbol_laid x) (symbols_laid xs) (symbols_laid ys))

terms-laid : (n : ℕ) → symbols_laid (replicate n term) ≡ kinds_laid n 0
unfolding symbols_laid symbol_laid kinds_laid
terms-laid zero = refl
terms-laid (suc n) = ap (λ (l : List ℕ). kind_laid 0 ++ l) (terms-laid n)

operations_laid : (n : ℕ) → symbols_laid (replicate n operation) ≡ kinds_laid n 1
unfolding symbols_laid symbol_laid kinds_laid
operations_laid zero = refl
operations_laid (suc n) = ap (λ (l : List ℕ). kind_laid 1 ++ l) (operations_laid n)

module _ (n : ℕ) where
  abbrev kinds : List ℕ
  kinds = kinds_laid n 0 ++ kinds_laid (n + n) 1

  symbols-laid : symbols_laid (symbols_for n) ≡ kinds
  unfolding symbols_for
  symbols-laid = symbols_append (replicate n term) (replicate (n + n) operation) ∙ rw (terms-laid n, operations_laid (n + n)) refl

  kinds-many : length kinds ≡ 9 * n
  kinds-many = omega (arith, length-append (kinds_laid n 0) (kinds_laid (n + n) 1), kinds-long n 0, kinds-long (n + n) 1)

  front-laid : front_laid n ≡ (1 ∷ []) ++ (two_bytes (9 * n) ++ kinds)
  unfolding front_laid length_first
  front-laid = ap (λ (l : List ℕ). 1 ∷ (two_bytes (length l) ++ l)) symbols-laid ∙ ap (λ (k : ℕ). 1 ∷ (two_bytes k ++ kinds)) kinds-many

  pub front_long : length (front_laid n) ≡ 3 + 9 * n
  unfolding two_bytes
  front_long = omega (arith, ap length front-laid, kinds-many)

  pub front-put : {old one two three new : List ℕ} {p q r s : ℕ} → Put old 0 (1 ∷ []) p one → Put one p (two_bytes (9 * n)) q two
      → Put two q (kinds_laid n 0) r three → Put three r (kinds_laid (n + n) 1) s new → Put old 0 (front_laid n) s new
  front-put version long terms operations = rw front-laid (put_then version (put_then long (put_then terms operations)))

-- ---- the rules

-- constructors have no tree
exempt-laid : (n : ℕ) (xs : Symbols) (ts : Trees) → trees_laid (replicate n term ++ xs) (exempt_before n ts) ≡ trees_laid xs ts
unfolding trees_laid exempt_before
exempt-laid zero xs ts = refl
exempt-laid (suc n) xs ts = exempt-laid n xs ts

-- a row of rules, each with its length in front
unfoldable each_laid : List Expr → List ℕ
each_laid [] = []
each_laid (e ∷ es) = length_first (tree_laid (Tree.rule e)) ++ each_laid es

each_laid_lem : (es : List Expr) → trees_laid (replicate (length es) operation) (rules_before es Trees.no_trees) ≡ each_laid es
unfolding trees_laid rules_before each_laid
each_laid_lem [] = refl
each_laid_lem (e ∷ es) = ap (λ (l : List ℕ). length_first (tree_laid (Tree.rule e)) ++ l) (each_laid_lem es)

each_append : (es fs : List Expr) → each_laid (es ++ fs) ≡ each_laid es ++ each_laid fs
unfolding each_laid
each_append [] fs = refl
each_append (e ∷ es) fs =
    let first = length_first (tree_laid (Tree.rule e)) in
    ap (λ (l : List ℕ). first ++ l) (each_append es fs) ∙ sym (append_assoc first (each_laid es) (each_laid fs))

module _ (n : ℕ) where
  first-laid : (broader : Broader) → each_laid (first_rules broader) ≡ rules_laid false n broader
  unfolding each_laid first_rules rules_laid rule_laid rule_of
  first-laid [] = refl
  first-laid (bs ∷ rest) = ap (λ (l : List ℕ). rule_laid false n bs ++ l) (first-laid rest)

  second-laid : (broader : Broader) → each_laid (second_rules n broader) ≡ rules_laid true n broader
  unfolding each_laid second_rules rules_laid rule_laid rule_of
  second-laid [] = refl
  second-laid (bs ∷ rest) = ap (λ (l : List ℕ). rule_laid true n bs ++ l) (second-laid rest)

module _ (broader : Broader) where
  abbrev many : ℕ
  many = length broader

  rules-many : length (first_rules broader ++ second_rules many broader) ≡ many + many
  unfolding first_rules second_rules
  rules-many = simp (length-append, length-map) refl

  trees-laid : trees_laid (symbols_for many) (trees_for broader) ≡ part_laid many broader
  unfolding symbols_for trees_for part_laid
  trees-laid =
      let es = first_rules broader ++ second_rules many broader in
      exempt-laid many (replicate (many + many) operation) (rules_before es Trees.no_trees)
      ∙ ap (λ (k : ℕ). trees_laid (replicate k operation) (rules_before es Trees.no_trees)) (sym rules-many)
      ∙ each_laid_lem es
      ∙ each_append (first_rules broader) (second_rules many broader)
      ∙ rw (first-laid many broader, second-laid many broader) refl

  laid-is : laid (rules_for broader) ≡ front_laid many ++ (two_bytes (length (part_laid many broader)) ++ part_laid many broader)
  unfolding laid rules_for front_laid length_first
  laid-is = ap (λ (l : List ℕ). front_laid many ++ (two_bytes (length l) ++ l)) trees-laid

pub part-long : (n : ℕ) (broader : Broader) → length (part_laid n broader) ≡ length (rules_laid false n broader) + length (rules_laid true n broader)
unfolding part_laid
part-long n broader = length-append (rules_laid false n broader) (rules_laid true n broader)

pub part-put : (n : ℕ) (broader : Broader) {old one two new : List ℕ} {at p q r : ℕ} {long : List ℕ} → Put old at long p one
    → Put one p (rules_laid false n broader) q two → Put two q (rules_laid true n broader) r new → Put old at (long ++ part_laid n broader) r new
unfolding part_laid
part-put n broader long first second = put_then long (put_then first second)

-- ---- the book

module _ (from to : List ℕ) (n : ℕ) where
  abbrev rows : Broader
  rows = broader_rows from to n 0

  book-is : laid (rules_for rows) ≡ front_laid n ++ (two_bytes (length (part_laid n rows)) ++ part_laid n rows)
  book-is = laid-is rows ∙ ap (λ (k : ℕ). front_laid k ++ (two_bytes (length (part_laid k rows)) ++ part_laid k rows)) (rows_long from to n 0)

  pub book-long : length (laid (rules_for rows)) ≡ 5 + 9 * n + length (part_laid n rows)
  unfolding two_bytes
  book-long =
      omega (arith, ap length book-is ∙ length-append (front_laid n) (two_bytes (length (part_laid n rows)) ++ part_laid n rows), front_long n)

  pub book-put : {old mid new : List ℕ} {p q size : ℕ} → size ≡ length (part_laid n rows) → length (laid (rules_for rows)) ≤ length old
      → Put old 0 (front_laid n) p mid → Put mid p (two_bytes size ++ part_laid n rows) q new
      → new ≡ laid (rules_for rows) ++ drop (length (laid (rules_for rows))) old
  book-put {old} {mid} {new} {p} {q} is fits front trees =
      let all : Put old 0 (laid (rules_for rows)) q new = rw book-is (put_then front (rw is at trees)) in
      put_whole fits all

-- ---- what is handed back

or_right : (a b : Bool) → (a || b) ≡ false → b ≡ false
or_right true b is = cc
or_right false b is = is

-- what is told of a listing that is of the form, by whether its book passes a size
abbrev ToldBy : Terms → Broader → Bool → Type 0
ToldBy t broader over = elim over [
  | true ↦ (t.number ≡ 43) × (t.line ≡ 0)
  | false ↦ Fitting t broader
]

module _ (s room : List ℕ) (t : Terms) where
  -- the terms are told
  pub record Told : Type 0 where
    pub broader : Broader
    pub lines : ℕ
    pub read : broader_in s ≡ got broader lines
    pub passes-not : passes broader ≡ false
    pub fitting : Fitting t broader

  pub refused-way : TermsAs t (broader_in s) → (t.number ≡ 0 → ⊥) → refusing t.number t.line room ≡ book_from s room
  unfolding book_from written
  refused-way told some = by (broader_in s) refl told
    where
      fits : (broader : Broader) (n : ℕ) → broader_in s ≡ got broader n → (over : Bool) → passes broader ≡ over
          → ToldBy t broader over → refusing t.number t.line room ≡ book_from s room
      fits broader n read true over told = rw (book_from, read, written, over, told.0, told.1) refl
      fits broader n read false over told = absurd (some told.none)

      by : (r : Reading Broader) → broader_in s ≡ r → TermsAs t r → refusing t.number t.line room ≡ book_from s room
      by (refusal c line) read told = rw (book_from, read, told.0, told.1) refl
      by (got broader n) read told = fits broader n read (passes broader) refl told

  pub told-way : TermsAs t (broader_in s) → t.number ≡ 0 → Told
  told-way told none = by (broader_in s) refl told
    where
      fits : (broader : Broader) (n : ℕ) → broader_in s ≡ got broader n → (over : Bool) → passes broader ≡ over
          → ToldBy t broader over → Told
      fits broader n read true over told = absurd (omega (arith, told.0))
      fits broader n read false over told = record { broader = broader; lines = n; read = read; passes-not = over; fitting = told }

      by : (r : Reading Broader) → broader_in s ≡ r → TermsAs t r → Told
      by (refusal c line) read told = absurd (omega (arith, told.0, (number_is (numbered s) read).0))
      by (got broader n) read told = fits broader n read (passes broader) refl told

  module _ (told : Told) where
    abbrev bytes : List ℕ
    bytes = laid (rules_for (broader_rows t.from t.to t.headings 0))

    told-rows : broader_rows t.from t.to t.headings 0 ≡ told.broader
    told-rows = rw told.fitting.headings told.fitting.rows

    pub told-hold : HoldTerms t.from t.to t.headings
    told-hold = rw told.fitting.headings told.fitting.hold

    pub told-size : t.size ≡ length bytes
    told-size = rw told-rows told.fitting.size

    pub told-small : t.size ≤ most_book_bytes
    unfolding passes
    told-small =
        let b = told.broader in
        let n = length b in
        let others = ltb most_symbols (n + (n + n)) || some_over (first_rules b ++ second_rules n b) in
        let size = length (laid (rules_for b)) in
        omega (arith, told.fitting.size, ltb-false most_book_bytes size (or_right others (ltb most_book_bytes size) told.passes-not))

    pub room-way : length room < t.size → refusing 43 0 room ≡ book_from s room
    unfolding book_from written
    room-way less =
        let over = lt-ltb (length room) (length (laid (rules_for told.broader))) (omega (arith, told.fitting.size)) in
        rw (book_from, told.read, written, told.passes-not, over) refl

    pub book-way : (new : List ℕ) → t.size ≤ length room → new ≡ bytes ++ drop t.size room
        → record { result = record { number = 0; line = 0; bytes = t.size }; room = new } ≡ book_from s room
    unfolding book_from written
    book-way new fits is =
        let under = le-ltb (length room) (length (laid (rules_for told.broader))) (omega (arith, told.fitting.size)) in
        rw (book_from, told.read, written, told.passes-not, under, is, told.fitting.size, told-rows) refl
