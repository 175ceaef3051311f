-- The writer is exact, as `specs/Exact.antt` says: what it makes is read back to the same rows, what is read is made again of its rows, and so the rows that
-- it accepts are those of the books.
use mathlib.Core.List.{List, ◌++◌}
use mathlib.Core.Path.{◌≡◌, refl, sym, ap, ap₂, ◌∙◌}
use Prim.Native.Nat.{ℕ, ◌<◌, ◌≤◌}
use native.Mathlib.Decide.{dec_lt}
use native.Mathlib.Omega.{arith}
use borrow.Author.Tests.{lt-ltb, le-ltb}
use lib.ListN.{length, length-append, take-append-drop}
use Rattle.limits.specs.Sizes.{most_book_bytes}
use Rattle.reading.specs.Reading.{Reading, got, refusal}
use Rattle.reading.specs.Bytes.{version_of}
use Rattle.reading.proofs.Good.{Good, good, good-got, then-good, whenever}
use Rattle.symbols.specs.Symbols.{Symbols}
use Rattle.symbols.specs.SymbolPart.{symbol_part}
use Rattle.symbols.specs.SymbolsRead.{symbols_read}
use Rattle.symbols.proofs.Parts.{part-got}
use Rattle.book.specs.Rules.{Rules}
use Rattle.book.specs.TreeAt.{tree_part}
use Rattle.book.specs.Reader.{FewArguments}
use Rattle.book.specs.Admission.{read_book}
use Rattle.book.specs.RowsRead.{rows_read}
use Rattle.writer.specs.Rows.{Rows, rows_of, row_count}
use Rattle.writer.specs.Layout.{arities_of, front_bytes, tree_part_bytes}
use Rattle.writer.specs.Write.{Writing, made, refused, judged, made_of}
use Rattle.writer.specs.Exact.{Bytes, ReadsBack, WritesBack, Exactly}
use Rattle.writer.proofs.Bounds.{book-bytes}
use Rattle.writer.proofs.SymbolRows.{front-alone, symbols-back, symbols-laid}
use Rattle.writer.proofs.TreeRows.{trees-back, trees-laid}

-- ---- an admitted book

-- its two parts, and the place behind the first
record BookStands (bs : List ℕ) (rules : Rules) (end : ℕ) : Type 0 where
  pub behind : ℕ
  pub symbols-read : symbol_part bs ≡ got rules.symbols behind
  pub trees-read : tree_part bs rules.symbols behind ≡ got rules.trees end

book-stands : (bs : List ℕ) → Good (BookStands bs) (read_book bs)
unfolding read_book
book-stands bs =
    then-good (whenever {P = λ symbols p. symbol_part bs ≡ got symbols p} (symbol_part bs) (λ symbols p is. is)) λ symbols p first.
    then-good (whenever {P = λ trees q. tree_part bs symbols p ≡ got trees q} (tree_part bs symbols p) (λ trees q is. is)) λ trees q second.
    good (record { behind = p; symbols-read = first; trees-read = second })

-- ---- the ways of the writer

module _ (count : ℕ) (bs : List ℕ) where
  -- the bytes are too many for a book
  judged-over : most_book_bytes < length bs → judged count bs ≡ refused 50 count
  unfolding judged
  judged-over h = simp (judged, lt-ltb most_book_bytes (length bs))

  module _ (size : length bs ≤ most_book_bytes) where
    -- they are refused
    judged-refused : {c p : ℕ} → read_book bs ≡ refusal c p → judged count bs ≡ refused 50 (rows_read bs)
    unfolding judged
    judged-refused read = simp (judged, le-ltb most_book_bytes (length bs), read)

    -- they are a book
    judged-book : {rules : Rules} {p : ℕ} → read_book bs ≡ got rules p → judged count bs ≡ made bs
    unfolding judged
    judged-book read = simp (judged, le-ltb most_book_bytes (length bs), read)

module _ (rows : Rows) where
  -- the bytes of the symbols
  abbrev front : List ℕ
  front = front_bytes rows.symbols

  -- with the trees behind, which are laid out by these symbols
  abbrev whole_of : Symbols → List ℕ
  whole_of symbols = front ++ tree_part_bytes (arities_of symbols) rows.trees

  -- the symbols are too many for a book
  made-over : most_book_bytes < length front → made_of rows ≡ refused 50 (row_count rows)
  unfolding made_of
  made-over h = simp (made_of, lt-ltb most_book_bytes (length front))

  module _ (size : length front ≤ most_book_bytes) where
    -- they are refused
    made-refused : {c p : ℕ} → symbol_part front ≡ refusal c p → made_of rows ≡ refused 50 (symbols_read front)
    unfolding made_of
    made-refused read = simp (made_of, le-ltb most_book_bytes (length front), read)

    -- they are read
    made-judged : {symbols : Symbols} {p : ℕ} → symbol_part front ≡ got symbols p → made_of rows ≡ judged (row_count rows) (whole_of symbols)
    unfolding made_of
    made-judged read = simp (made_of, le-ltb most_book_bytes (length front), read)

-- ---- what was made was judged to be a book

-- nothing is both refused and made
not-both : {w : Writing} {c row : ℕ} {bs : List ℕ} → w ≡ refused c row → w ≡ made bs → ⊥
not-both refuses makes = let z : ◌≡◌ {A = ℕ} 0 1 = cc in omega arith

-- the bytes laid out are those made, and a book
record Admitted (whole bs : List ℕ) : Type 0 where
  pub same : whole ≡ bs
  pub size : length whole ≤ most_book_bytes
  pub rules : Rules
  pub end : ℕ
  pub read : read_book whole ≡ got rules end

judged-made : (count : ℕ) (whole : List ℕ) {bs : List ℕ} → judged count whole ≡ made bs → Admitted whole bs
judged-made count whole {bs} is = by (dec_lt most_book_bytes (length whole)) (read_book whole) refl
  where
    by : Dec (most_book_bytes < length whole) → (r : Reading Rules) → read_book whole ≡ r → Admitted whole bs
    by (yes over) r read = absurd (not-both (judged-over count whole over) is)
    by (no fits) (refusal c p) read = absurd (not-both (judged-refused count whole (omega (arith, fits)) read) is)
    by (no fits) (got rules p) read =
        let size : length whole ≤ most_book_bytes = omega (arith, fits) in
        record { same = cc (judged-book count whole size read); size = size; rules = rules; end = p; read = read }

-- the symbols of these rows, and the book that they and the trees are
record MadeOf (rows : Rows) (bs : List ℕ) : Type 0 where
  pub symbols : Symbols
  pub behind : ℕ
  pub read : symbol_part (front rows) ≡ got symbols behind
  pub book : Admitted (whole_of rows symbols) bs

made_of_lem : (rows : Rows) {bs : List ℕ} → made_of rows ≡ made bs → MadeOf rows bs
made_of_lem rows {bs} is = by (dec_lt most_book_bytes (length (front rows))) (symbol_part (front rows)) refl
  where
    by : Dec (most_book_bytes < length (front rows)) → (r : Reading Symbols) → symbol_part (front rows) ≡ r → MadeOf rows bs
    by (yes over) r read = absurd (not-both (made-over rows over) is)
    by (no fits) (refusal c p) read = absurd (not-both (made-refused rows (omega (arith, fits)) read) is)
    by (no fits) (got symbols p) read =
        record { symbols = symbols; behind = p; read = read; book = judged-made (row_count rows) _ (sym (made-judged rows (omega (arith, fits)) read) ∙ is) }

-- ---- exact

-- the book of these rows has these rows
rows_back : (rows : Rows) (symbols : Symbols) (p : ℕ) → symbol_part (front rows) ≡ got symbols p → (rules : Rules) (end : ℕ)
    → length (whole_of rows symbols) ≤ most_book_bytes → BookStands (whole_of rows symbols) rules end → rows_of rules ≡ rows
unfolding rows_of FewArguments front_bytes
rows_back rows symbols p read rules end size parts =
    let alone = front-alone rows.symbols (tree_part_bytes (arities_of symbols) rows.trees) size in
    let same : rules.symbols ≡ symbols = cc parts.symbols-read in
    let place : parts.behind ≡ p = cc parts.symbols-read in
    let back = symbols-back rows.symbols read in
    let few : FewArguments symbols = λ f h. ((part-got (front rows) read).in_range f).few_arguments in
    let trees = trees-back (front rows) rows.trees symbols rules.trees end few refl size (cc parts.trees-read) in
    ap₂ (λ (a b : List ℕ). record { symbols = a; trees = b }) (cc) (cc)

-- what is made is of edition 1
first-edition : (rows : Rows) (symbols : Symbols) → version_of (whole_of rows symbols) ≡ 1
unfolding front_bytes
first-edition rows symbols = refl

-- what is made is read back to the same rows
pub reads_back_lem : ReadsBack
reads_back_lem rows bs is =
    let by = made_of_lem rows is in
    let book = by.book in
    record {
      rules = book.rules;
      end = book.end;
      edition = rw book.same at (first-edition rows by.symbols);
      admitted = rw book.same at book.read;
      same = rows_back rows by.symbols by.behind by.read book.rules book.end book.size (good-got (book-stands _) book.read);
    }

-- the rows of a book are made into it
made_again : (bs : List ℕ) → version_of bs ≡ 1 → Bytes bs → (rules : Rules) (end : ℕ) → read_book bs ≡ got rules end → made_of (rows_of rules) ≡ made bs
unfolding rows_of
made_again bs edition bytes rules end read =
    let rows = rows_of rules in
    let whole = whole_of rows rules.symbols in
    let trees = tree_part_bytes (arities_of rules.symbols) rows.trees in
    let parts = good-got (book-stands bs) read in
    let size = (part-got bs parts.symbols-read).size in
    let first = symbols-laid bs edition bytes parts.symbols-read in
    let second = trees-laid bs edition bytes rules.symbols rules.trees parts.behind end size parts.trees-read in
    let same : bs ≡ whole = sym (take-append-drop parts.behind bs) ∙ cc first.0 in
    let fits : length whole ≤ most_book_bytes = rw same at size in
    let short : length (front rows) ≤ most_book_bytes = omega (arith, length-append (front rows) trees) in
    let symbols-read : symbol_part (front rows) ≡ got rules.symbols parts.behind =
    sym (front-alone rows.symbols trees fits) ∙ ap symbol_part (sym same) ∙ parts.symbols-read in
    made-judged rows short symbols-read ∙ judged-book (row_count rows) whole fits (rw same at read) ∙ ap made (sym same)

-- what was read is made again
pub writes_back_lem : WritesBack
writes_back_lem rows bs bytes book = rw (sym book.same) (made_again bs book.edition bytes book.rules book.end book.admitted)

-- so the rows accepted are those of some book
pub exactly : Exactly
exactly rows numbers = (
  λ (bs, is).
      let by = made_of_lem rows is in
      let bytes : Bytes bs = rw by.book.same at (book-bytes (arities_of by.symbols) rows.symbols rows.trees numbers.1 by.book.size) in
      (bs, bytes, reads_back_lem rows bs is),
  λ (bs, bytes, book). (bs, writes_back_lem rows bs bytes book),
)
