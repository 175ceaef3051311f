-- Bytes put one behind the other, and what the writer makes of them: one lemma for each way through the code.
use mathlib.Core.Bool.{false}
use mathlib.Core.List.{List, [], ◌∷◌, ◌++◌, map}
use mathlib.Core.Path.{◌≡◌, refl, sym, ap, ◌∙◌}
use Prim.Native.Nat.{ℕ, zero, suc, ◌+◌, ◌<◌, ◌≤◌}
use native.Mathlib.Nat.{add-zero, zero-add}
use native.Mathlib.Numerals.{add-one}
use native.Mathlib.Omega.{arith}
use borrow.Author.Tests.{lt-ltb, le-ltb}
use lib.Dec.{ltb}
use lib.ListN.{length, get_or, set, take, drop, replicate, length-append, length-map, length-drop, length-replicate, take-append-drop, get_or-map}
use lib.Seq.{sets, sets-eq, take_all, take_at, length-take-le}
use Rattle.limits.specs.Sizes.{most_book_bytes, most_symbols}
use Rattle.limits.proofs.Copies.{over_zeros}
use Rattle.reading.specs.Reading.{got, refusal}
use Rattle.reading.specs.Bytes.{two_bytes}
use Rattle.reading.specs.Answer.{keeping}
use Rattle.reading.proofs.Keeping.{kept-got, kept-refusal}
use Rattle.symbols.specs.Symbols.{Symbol, Symbols, no_symbol}
use Rattle.symbols.specs.SymbolPart.{symbol_part}
use Rattle.symbols.specs.Table.{symbol_in, symbols_in, in_array}
use Rattle.symbols.proofs.Tables.{symbol-there, as_many}
use Rattle.book.specs.Rules.{Rules}
use Rattle.book.specs.Admission.{read_book}
use Rattle.book.specs.RowsRead.{rows_read}
use Rattle.writer.specs.Rows.{Rows, Row, rows_from, rows_in, row_count}
use Rattle.writer.specs.Layout.{byte_of, arities_of, Next, code, Due, due, behind, number_bytes, numbers_bytes, tree_row_bytes, item_bytes, items_bytes, part_bytes, front_bytes, tree_part_bytes}
use Rattle.writer.specs.Write.{made, judged, made_of, laid, write}
use Rattle.std.specs.Prelude.{Result, Ok, Err, IfOk}
use Rattle.writer.specs.InCode.{writing_by, after}
use Rattle.writer.specs.declared.Refusal.{Refusal}
use Rattle.writer.specs.declared.Refusal.TheVariants.{NotABook, NoRoom}
use Rattle.writer.specs.declared.made.Made.{Made}
use Rattle.writer.proofs.Splitting.{row}

-- ---- a row put number by number

-- one number more
sets_more : {A : Type 0} (l vs : List A) (i j : ℕ) (d : A) → j < length vs → set (sets l i (take j vs)) (i + j) (get_or vs j d) ≡ sets l i (take (suc j) vs)
sets_more l [] i j d h = absurd (omega arith)
sets_more l (v ∷ vs) i zero d h = rw add-zero
sets_more l (v ∷ vs) i (suc j) d h =
    let on : i + suc j ≡ suc i + j = omega arith in
    rw on (sets_more (set l i v) vs (suc i) j d (omega arith))

-- how far the code is after j turns
module _ {A : Type 0} (l vs is : List A) (i j : ℕ) (so_far : is ≡ sets l i (take j vs)) where
  pub put-more : (v d : A) → j < length vs → v ≡ get_or vs j d → set is (i + j) v ≡ sets l i (take (j + 1) vs)
  put-more v d h e = rw (so_far, e, add-one) (sets_more l vs i j d h)

  -- all of them
  pub put_all : length vs ≤ j → is ≡ sets l i vs
  put_all h = so_far ∙ ap (sets l i) (take_all j vs h)

-- from the front on
pub put_front : (row l : List ℕ) → length row ≤ length l → sets l 0 row ≡ row ++ drop (length row) l
put_front row l h = sets-eq row l 0 (omega arith) ∙ rw zero-add

-- ---- the arities

-- the arity of each symbol stands at its number
pub arity_there : (bs at : List ℕ) (f : ℕ) → f < length at → get_or (arities_of (symbols_in bs at)) f 0 ≡ length (symbol_in bs (get_or at f 0)).arguments
unfolding arities_of no_symbol
arity_there bs at f h =
    get_or-map (λ (x : Symbol). length x.arguments) (symbols_in bs at) f no_symbol ∙ ap (λ (x : Symbol). length x.arguments) (symbol-there bs at f h)

-- there are as many as places
pub arities-many : (bs at : List ℕ) → length (arities_of (symbols_in bs at)) ≡ length at
unfolding arities_of
arities-many bs at = length-map (symbols_in bs at) (λ (x : Symbol). length x.arguments) ∙ as_many bs at

-- in their array
pub arities_in_array : (row is : List ℕ) → length row ≤ most_symbols → is ≡ sets (replicate most_symbols 0) 0 row → is ≡ in_array row
unfolding in_array
arities_in_array row is room e = e ∙ over_zeros row most_symbols room

-- ---- the front

-- version byte and length, and then the numbers
pub front-put : (book rows : List ℕ) {one two : List ℕ} → one ≡ set book 0 1 → two ≡ sets one 1 (two_bytes (length rows))
    → sets two 3 (map byte_of rows) ≡ sets book 0 (front_bytes rows)
unfolding front_bytes part_bytes two_bytes
front-put book rows first second = rw (second, first, length-map rows byte_of)

pub front_long : (rows : List ℕ) → length (front_bytes rows) ≡ 3 + length rows
unfolding front_bytes part_bytes two_bytes
front_long rows = simp length-map (omega arith)

-- read back from the bytes
pub front_read : (rows bytes : List ℕ) → 3 + length rows ≤ most_book_bytes → bytes ≡ sets (replicate most_book_bytes 0) 0 (front_bytes rows)
    → take (3 + length rows) bytes ≡ front_bytes rows
front_read rows bytes fits e =
    let long = front_long rows in
    ap (take (3 + length rows)) (e ∙ put_front (front_bytes rows) (replicate most_book_bytes 0) (simp length-replicate (omega arith)))
    ∙ take_at (front_bytes rows) _ (3 + length rows) long

-- ---- how long the tree part is: each number takes a byte at least

number-long : (next : Next) (n : ℕ) → 1 ≤ length (number_bytes next n)
unfolding number_bytes two_bytes
number-long Next.code n = omega arith
number-long Next.variable n = omega arith
number-long Next.symbol n = omega arith

module _ (arities : List ℕ) where
  numbers-long : (d : Due) (ns : List ℕ) → length ns ≤ length (numbers_bytes arities d ns)
  unfolding numbers_bytes
  numbers-long d [] = omega arith
  numbers-long d (n ∷ ns) = simp length-append (omega (arith, number-long d.next n, numbers-long (behind arities d n) ns))

  item-long : (row : Row) → suc (length row.numbers) ≤ length (item_bytes arities row)
  unfolding item_bytes tree_row_bytes two_bytes
  item-long row = simp length-append (omega (arith, numbers-long (due code 0) row.numbers))

  items-long : (bound : ℕ) (ns : List ℕ) → length ns ≤ bound → length ns ≤ length (items_bytes arities (rows_from bound ns))
  unfolding rows_from items_bytes
  items-long zero ns h = h
  items-long (suc bound) [] h = omega arith
  items-long (suc bound) (n ∷ ns) h =
      let parts = ap length (take-append-drop n ns) in
      let both = length-append (take n ns) (drop n ns) in
      let rest = length-drop n ns in
      simp length-append (omega (arith, item-long (row n (take n ns)), items-long bound (drop n ns) (omega arith)))

  pub tree-part-long : (ns : List ℕ) → length ns ≤ length (tree_part_bytes arities ns)
  unfolding tree_part_bytes rows_in part_bytes two_bytes
  tree-part-long ns = simp length-append (omega (arith, items-long (length ns) ns (omega arith)))

-- ---- the trees put behind the front

module _ (bytes : List ℕ) (front : ℕ) (trees : List ℕ) (fits : front ≤ length bytes) where
  pub whole_long : length (take front bytes ++ trees) ≡ front + length trees
  whole_long = length-append (take front bytes) trees ∙ ap (λ (n : ℕ). n + length trees) (length-take-le front bytes fits)

  pub whole-put : (book : List ℕ) (size : ℕ) → size ≡ front + length trees → size ≤ length bytes → book ≡ sets bytes front trees → take size book ≡ take front bytes ++ trees
  whole-put book size behind room e = ap (take size) (e ∙ sets-eq trees bytes front (omega arith)) ∙ take_at (take front bytes ++ trees) _ size (whole_long ∙ sym behind)

-- ---- judging

-- what the code has to give for these bytes
abbrev pub Judged : ℕ → List ℕ → Result Made Refusal → Type 0
Judged count bs r = (writing_by r ≡ judged count bs) × IfOk r (λ m. m.size ≤ length m.bytes)

module _ (count : ℕ) (bs : List ℕ) where
  pub too_large_lem : most_book_bytes < length bs → Judged count bs (Err (NotABook count))
  unfolding judged
  too_large_lem large = rw (judged, lt-ltb most_book_bytes (length bs) large) (refl, tt)

  module _ (fits : length bs ≤ most_book_bytes) where
    pub at_fault : {c p row : ℕ} → refusal c p ≡ keeping (λ (x : Rules). length x.symbols) (read_book bs) → row ≡ rows_read bs
        → Judged count bs (Err (NotABook row))
    unfolding judged
    at_fault told rows = rw (judged, le-ltb most_book_bytes (length bs) fits, kept-refusal _ (read_book bs) told, rows) (refl, tt)

    pub admitted : {n p : ℕ} → got n p ≡ keeping (λ (x : Rules). length x.symbols) (read_book bs) → made bs ≡ judged count bs
    unfolding judged
    admitted told = rw (judged, le-ltb most_book_bytes (length bs) fits, (kept-got _ (read_book bs) told).1)

-- ---- the whole book

-- the arities of the symbols that were read, in front of their array
pub arities-read : (bs places : List ℕ) {arities : List ℕ} {count : ℕ} {symbols : Symbols} → symbols_in bs (take count places) ≡ symbols → count ≡ length symbols
    → arities ≡ in_array (arities_of (symbols_in bs (take count places))) → take count arities ≡ arities_of symbols
unfolding in_array arities_of
arities-read bs places {count = count} {symbols = symbols} means many e =
    ap (take count) (e ∙ ap (λ (s : Symbols). in_array (arities_of s)) means)
    ∙ take_at (arities_of symbols) _ count (length-map symbols (λ (x : Symbol). length x.arguments) ∙ sym many)

-- what the code has to give for these rows
abbrev pub MadeOf : Rows → Result Made Refusal → Type 0
MadeOf rows r = (writing_by r ≡ made_of rows) × IfOk r (λ m. m.size ≤ length m.bytes)

module _ (rows : Rows) {n m : ℕ} (symbols-counted : n ≡ length (rows_in rows.symbols)) (trees-counted : m ≡ length (rows_in rows.trees)) where
  counted : n + m ≡ row_count rows
  unfolding row_count
  counted = rw (symbols-counted, trees-counted)

  pub front_large : most_book_bytes < 3 + length rows.symbols → MadeOf rows (Err (NotABook (n + m)))
  unfolding made_of
  front_large large = rw (made_of, lt-ltb most_book_bytes (length (front_bytes rows.symbols)) (omega (arith, front_long rows.symbols)), counted) (refl, tt)

  module _ (fits : 3 + length rows.symbols ≤ most_book_bytes) where
    small : ltb most_book_bytes (length (front_bytes rows.symbols)) ≡ false
    small = le-ltb most_book_bytes (length (front_bytes rows.symbols)) (omega (arith, front_long rows.symbols))

    pub front-refused : {c p row : ℕ} → refusal c p ≡ keeping length (symbol_part (front_bytes rows.symbols)) → row ≡ rows_read (front_bytes rows.symbols)
        → MadeOf rows (Err (NotABook row))
    unfolding made_of rows_read
    front-refused told read =
        let is = kept-refusal length (symbol_part (front_bytes rows.symbols)) told in
        rw (made_of, small, is, read, rows_read, is) (refl, tt)

    pub front-judged : (r : Result Made Refusal) {p : ℕ} {symbols : Symbols} → symbol_part (front_bytes rows.symbols) ≡ got symbols p
        → Judged (n + m) (front_bytes rows.symbols ++ tree_part_bytes (arities_of symbols) rows.trees) r → MadeOf rows r
    unfolding made_of
    front-judged r read is = (is.0 ∙ sym (rw (made_of, small, read, counted)), is.1)

-- ---- into the room

module _ (rows : Rows) (room : List ℕ) where
  pub refusal-laid : (r : Refusal) → writing_by (Err r) ≡ made_of rows → after (Err r) room ≡ write rows room
  unfolding write laid
  refusal-laid r told = rw (write, ← told)

  module _ (m : Made) (told : writing_by (Ok m) ≡ made_of rows) (long : m.size ≤ length m.bytes) where
    book-long : length (take m.size m.bytes) ≡ m.size
    book-long = length-take-le m.size m.bytes long

    pub no_room : length room < m.size → after (Err NoRoom) room ≡ write rows room
    unfolding write laid
    no_room less = rw (write, ← told, laid, book-long, lt-ltb (length room) m.size less)

    pub book-laid : (is : List ℕ) → m.size ≤ length room → is ≡ take m.size m.bytes ++ drop m.size room → after (Ok m.size) is ≡ write rows room
    unfolding write laid
    book-laid is fits e = rw (write, ← told, laid, book-long, le-ltb (length room) m.size fits, book-long, e)
