-- The rows of symbols are the numbers of the symbol part: a front made of rows is read back to them, with or without what follows it, and a book that is
-- read opens with the front that its rows make.
use mathlib.Core.Bool.{Bool, true, false}
use mathlib.Core.Logic.{⊎_elim}
use mathlib.Core.List.{List, [], ◌∷◌, ◌++◌, map, append_assoc, append-nil}
use mathlib.Core.Path.{◌≡◌, refl, sym, ap, ◌∙◌}
use Prim.Native.Nat.{ℕ, zero, suc, ◌+◌, ◌-◌, ◌*◌, ◌/◌, ◌%◌, ◌<◌, ◌≤◌}
use native.Mathlib.Nat.{eq-or-lt_of_le}
use native.Mathlib.Numerals.{add-one}
use native.Mathlib.Omega.{arith}
use borrow.Author.Tests.{ltb-false, le-ltb, lt-leb}
use lib.Dec.{ltb, eqb}
use lib.ListN.{length, get_or, take, drop, length-append, length-map, length-drop, take-append-drop, drop_of_length-le, get_or-append, get_or-map}
use lib.Seq.{drop-cons, drop-drop, take_at}
use Rattle.limits.specs.Sizes.{most_book_bytes}
use Rattle.reading.specs.Reading.{Reading, got, refusal, ◌then◌, refuse◌at◌if◌else◌}
use Rattle.reading.specs.Bytes.{version_of, big_endian, two_bytes, byte_at, number_at, length_at}
use Rattle.reading.proofs.Good.{Good, good, good-got, then-good, unless, both, each, byte_good, number-good}
use Rattle.reading.proofs.Keeping.{then-got, passed}
use Rattle.symbols.specs.Symbols.{Symbols, symbol_of}
use Rattle.symbols.specs.SymbolPart.{sorts_at, symbol_at, symbols_at, opened, symbol_part}
use Rattle.symbols.proofs.Parts.{InRange, sorts_good, symbol-good, symbols-good, symbols-none, symbols-next, opened-good, opened-got, part-got}
use Rattle.writer.specs.Rows.{kind_of, symbol_row, symbol_rows}
use Rattle.writer.specs.Layout.{byte_of, part_bytes, front_bytes}
use Rattle.writer.specs.Exact.{Below, Bytes}
use Rattle.writer.proofs.Bounds.{below_none, below_cons, below_append}

-- ---- the symbol part is read from the front alone

-- the same test is passed, and reading goes on alike
same_unless : {A : Type 0} (c p : ℕ) (t : Bool) {more others : Unit {0} → Reading A} → ((u : Unit {0}) → t ≡ false → more u ≡ others u)
    → refuse◌at◌if◌else◌ c p t more ≡ refuse◌at◌if◌else◌ c p t others
unfolding refuse◌at◌if◌else◌
same_unless c p true f = refl
same_unless c p false f = f tt refl

-- the same was read, and reading goes on alike
same_then : {A B : Type 0} {more others : A → ℕ → Reading B} (r : Reading A) → ((a : A) (q : ℕ) → r ≡ got a q → more a q ≡ others a q)
    → ◌then◌ r more ≡ ◌then◌ r others
unfolding ◌then◌
same_then (got a q) f = f a q refl
same_then (refusal c q) f = refl

module _ (bs rest : List ℕ) where
  -- what follows is not looked at by sorts
  sorts_same : (n p : ℕ) → p + n ≤ length bs → sorts_at (bs ++ rest) n p ≡ sorts_at bs n p
  unfolding sorts_at
  sorts_same zero p fits = refl
  sorts_same (suc n) p fits = rw (get_or-append bs rest 0 p (omega arith), sorts_same n (p + 1) (omega arith))

  -- nor by a symbol
  symbol-same : (e before p : ℕ) → e ≤ length bs → p < e → symbol_at (bs ++ rest) e before p ≡ symbol_at bs e before p
  unfolding symbol_at
  symbol-same e before p fits there =
      let n = get_or bs p 0 in
      rw (get_or-append bs rest 0 p (omega arith)) (
      same_unless _ _ (ltb e (p + 1 + n)) λ _ ends.
      same_unless _ _ _ λ _ _.
      same_unless _ _ (ltb n 2) λ _ long.
      let inside : p + 1 + n ≤ e = ltb-false _ _ ends in
      let two : 2 ≤ n = ltb-false _ _ long in
      rw (get_or-append bs rest 0 (p + 1) (omega arith), get_or-append bs rest 0 (p + 2) (omega arith), sorts_same (n - 2) (p + 3) (omega arith)))

  -- nor by symbols
  symbols-same : (bound e before p : ℕ) → e ≤ length bs → p ≤ e → symbols_at (bs ++ rest) bound e before p ≡ symbols_at bs bound e before p
  unfolding symbols_at
  symbols-same zero e before p fits h = refl
  symbols-same (suc bound) e before p fits h = ⊎_elim
      (λ (ended : p ≡ e). symbols-none (bs ++ rest) (suc bound) e before p (omega arith) ∙ sym (symbols-none bs (suc bound) e before p (omega arith)))
      (λ (there : p < e). rw (symbols-next (bs ++ rest) bound e before p there, symbols-next bs bound e before p there, symbol-same e before p fits there) (
      same_then (symbol_at bs e before p) λ x q read. rw (symbols-same bound e (suc before) q fits (good-got (symbol-good bs e before p fits) read).inside)))
      (eq-or-lt_of_le h)

-- the part that a front opens
unfoldable opened_by : ℕ → Reading ℕ
opened_by n = refuse 3 at 1 if eqb 3 (3 + n) else λ _. got (3 + n) 3

-- a front opens its part, whatever follows it
opened-front : (ns rest : List ℕ) → length (front_bytes ns ++ rest) ≤ most_book_bytes → opened (front_bytes ns ++ rest) ≡ opened_by (length ns)
unfolding opened opened_by byte_at length_at number_at front_bytes part_bytes two_bytes
opened-front ns rest fits =
    let size = length (front_bytes ns ++ rest) in
    let n = length (map byte_of ns) in
    let long : length (map byte_of ns ++ rest) ≡ n + length rest = length-append (map byte_of ns) rest in
    let many : n ≡ length ns = length-map ns byte_of in
    let part : 3 + (n / 256 * 256 + n % 256) ≡ 3 + length ns = omega arith in
    passed _ _ (le-ltb most_book_bytes size fits)
    ∙ then-got _ (passed _ _ (lt-leb size 0 (omega arith)))
    ∙ passed _ _ refl
    ∙ passed _ _ refl
    ∙ then-got _ (then-got _ (passed _ _ (le-ltb size 3 (omega arith))) ∙ passed _ _ (le-ltb size (3 + (n / 256 * 256 + n % 256)) (omega arith)))
    ∙ ap (λ (e : ℕ). refuse 3 at 1 if eqb 3 e else λ _. got e 3) part

-- the symbols of a book are those of its front
pub front-alone : (ns rest : List ℕ) → length (front_bytes ns ++ rest) ≤ most_book_bytes → symbol_part (front_bytes ns ++ rest) ≡ symbol_part (front_bytes ns)
unfolding symbol_part
front-alone ns rest size =
    let front = front_bytes ns in
    let short : length front ≤ most_book_bytes = omega (arith, length-append front rest) in
    let alone : opened front ≡ opened_by (length ns) = rw append-nil at (opened-front ns [] (rw append-nil short)) in
    rw (opened-front ns rest size ∙ sym alone) (
    same_then (opened front) λ e p start.
    let is = opened-got front start in
    symbols-same front rest (e - p) e 0 p is.inside (omega arith))

-- ---- the numbers of the part are the rows of its symbols

-- a kind is kept as what it says
kind_back : (kind : ℕ) → kind ≤ 1 → kind_of (eqb kind 1) ≡ kind
unfolding kind_of
kind_back zero h = refl
kind_back (suc zero) h = refl
kind_back (suc (suc kind)) h = absurd (omega arith)

module _ (bs : List ℕ) where
  -- three numbers in front
  three_stand : (p : ℕ) → p + 3 ≤ length bs → drop p bs ≡ get_or bs p 0 ∷ get_or bs (p + 1) 0 ∷ get_or bs (p + 2) 0 ∷ drop (p + 3) bs
  three_stand p there =
      let next : (k : ℕ) → k < length bs → drop k bs ≡ get_or bs k 0 ∷ drop (k + 1) bs = λ k h. rw add-one (drop-cons bs k 0 h) in
      let assoc : p + 1 + 1 ≡ p + 2 = omega arith in
      let assoc' : p + 2 + 1 ≡ p + 3 = omega arith in
      cc (next p (omega arith), next (p + 1) (omega arith), next (p + 2) (omega arith))

  -- a symbol's row stands where it was read
  row-stands : (e before p : ℕ) → e ≤ length bs → Good (λ x q. drop p bs ≡ symbol_row x ++ drop q bs) (symbol_at bs e before p)
  unfolding symbol_at symbol_row
  row-stands e before p fits =
      let n = get_or bs p 0 in
      let kind = get_or bs (p + 1) 0 in
      unless _ _ (ltb e (p + 1 + n)) λ _ ends.
      unless _ _ _ λ _ _.
      unless _ _ (ltb n 2) λ _ long.
      unless _ _ _ λ _ _.
      unless _ _ (ltb 1 kind) λ _ known.
      unless _ _ _ λ _ _.
      let inside : p + 1 + n ≤ e = ltb-false _ _ ends in
      let two : 2 ≤ n = ltb-false _ _ long in
      then-good (sorts_good bs (n - 2) (p + 3) (omega arith)) λ sorts q read.
      let shorter : sorts ++ drop q bs ≡ drop (p + 3) bs = cc (read.same, read.behind, drop-drop (n - 2) (p + 3) bs, take-append-drop (n - 2) (drop (p + 3) bs)) in
      let as_long : 2 + length sorts ≡ n = omega arith in
      good (three_stand p (omega arith) ∙ cc (kind_back kind (ltb-false _ _ known)))

  -- so do the rows of symbols
  rows-stand : (bound e before p : ℕ) → e ≤ length bs → p ≤ e → Good (λ symbols q. drop p bs ≡ symbol_rows symbols ++ drop q bs) (symbols_at bs bound e before p)
  unfolding symbols_at symbol_rows
  rows-stand zero e before p fits h = good {p = p} refl
  rows-stand (suc bound) e before p fits h = ⊎_elim
      (λ (ended : p ≡ e). rw (symbols-none bs (suc bound) e before p (omega arith)) (good {p = p} refl))
      (λ (there : p < e). rw (symbols-next bs bound e before p there) (
      then-good (both (symbol-good bs e before p fits) (row-stands e before p fits)) λ x q (read, first).
      then-good (rows-stand bound e (suc before) q fits read.inside) λ others r more.
      good (first ∙ ap (λ (s : List ℕ). symbol_row x ++ s) more ∙ sym (append_assoc (symbol_row x) (symbol_rows others) (drop r bs)))))
      (eq-or-lt_of_le h)

  -- what a length says
  length-says : (e p : ℕ) → Good (λ end q. end ≡ p + 2 + big_endian bs p) (length_at bs 0 e p)
  unfolding length_at
  length-says e p = then-good (number-good bs 0 e p) λ n q number. unless _ _ _ λ _ _. good (omega arith)

  -- what an opening says: the end of the part
  opening_says : Good (λ e q. e ≡ 3 + big_endian bs 1) (opened bs)
  unfolding opened
  opening_says =
      unless _ _ _ λ _ _.
      then-good (byte_good bs 0 (length bs) 0) λ version p byte.
      unless _ _ _ λ _ _. unless _ _ _ λ _ _.
      then-good (length-says (length bs) p) λ e q ends.
      unless _ _ _ λ _ _.
      good (ends ∙ ap (λ (k : ℕ). k + 2 + big_endian bs k) byte.1)

-- where the symbol part of a book stands, with the place p behind it
record PartStands (bs : List ℕ) (symbols : Symbols) (p : ℕ) : Type 0 where
  pub behind : p ≡ 3 + big_endian bs 1
  pub rows : drop 3 bs ≡ symbol_rows symbols ++ drop p bs

part-stands : (bs : List ℕ) → Good (PartStands bs) (symbol_part bs)
unfolding symbol_part
part-stands bs =
    then-good (both (opened-good bs) (opening_says bs)) λ e q (start, says).
    each (λ symbols r (read, stand). record {
      behind = read.all (omega arith) ∙ says;
      rows = rw start.first at stand;
    }) (both (symbols-good bs (e - q) e 0 q start.inside (omega arith)) (rows-stand bs (e - q) e 0 q start.inside (omega arith)))

-- ---- no number of a row is lost in a byte

-- numbers below 255, which stands for each number that no byte holds
abbrev Small : List ℕ → Type 0
Small ns = Below 255 ns

-- they are their own bytes
small_bytes : (ns : List ℕ) → Small ns → map byte_of ns ≡ ns
unfolding byte_of
small_bytes [] small = refl
small_bytes (n ∷ ns) small =
    let first : byte_of n ≡ n = omega (arith, small 0) in
    cc (small_bytes ns (λ i. small (suc i)))

-- a kind is 0 or 1
kind_small : (operation : Bool) → kind_of operation < 255
unfolding kind_of
kind_small true = omega arith
kind_small false = omega arith

-- the rows of symbols in range have only such numbers
rows-small : (symbols : Symbols) → ((f : ℕ) → InRange (symbol_of symbols f)) → Small (symbol_rows symbols)
unfolding symbol_row symbol_rows
rows-small [] known = below_none (omega arith)
rows-small (x ∷ others) known =
    let is = known 0 in
    let sorts = x.sort ∷ x.arguments in
    let sorts-small : Small sorts = below_cons x.sort x.arguments (omega arith) (λ i. omega (arith, is.of_arguments i)) in
    let kind = kind_of x.is_operation in
    below_append (symbol_row x) (symbol_rows others)
    (below_cons (2 + length x.arguments) (kind ∷ sorts) (omega arith) (below_cons kind sorts (kind_small x.is_operation) sorts-small))
    (rows-small others (λ f. known (suc f)))

-- ---- both ways

-- a front is read back to the rows that it was made of
pub symbols-back : (ns : List ℕ) {symbols : Symbols} {p : ℕ} → symbol_part (front_bytes ns) ≡ got symbols p
    → (ns ≡ symbol_rows symbols) × (p ≡ length (front_bytes ns))
unfolding front_bytes part_bytes two_bytes byte_of
symbols-back ns {symbols} {p} read =
    let bytes = map byte_of ns in
    let part = good-got (part-stands (front_bytes ns)) read in
    let ends : p ≡ 3 + length bytes = part.behind ∙ omega arith in
    let none : drop p (front_bytes ns) ≡ [] = drop_of_length-le (front_bytes ns) {i = p} (omega arith) in
    let rows : bytes ≡ symbol_rows symbols = part.rows ∙ rw (none, append-nil) in
    let small : Small bytes = rw rows (rows-small symbols (part-got (front_bytes ns) read).in_range) in
    (sym (small_bytes ns (λ i. omega (arith, small i, get_or-map byte_of ns i 0))) ∙ rows, ends ∙ omega arith)

-- a book that is read opens with the front that its rows make
pub symbols-laid : (bs : List ℕ) → version_of bs ≡ 1 → Bytes bs → {symbols : Symbols} {p : ℕ} → symbol_part bs ≡ got symbols p
    → (take p bs ≡ front_bytes (symbol_rows symbols)) × (p ≤ length bs)
unfolding front_bytes part_bytes two_bytes
symbols-laid bs edition bytes {symbols} {p} read =
    let ns = symbol_rows symbols in
    let part = good-got (part-stands bs) read in
    let known = part-got bs read in
    let same : map byte_of ns ≡ ns = small_bytes ns (rows-small symbols known.in_range) in
    let long : length bs - 3 ≡ length ns + (length bs - p) = simp (length-append, length-drop) at (ap length part.rows) in
    let n : length (map byte_of ns) ≡ big_endian bs 1 = rw same (omega arith) in
    let hi : length (map byte_of ns) / 256 ≡ get_or bs 1 0 = omega (arith, bytes 2) in
    let lo : length (map byte_of ns) % 256 ≡ get_or bs 2 0 = omega (arith, bytes 2) in
    let laid : bs ≡ front_bytes ns ++ drop p bs = three_stand bs 0 (omega arith) ∙ cc (part.rows, edition) in
    (ap (take p) laid ∙ take_at (front_bytes ns) (drop p bs) p (omega arith), known.inside)
