-- Reading a whole book, one lemma for each way through the code.
use mathlib.Core.List.{List, [], ◌∷◌}
use mathlib.Core.Path.{◌≡◌, refl, sym, ap, ap₂, ◌∙◌}
use Prim.Native.Nat.{ℕ, zero, suc, ◌+◌, ◌-◌, ◌≤◌, ◌<◌}
use native.Mathlib.Decide.{dec_lt}
use native.Mathlib.Omega.{arith}
use lib.ListN.{length, length-take, take, replicate, length-append, length-replicate}
use lib.Seq.{take_at}
use Rattle.limits.specs.Sizes.{most_book_bytes, most_symbols}
use Rattle.reading.specs.Reading.{Reading, got, refusal}
use Rattle.reading.specs.Answer.{keeping, nothing}
use Rattle.reading.proofs.Good.{Good, good, good-got, then-good, whenever, each}
use Rattle.reading.proofs.Keeping.{kept-got, kept-refusal, then-got, then-refusal}
use Rattle.symbols.specs.Symbols.{Symbols}
use Rattle.symbols.specs.SymbolPart.{symbols_at, symbol_part}
use Rattle.symbols.specs.Table.{symbols_in, places_from, ranks_from, in_array, places_after, ranks_after, nexts_after, firsts_after}
use Rattle.symbols.proofs.Parts.{symbol-good, symbols-none, symbols-next, opened-good, part-got}
use Rattle.book.specs.Trees.{Trees}
use Rattle.book.specs.Rules.{Rules}
use Rattle.book.specs.TreeAt.{tree_part}
use Rattle.book.specs.Admission.{read_book}
use Rattle.book.specs.Index.{roots_from, ends_from, symbols_bytes, trees_place, at_after, info_after, ends_after}
use Rattle.book.specs.Reader.{Indexed}
use Rattle.book.specs.Reader.{Chained, FewArguments, Tabled}
use Rattle.book.proofs.PartWays.{indexed_read}

-- symbols that were read take the bytes that they take
symbols-long : (bs : List ℕ) (bound e before p : ℕ) → e ≤ length bs → Good (λ symbols q. q ≡ p + symbols_bytes symbols) (symbols_at bs bound e before p)
unfolding symbols_at symbols_bytes
symbols-long bs zero e before p fits = good {a = []} {p = p} (omega arith)
symbols-long bs (suc bound) e before p fits = by (dec_lt p e) (λ q. symbols-long bs bound e (suc before) q fits)
  where
    by : Dec (p < e) → ((q : ℕ) → Good (λ symbols r. r ≡ q + symbols_bytes symbols) (symbols_at bs bound e (suc before) q))
        → Good (λ symbols q. q ≡ p + symbols_bytes symbols) (symbols_at bs (suc bound) e before p)
    by (no past) next = rw (symbols-none bs (suc bound) e before p (omega (arith, past))) (good {a = []} {p = p} (omega arith))
    by (yes in_part) next =
        rw (symbols-next bs bound e before p in_part)
        (then-good (symbol-good bs e before p fits) λ x q is. then-good (next q) λ rest r long. good {a = x ∷ rest} {p = r} (omega (arith, is.behind, long)))

-- the tree part's length stands behind them
pub trees-place : (bs : List ℕ) {symbols : Symbols} {q : ℕ} → symbol_part bs ≡ got symbols q → q + 2 ≡ trees_place symbols
unfolding symbol_part trees_place
trees-place bs e =
    let long = good-got {P = λ symbols q. q ≡ 3 + symbols_bytes symbols}
    (then-good (opened-good bs) λ end p is. each (λ symbols q l. omega (arith, is.first, l)) (symbols-long bs _ end 0 p is.inside)) e in
    omega (arith, long)

-- ---- the symbol part, as it was answered

-- there are as many places as symbols
length-places : (p : ℕ) (symbols : Symbols) → length (places_from p symbols) ≡ length symbols
unfolding places_from
length-places p [] = refl
length-places p (x ∷ rest) = ap suc (length-places (p + 3 + length x.arguments) rest)

-- what the code has once the symbol part was read: the first `count` of the places mean the symbols
pub record SymbolsKept (bs : List ℕ) (count p : ℕ) (places ranks nexts firsts : List ℕ) : Type 0 where
  pub symbols : Symbols
  pub part : symbol_part bs ≡ got symbols p
  pub many : count ≡ length symbols
  pub few : count ≤ most_symbols
  pub long : length places ≡ most_symbols
  pub table : places ≡ in_array (places_from 3 symbols)
  pub ranked : ranks ≡ in_array (ranks_from symbols 0 symbols)
  pub means : symbols_in bs (take count places) ≡ symbols
  pub chained : Chained symbols nexts firsts
  pub few_arguments : FewArguments symbols
  pub size : length bs ≤ most_book_bytes

pub symbols-kept : (bs : List ℕ) {count p : ℕ} (places ranks nexts firsts : List ℕ) → got count p ≡ keeping length (symbol_part bs) → places ≡ places_after (symbol_part bs)
    → ranks ≡ ranks_after (symbol_part bs) → nexts ≡ nexts_after (symbol_part bs) → firsts ≡ firsts_after (symbol_part bs) → SymbolsKept bs count p places ranks nexts firsts
unfolding places_after ranks_after nexts_after firsts_after in_array FewArguments
symbols-kept bs {count} {p} places ranks nexts firsts told at-is ranks-are nexts-are firsts-are =
    let s = kept-got length (symbol_part bs) told in
    by s.0 s.1 s.2
  where
    by : (symbols : Symbols) → symbol_part bs ≡ got symbols p → count ≡ length symbols → SymbolsKept bs count p places ranks nexts firsts
    by symbols part many =
        let read = part-got bs part in
        let table : places ≡ in_array (places_from 3 symbols) = at-is ∙ rw (part, places_after) in
        let long-row = length-places 3 symbols in
        let firsts-of : take count places ≡ places_from 3 symbols =
        ap (take count) table ∙ take_at (places_from 3 symbols) (replicate (most_symbols - length (places_from 3 symbols)) 0) count (long-row ∙ sym many) in
        record {
          symbols = symbols;
          part = part;
          many = many;
          few = omega (arith, many, read.room);
          long = ap length table ∙ length-append (places_from 3 symbols) (replicate (most_symbols - length (places_from 3 symbols)) 0) ∙ simp length-replicate (omega (arith, long-row, read.room));
          table = table;
          ranked = ranks-are ∙ rw (part, ranks_after);
          means = ap (symbols_in bs) firsts-of ∙ read.same;
          chained = record { nexts = nexts-are ∙ rw (part, nexts_after); firsts = firsts-are ∙ rw (part, firsts_after) };
          few_arguments = λ f h. (read.in_range f).few_arguments;
          size = read.size;
        }

-- they make a table
pub tabled : {bs : List ℕ} {count p : ℕ} {places ranks nexts firsts : List ℕ} → SymbolsKept bs count p places ranks nexts firsts
    → Tabled bs (take count places) nexts firsts
tabled known = record {
  few = simp length-take (omega (arith, known.few, known.long));
  chained = rw known.means known.chained;
}

-- ---- the ways

-- what a book's reading is answered by, and its three arrays
pub record Answered (bs : List ℕ) (r : Reading ℕ) (places info ends : List ℕ) : Type 0 where
  pub answer : r ≡ keeping (λ (x : Rules). length x.symbols) (read_book bs)
  pub table : places ≡ at_after (read_book bs)
  pub found : info ≡ info_after (read_book bs)
  pub marks : ends ≡ ends_after (read_book bs)

-- a book that is refused: its arrays are zeros
refused-book : (bs : List ℕ) {c q : ℕ} → read_book bs ≡ refusal c q
    → Answered bs (refusal c q) (replicate most_symbols 0) (replicate most_symbols 0) (replicate most_book_bytes 0)
unfolding keeping at_after info_after ends_after in_array
refused-book bs e = record { answer = rw (e, keeping); table = rw (e, at_after); found = rw (e, info_after); marks = rw (e, ends_after) }

module _ (bs : List ℕ) where
  pub symbols-refused : {c q : ℕ} → refusal c q ≡ keeping length (symbol_part bs)
      → Answered bs (refusal c q) (replicate most_symbols 0) (replicate most_symbols 0) (replicate most_book_bytes 0)
  unfolding read_book
  symbols-refused told = refused-book bs (then-refusal _ (kept-refusal length (symbol_part bs) told))

  module _ {symbols : Symbols} {p : ℕ} (part : symbol_part bs ≡ got symbols p) where
    pub trees-refused : {c q : ℕ} → refusal c q ≡ keeping nothing (tree_part bs symbols p)
        → Answered bs (refusal c q) (replicate most_symbols 0) (replicate most_symbols 0) (replicate most_book_bytes 0)
    unfolding read_book
    trees-refused told = refused-book bs (then-got _ part ∙ then-refusal _ (kept-refusal nothing (tree_part bs symbols p) told))

    pub book-read : {v q : ℕ} (ranks info ends : List ℕ) → ranks ≡ in_array (ranks_from symbols 0 symbols) → got v q ≡ keeping nothing (tree_part bs symbols p)
        → Indexed (p + 2) 0 symbols (tree_part bs symbols p) ranks info (replicate most_book_bytes 0) ends
        → Answered bs (got (length symbols) q) (in_array (places_from 3 symbols)) info ends
    unfolding read_book keeping at_after info_after ends_after
    book-read {q} ranks info ends ranked told index =
        let t = kept-got nothing (tree_part bs symbols p) told in
        by t.0 t.1
      where
        by : (ts : Trees) → tree_part bs symbols p ≡ got ts q → Answered bs (got (length symbols) q) (in_array (places_from 3 symbols)) info ends
        by ts is =
            let whole : read_book bs ≡ got (record { symbols = symbols; trees = ts }) q = then-got _ part ∙ then-got _ is in
            let parts = indexed_read (p + 2) 0 symbols ranks info (replicate most_book_bytes 0) ends is index in
            let there = trees-place bs part in
            record {
              answer = rw (whole, keeping);
              table = rw (whole, at_after);
              found = rw (whole, info_after) (parts.0 ∙ ap₂ (λ (k : ℕ) (r : List ℕ). roots_from k 0 symbols ts r) there ranked);
              marks = rw (whole, ends_after) (parts.1 ∙ ap (λ (k : ℕ). ends_from k symbols ts (replicate most_book_bytes 0)) there);
            }

-- ---- for those who read a book

-- what a caller holds once a book was admitted: the first `count` of the places mean its symbols
pub record BookKept (bs : List ℕ) (count p : ℕ) (places : List ℕ) : Type 0 where
  pub rules : Rules
  pub admitted : read_book bs ≡ got rules p
  pub many : count ≡ length rules.symbols
  pub few : count ≤ most_symbols
  pub long : length places ≡ most_symbols
  pub means : symbols_in bs (take count places) ≡ rules.symbols

-- the symbols of an admitted book are those of its symbol part
abbrev SymbolsOf : List ℕ → Rules → Type 0
SymbolsOf bs rules = (p : ℕ) × (symbol_part bs ≡ got rules.symbols p)

symbols_of : (bs : List ℕ) → Good (λ rules q. SymbolsOf bs rules) (read_book bs)
unfolding read_book
symbols_of bs =
    then-good (whenever {P = λ S p. symbol_part bs ≡ got S p} (symbol_part bs) (λ S p is. is)) λ S p part.
    then-good (whenever {P = λ ts q. Unit {0}} (tree_part bs S p) (λ ts q is. tt)) λ ts q _. good (p, part)

pub book-kept : (bs : List ℕ) {count p : ℕ} (places : List ℕ) → got count p ≡ keeping (λ (x : Rules). length x.symbols) (read_book bs) → places ≡ at_after (read_book bs)
    → BookKept bs count p places
unfolding at_after keeping places_after
book-kept bs {count} {p} places told at-is =
    let b = kept-got (λ (x : Rules). length x.symbols) (read_book bs) told in
    by b.0 b.1 b.2 (good-got (symbols_of bs) b.1)
  where
    by : (rules : Rules) → read_book bs ≡ got rules p → count ≡ length rules.symbols → SymbolsOf bs rules → BookKept bs count p places
    by rules whole many (q, part) =
        let known = symbols-kept bs {count = count} {p = q} places _ _ _ (rw (part, keeping) (ap (λ (n : ℕ). got n q) many)) (rw (part, places_after) (at-is ∙ rw (whole, at_after))) refl refl refl in
        let same : known.symbols ≡ rules.symbols = cc in
        record {
          rules = rules;
          admitted = whole;
          many = many;
          few = known.few;
          long = known.long;
          means = known.means ∙ same;
        }
