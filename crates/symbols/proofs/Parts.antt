-- What was read of a symbol part: the symbols are those that stand there, in order, with their sorts in range.
use mathlib.Core.Logic.{⊎_elim}
use mathlib.Core.List.{List, [], ◌∷◌}
use mathlib.Core.Path.{◌≡◌, refl, ap, subst}
use Prim.Native.Nat.{ℕ, zero, suc, ◌+◌, ◌-◌, ◌<◌, ◌≤◌}
use native.Mathlib.Nat.{eq-or-lt_of_le}
use native.Mathlib.Numerals.{add-one}
use native.Mathlib.Omega.{arith}
use borrow.Author.Tests.{ltb-false, leb-false, eqb-false, lt-ltb, le-ltb}
use lib.Dec.{leb, ltb, eqb}
use lib.ListN.{length, get_or, take, drop}
use lib.Seq.{drop-cons}
use Rattle.limits.specs.Sizes.{most_book_bytes, most_symbols, most_arguments, last_sort}
use Rattle.reading.specs.Reading.{Reading, got, ◌then◌}
use Rattle.reading.proofs.Good.{Good, good, refused, good-got, then-good, unless, byte_good, length-good}
use Rattle.symbols.specs.Symbols.{Symbol, Symbols, symbol_of, no_symbol}
use Rattle.symbols.specs.SymbolPart.{sorts_at, symbol_at, symbols_at, opened, symbol_part}
use Rattle.symbols.specs.Table.{symbol_in, symbols_in, places_from}

-- ---- what is said of what was read

-- no sort is out of range
abbrev pub SortsInRange : List ℕ → Type 0
SortsInRange sorts = (i : ℕ) → get_or sorts i 0 ≤ last_sort

-- nor is the sort of a symbol or of one of its arguments, of which there are not too many
pub record InRange (x : Symbol) : Type 0 where
  pub of_sort : x.sort ≤ last_sort
  pub of_arguments : SortsInRange x.arguments
  pub few_arguments : length x.arguments ≤ most_arguments

-- n sorts from p on, up to q
pub record SortsRead (bs : List ℕ) (n p : ℕ) (sorts : List ℕ) (q : ℕ) : Type 0 where
  pub same : sorts ≡ take n (drop p bs)
  pub many : length sorts ≡ n
  pub in_range : SortsInRange sorts
  pub behind : q ≡ p + n

-- a symbol from p up to q, before the end e, with `before` in front of it
pub record SymbolRead (bs : List ℕ) (e before p : ℕ) (x : Symbol) (q : ℕ) : Type 0 where
  pub same : x ≡ symbol_in bs p
  pub in_range : InRange x
  pub behind : q ≡ p + 3 + length x.arguments
  pub inside : q ≤ e
  pub room : before < most_symbols

-- symbols from p up to q, before the end e, with `before` in front of them; all that there are, if the bound is enough
pub record SymbolsRead (bs : List ℕ) (bound e before p : ℕ) (symbols : Symbols) (q : ℕ) : Type 0 where
  pub same : symbols_in bs (places_from p symbols) ≡ symbols
  pub in_range : (f : ℕ) → InRange (symbol_of symbols f)
  pub onward : p ≤ q
  pub inside : q ≤ e
  pub all : e - p ≤ bound → q ≡ e
  pub some : p < q → 0 < length symbols
  pub room : before ≤ most_symbols → before + length symbols ≤ most_symbols

-- the end e of the symbol part and the place q of its first symbol
pub record Opened (bs : List ℕ) (e q : ℕ) : Type 0 where
  pub first : q ≡ 3
  pub some : q < e
  pub inside : e ≤ length bs
  pub size : length bs ≤ most_book_bytes

-- the symbols of a book and the place q behind them
pub record PartRead (bs : List ℕ) (symbols : Symbols) (q : ℕ) : Type 0 where
  pub same : symbols_in bs (places_from 3 symbols) ≡ symbols
  pub in_range : (f : ℕ) → InRange (symbol_of symbols f)
  pub some : 0 < length symbols
  pub room : length symbols ≤ most_symbols
  pub inside : q ≤ length bs
  pub size : length bs ≤ most_book_bytes

-- ---- sorts and symbols

-- one sort more in range
more_in_range : (s : ℕ) (sorts : List ℕ) → s ≤ last_sort → SortsInRange sorts → SortsInRange (s ∷ sorts)
more_in_range s sorts first rest zero = first
more_in_range s sorts first rest (suc i) = rest i

module _ (bs : List ℕ) where
  -- the sorts read are the bytes that stand there
  pub sorts_good : (n p : ℕ) → p + n ≤ length bs → Good (SortsRead bs n p) (sorts_at bs n p)
  unfolding sorts_at
  sorts_good zero p fits = good {p = p} (record { same = refl; many = refl; in_range = λ i. omega arith; behind = omega arith })
  sorts_good (suc n) p fits =
      let there : p < length bs = omega arith in
      unless _ _ (ltb last_sort (get_or bs p 0)) λ _ passed.
      then-good (sorts_good n (p + 1) (omega arith)) λ sorts q rest.
      good (record {
        same = simp (rest.same, add-one, drop-cons bs p 0);
        many = ap suc rest.many;
        in_range = more_in_range _ sorts (ltb-false _ _ passed) rest.in_range;
        behind = omega arith;
      })

  -- the symbol read is the one that stands there
  pub symbol-good : (e before p : ℕ) → e ≤ length bs → Good (SymbolRead bs e before p) (symbol_at bs e before p)
  unfolding symbol_at symbol_in
  symbol-good e before p fits =
      let n = get_or bs p 0 in
      unless _ _ (ltb e (p + 1 + n)) λ _ ends.
      unless _ _ (leb most_symbols before) λ _ room.
      unless _ _ (ltb n 2) λ _ long.
      unless _ _ (ltb (2 + most_arguments) n) λ _ short.
      unless _ _ _ λ _ _.
      unless _ _ (ltb last_sort (get_or bs (p + 2) 0)) λ _ passed.
      let inside : p + 1 + n ≤ e = ltb-false _ _ ends in
      let two : 2 ≤ n = ltb-false _ _ long in
      let ten : n ≤ 2 + most_arguments = ltb-false _ _ short in
      then-good (sorts_good (n - 2) (p + 3) (omega arith)) λ sorts q read.
      good (record {
        same = cc read.same;
        in_range = record { of_sort = ltb-false _ _ passed; of_arguments = read.in_range; few_arguments = omega arith };
        behind = omega arith;
        inside = omega arith;
        room = leb-false _ _ room;
      })

  -- ---- rows of symbols

  -- at the end of the part there is no symbol
  pub symbols-none : (bound e before p : ℕ) → e ≤ p → symbols_at bs bound e before p ≡ got [] p
  unfolding symbols_at
  symbols-none zero e before p h = refl
  symbols-none (suc bound) e before p h = simp (symbols_at, le-ltb p e)

  -- before it there is one, and then the others
  pub symbols-next : (bound e before p : ℕ) → p < e
      → symbols_at bs (suc bound) e before p ≡ (symbol_at bs e before p then λ x q. symbols_at bs bound e (suc before) q then λ rest r. got (x ∷ rest) r)
  unfolding symbols_at
  symbols-next bound e before p h = simp (symbols_at, lt-ltb p e)

  -- no symbols
  none_read : (bound e before p : ℕ) → p ≤ e → (e - p ≤ bound → p ≡ e) → SymbolsRead bs bound e before p [] p
  unfolding symbols_in places_from no_symbol
  none_read bound e before p h ends = record {
    same = refl;
    in_range = λ f. record { of_sort = omega arith; of_arguments = λ i. omega arith; few_arguments = omega arith };
    onward = omega arith;
    inside = h;
    all = ends;
    some = λ l. omega arith;
    room = λ l. omega arith;
  }

  -- a symbol in front of the others
  one-read : (bound e before p : ℕ) {x : Symbol} {q : ℕ} {rest : Symbols} {r : ℕ}
      → SymbolRead bs e before p x q → SymbolsRead bs bound e (suc before) q rest r → SymbolsRead bs (suc bound) e before p (x ∷ rest) r
  unfolding symbols_in places_from
  one-read bound e before p {x} {q} {rest} {r} first more = record {
    same = cc (first.same, first.behind, more.same);
    in_range = in_range_lem;
    onward = omega arith;
    inside = omega arith;
    all = λ l. more.all (omega arith);
    some = λ l. omega arith;
    room = λ l. omega (arith, more.room first.room);
  } where
    in_range_lem : (f : ℕ) → InRange (symbol_of (x ∷ rest) f)
    in_range_lem zero = first.in_range
    in_range_lem (suc f) = more.in_range f

  -- the symbols read are those that stand there
  pub symbols-good : (bound e before p : ℕ) → e ≤ length bs → p ≤ e → Good (SymbolsRead bs bound e before p) (symbols_at bs bound e before p)
  unfolding symbols_at
  symbols-good zero e before p fits h = good (none_read zero e before p h (λ l. omega arith))
  symbols-good (suc bound) e before p fits h = ⊎_elim
      (λ (ended : p ≡ e). rw (symbols-none (suc bound) e before p (omega arith)) (good (none_read (suc bound) e before p h (λ l. ended))))
      (λ (there : p < e). rw (symbols-next bound e before p there) (
      then-good (symbol-good e before p fits) λ x q first.
      then-good (symbols-good bound e (suc before) q fits first.inside) λ rest r more.
      good (one-read bound e before p first more)))
      (eq-or-lt_of_le h)

  -- ---- the whole part

  -- a part that was opened lies in the book and is not empty
  pub opened-good : Good (Opened bs) (opened bs)
  unfolding opened
  opened-good =
      unless _ _ (ltb most_book_bytes (length bs)) λ _ size.
      then-good (byte_good bs 0 (length bs) 0) λ version p byte.
      unless _ _ _ λ _ _. unless _ _ _ λ _ _.
      then-good (length-good bs 0 (length bs) p) λ e q part.
      unless _ _ (eqb q e) λ _ some.
      good (record { first = omega arith; some = omega (arith, eqb-false q e some); inside = omega arith; size = ltb-false _ _ size })

  -- the symbols of a book are those that stand in its part
  pub part-good : Good (PartRead bs) (symbol_part bs)
  unfolding symbol_part
  part-good = then-good opened-good λ e q start. whole_part e q start (symbols-good (e - q) e 0 q start.inside (omega arith)) where
    whole_part : (e q : ℕ) → Opened bs e q → {r : Reading Symbols} → Good (SymbolsRead bs (e - q) e 0 q) r → Good (PartRead bs) r
    whole_part e q start refused = refused
    whole_part e q start (good {a = symbols} {p = k} read) = good {p = k} (record {
      same = subst (λ (p : ℕ). symbols_in bs (places_from p symbols) ≡ symbols) start.first read.same;
      in_range = read.in_range;
      some = read.some (omega (arith, read.all (omega arith)));
      room = omega (arith, read.room (omega arith));
      inside = omega arith;
      size = start.size;
    })

  -- ---- the same, each of something that was got

  pub sorts_got : (n p : ℕ) {sorts : List ℕ} {q : ℕ} → p + n ≤ length bs → sorts_at bs n p ≡ got sorts q → SortsRead bs n p sorts q
  sorts_got n p fits = good-got (sorts_good n p fits)

  pub symbol-got : (e before p : ℕ) {x : Symbol} {q : ℕ} → e ≤ length bs → symbol_at bs e before p ≡ got x q → SymbolRead bs e before p x q
  symbol-got e before p fits = good-got (symbol-good e before p fits)

  pub symbols-got : (bound e before p : ℕ) {symbols : Symbols} {q : ℕ} → e ≤ length bs → p ≤ e → symbols_at bs bound e before p ≡ got symbols q
      → SymbolsRead bs bound e before p symbols q
  symbols-got bound e before p fits h = good-got (symbols-good bound e before p fits h)

  pub opened-got : {e q : ℕ} → opened bs ≡ got e q → Opened bs e q
  opened-got = good-got opened-good

  pub part-got : {symbols : Symbols} {q : ℕ} → symbol_part bs ≡ got symbols q → PartRead bs symbols q
  part-got = good-got part-good
