-- Reading the symbol part, one lemma for each way through the code.
use mathlib.Core.List.{List, ◌∷◌}
use mathlib.Core.Path.{◌≡◌, refl, sym, ap, subst, ◌∙◌}
use Prim.Native.Nat.{ℕ, zero, suc, ◌+◌, ◌-◌, ◌<◌, ◌≤◌}
use native.Mathlib.Nat.{add-zero, add-suc, suc-add, zero-add}
use native.Mathlib.Numerals.{add-one, sub-one}
use native.Mathlib.Omega.{arith}
use borrow.Author.Tests.{lt-ltb, le-ltb, lt-leb, le-leb, eq-eqb, ne_eqb}
use lib.ListN.{length, set, get_or, take, replicate, length-replicate}
use lib.Seq.{sets, length-sets, take_at}
use Rattle.limits.specs.Sizes.{most_book_bytes, most_symbols, most_arguments, last_sort}
use Rattle.limits.proofs.Copies.{over_zeros}
use Rattle.reading.specs.Reading.{Reading, got, refusal, ◌then◌, refuse◌at◌if◌else◌}
use Rattle.reading.specs.Bytes.{byte_at, length_at}
use Rattle.reading.specs.Answer.{keeping, nothing}
use Rattle.reading.proofs.Keeping.{kept-got, kept-refusal, then-got, then-refusal}
use Rattle.symbols.specs.Symbols.{Symbol, Symbols}
use Rattle.symbols.specs.SymbolPart.{sorts_at, symbol_at, symbols_at, opened, symbol_part}
use Rattle.symbols.specs.Table.{symbols_in, places_from, counted, PlacedAfter, in_array, places_after, ranks_from, ranks_after}
use Rattle.symbols.proofs.Tables.{as_many}
use Rattle.symbols.proofs.Parts.{SymbolRead, symbol-got, symbols-none, symbols-next, opened-got, part-got}

-- a test whose answer is known
ruleset known = (lt-ltb, le-ltb, lt-leb, le-leb, eq-eqb, ne_eqb)

-- ---- sorts

-- keeping something of what was made of a reading is keeping something of the reading itself
keeping-made : {A B : Type 0} (kept : B → ℕ) (made : A → B) (r : Reading A)
    → keeping kept (r then λ a q. got (made a) q) ≡ keeping (λ a. kept (made a)) r
unfolding keeping ◌then◌
keeping-made kept made (got a q) = refl
keeping-made kept made (refusal c q) = refl

module _ (bs : List ℕ) where
  -- no sorts are asked for
  pub sorts_none : (n p : ℕ) → n ≡ 0 → got 0 p ≡ keeping nothing (sorts_at bs n p)
  unfolding keeping sorts_at
  sorts_none n p e = rw e

  -- the first sort is out of range
  pub sorts_refused : (n p : ℕ) → (n ≡ 0 → ⊥) → last_sort < get_or bs p 0 → refusal 3 p ≡ keeping nothing (sorts_at bs n p)
  unfolding keeping sorts_at refuse◌at◌if◌else◌
  sorts_refused zero p some h = absurd (some refl)
  sorts_refused (suc n) p some h = simp (refuse◌at◌if◌else◌, known)

  -- the first sort is in range, and the others follow
  pub sorts_next : (n p : ℕ) → (n ≡ 0 → ⊥) → get_or bs p 0 ≤ last_sort → keeping nothing (sorts_at bs (n - 1) (p + 1)) ≡ keeping nothing (sorts_at bs n p)
  unfolding sorts_at refuse◌at◌if◌else◌
  sorts_next zero p some h = absurd (some refl)
  sorts_next (suc n) p some h = simp (sub-one, refuse◌at◌if◌else◌, known, keeping-made)

-- ---- one symbol: each test of the code in its turn, and then its sorts

module _ (bs : List ℕ) (e before p : ℕ) where
  abbrev kept : Reading ℕ
  kept = keeping nothing (symbol_at bs e before p)

  -- its length runs past the part
  pub symbol-past : e < p + 1 + get_or bs p 0 → refusal 1 p ≡ kept
  unfolding keeping symbol_at refuse◌at◌if◌else◌
  symbol-past h = simp (symbol_at, refuse◌at◌if◌else◌, known)

  module _ (inside : p + 1 + get_or bs p 0 ≤ e) where
    -- it is one too many
    pub symbol-over : most_symbols ≤ before → refusal 3 p ≡ kept
    unfolding keeping symbol_at refuse◌at◌if◌else◌
    symbol-over h = simp (symbol_at, refuse◌at◌if◌else◌, known)

    module _ (room : before < most_symbols) where
      -- it is too short
      pub symbol-short : get_or bs p 0 < 2 → refusal 3 p ≡ kept
      unfolding keeping symbol_at refuse◌at◌if◌else◌
      symbol-short h = simp (symbol_at, refuse◌at◌if◌else◌, known)

      module _ (two : 2 ≤ get_or bs p 0) where
        -- it is too long
        pub symbol-long : 2 + most_arguments < get_or bs p 0 → refusal 3 p ≡ kept
        unfolding keeping symbol_at refuse◌at◌if◌else◌
        symbol-long h = simp (symbol_at, refuse◌at◌if◌else◌, known)

        module _ (ten : get_or bs p 0 ≤ 2 + most_arguments) where
          -- its kind is out of range
          pub symbol_kind : 1 < get_or bs (p + 1) 0 → refusal 3 (p + 1) ≡ kept
          unfolding keeping symbol_at refuse◌at◌if◌else◌
          symbol_kind h = simp (symbol_at, refuse◌at◌if◌else◌, known)

          module _ (kind : get_or bs (p + 1) 0 ≤ 1) where
            -- its sort is out of range
            pub symbol-sort : last_sort < get_or bs (p + 2) 0 → refusal 3 (p + 2) ≡ kept
            unfolding keeping symbol_at refuse◌at◌if◌else◌
            symbol-sort h = simp (symbol_at, refuse◌at◌if◌else◌, known)

            -- the sorts of its arguments are left to read
            pub symbol_sorts : {n : ℕ} → n ≡ get_or bs p 0 → get_or bs (p + 2) 0 ≤ last_sort → keeping nothing (sorts_at bs (n - 2) (p + 3)) ≡ kept
            unfolding symbol_at refuse◌at◌if◌else◌
            symbol_sorts same h = simp (same, symbol_at, refuse◌at◌if◌else◌, known, keeping-made)

-- ---- a row of symbols

-- what the code has to give for symbols from p on, whatever the bound, if it is enough: `was` is the array before, `is` the one after
abbrev pub SymbolsAnswered : List ℕ → ℕ → ℕ → ℕ → Reading ℕ → List ℕ → List ℕ → Type 0
SymbolsAnswered bs e before p r was is =
    (bound : ℕ) → e - p ≤ bound → (r ≡ keeping (counted before) (symbols_at bs bound e before p)) × PlacedAfter before p (symbols_at bs bound e before p) was is

-- some symbol was read from p up to q
abbrev pub SymbolKept : List ℕ → ℕ → ℕ → ℕ → ℕ → Type 0
SymbolKept bs e before p q = (x : Symbol) × (symbol_at bs e before p ≡ got x q) × SymbolRead bs e before p x q

-- what the code keeps of a symbol tells that it was read
pub symbol-kept : (bs : List ℕ) (e before p : ℕ) {v q : ℕ} → e ≤ length bs → got v q ≡ keeping nothing (symbol_at bs e before p)
    → SymbolKept bs e before p q
symbol-kept bs e before p fits r =
    let one = kept-got nothing (symbol_at bs e before p) r in
    (one.0, one.1, symbol-got bs e before p fits one.1)

module _ (bs : List ℕ) (e before p : ℕ) (was : List ℕ) where
  -- the part is at its end
  pub symbols-ended : e ≤ p → SymbolsAnswered bs e before p (got before p) was was
  unfolding keeping PlacedAfter places_from
  symbols-ended h bound enough = rw (symbols-none bs bound e before p h) (simp add-zero, refl)

  -- the next symbol is refused
  pub symbols-refused : (is : List ℕ) {c q : ℕ} → p < e → refusal c q ≡ keeping nothing (symbol_at bs e before p) → SymbolsAnswered bs e before p (refusal c q) was is
  unfolding keeping PlacedAfter
  symbols-refused is h r zero enough = absurd (omega arith)
  symbols-refused is h r (suc bound) enough =
      rw (symbols-next bs bound e before p h ∙ then-refusal _ (kept-refusal nothing _ r)) (refl, tt)

  -- a symbol x and its place go in front of what was read behind it
  in_front : (is : List ℕ) {r : Reading ℕ} (x : Symbol) {q : ℕ} → q ≡ p + 3 + length x.arguments → (rest : Reading Symbols)
      → (r ≡ keeping (counted (suc before)) rest) × PlacedAfter (suc before) q rest (set was before p) is
      → (r ≡ keeping (counted before) (rest then λ symbols k. got (x ∷ symbols) k)) × PlacedAfter before p (rest then λ symbols k. got (x ∷ symbols) k) was is
  unfolding keeping PlacedAfter places_from ◌then◌
  in_front is x behind (got symbols k) told = (told.0 ∙ simp (suc-add, add-suc), told.1 ∙ rw behind)
  in_front is x behind (refusal c k) told = (told.0, tt)

  -- the next symbol is there, and then the rest
  pub symbols-more : (is : List ℕ) {r : Reading ℕ} {x : Symbol} {q : ℕ} → p < e → symbol_at bs e before p ≡ got x q → SymbolRead bs e before p x q
      → SymbolsAnswered bs e (before + 1) q r (set was before p) is → SymbolsAnswered bs e before p r was is
  symbols-more is h one read rest zero enough = absurd (omega arith)
  symbols-more is {x = x} {q = q} h one read rest (suc bound) enough =
      rw (symbols-next bs bound e before p h ∙ then-got _ one)
      (in_front is x read.behind (symbols_at bs bound e (suc before) q) (rw add-one at (rest bound (omega arith))))

-- ---- the opening of the part: each test of the code in its turn

module _ (bs : List ℕ) where
  -- the book is over its size
  pub opened-over : most_book_bytes < length bs → refusal 1 0 ≡ opened bs
  unfolding opened refuse◌at◌if◌else◌
  opened-over h = simp (opened, refuse◌at◌if◌else◌, known)

  module _ (size : length bs ≤ most_book_bytes) where
    -- it has no version byte
    pub opened-empty : {c q : ℕ} → refusal c q ≡ byte_at bs 0 (length bs) 0 → refusal c q ≡ opened bs
    unfolding opened refuse◌at◌if◌else◌ ◌then◌
    opened-empty r = simp (opened, refuse◌at◌if◌else◌, ◌then◌, known, ← r)

    module _ {v p : ℕ} (version : got v p ≡ byte_at bs 0 (length bs) 0) where
      -- it has version 0
      pub opened-zero : v ≡ 0 → refusal 2 0 ≡ opened bs
      unfolding opened refuse◌at◌if◌else◌ ◌then◌
      opened-zero h = simp (opened, refuse◌at◌if◌else◌, ◌then◌, known, ← version)

      -- or one above 2
      pub opened-above : (v ≡ 0 → ⊥) → 2 < v → refusal 2 0 ≡ opened bs
      unfolding opened refuse◌at◌if◌else◌ ◌then◌
      opened-above some h = simp (opened, refuse◌at◌if◌else◌, ◌then◌, known, ← version)

      module _ (some : v ≡ 0 → ⊥) (edition : v ≤ 2) where
        -- the part's length is not there or runs past the book
        pub opened-past : {c q : ℕ} → refusal c q ≡ length_at bs 0 (length bs) p → refusal c q ≡ opened bs
        unfolding opened refuse◌at◌if◌else◌ ◌then◌
        opened-past r = simp (opened, refuse◌at◌if◌else◌, ◌then◌, known, ← version, ← r)

        module _ {e q : ℕ} (part : got e q ≡ length_at bs 0 (length bs) p) where
          -- the part has no symbols
          pub opened-none : q ≡ e → refusal 3 p ≡ opened bs
          unfolding opened refuse◌at◌if◌else◌ ◌then◌
          opened-none h = simp (opened, refuse◌at◌if◌else◌, ◌then◌, known, ← version, ← part)

          -- it has some
          pub opened_some : (q ≡ e → ⊥) → got e q ≡ opened bs
          unfolding opened refuse◌at◌if◌else◌ ◌then◌
          opened_some h = simp (opened, refuse◌at◌if◌else◌, ◌then◌, known, ← version, ← part)

-- ---- the whole part

-- what the code has to give for the part of a book
abbrev pub PartAnswered : List ℕ → Reading ℕ → List ℕ → List ℕ → Type 0
PartAnswered bs r places ranks =
    (r ≡ keeping length (symbol_part bs)) × (places ≡ places_after (symbol_part bs)) × (ranks ≡ ranks_after (symbol_part bs))

-- what the code has once it has read the symbols: how many there are, and their places in the array
pub record PartKept (bs : List ℕ) (count next : ℕ) (is : List ℕ) : Type 0 where
  pub symbols : Symbols
  pub read : symbol_part bs ≡ got symbols next
  pub many : count ≡ length symbols
  pub placed : is ≡ in_array (places_from 3 symbols)
  pub few : count ≤ most_symbols
  pub long : length is ≡ most_symbols
  pub there : symbols_in bs (take count is) ≡ symbols

module _ (bs : List ℕ) where
  -- the part is refused
  pub part-refused : {c q : ℕ} → symbol_part bs ≡ refusal c q → refusal c q ≡ keeping length (symbol_part bs)
  unfolding keeping
  part-refused refused = rw refused refl

  -- so it is where its opening is
  pub opening_refused : {c q : ℕ} → refusal c q ≡ opened bs → symbol_part bs ≡ refusal c q
  unfolding symbol_part
  opening_refused start = then-refusal _ (sym start)

  module _ (is : List ℕ) {e q : ℕ} (start : got e q ≡ opened bs) where
    -- and where one of its symbols is
    pub symbol-refused : {c k : ℕ} {r : Reading ℕ} → refusal c k ≡ r → SymbolsAnswered bs e 0 q r (replicate most_symbols 0) is → symbol_part bs ≡ refusal c k
    unfolding symbol_part
    symbol-refused reading told = then-got _ (sym start) ∙ kept-refusal (counted 0) _ (reading ∙ (told (e - q) (omega arith)).0)

    -- its symbols are read and their places kept
    pub part-kept : {count next : ℕ} {r : Reading ℕ} → got count next ≡ r → SymbolsAnswered bs e 0 q r (replicate most_symbols 0) is → PartKept bs count next is
    unfolding symbol_part PlacedAfter in_array
    part-kept {count} reading told =
        let both = told (e - q) (omega arith) in
        let kept = kept-got (counted 0) _ (reading ∙ both.0) in
        let all = kept.0 in
        let whole = then-got _ (sym start) ∙ kept.1 in
        let part = part-got bs whole in
        let first = (opened-got bs (sym start)).first in
        let many : count ≡ length all = kept.2 ∙ zero-add _ in
        let stored = subst (λ (k : ℕ). is ≡ sets (replicate most_symbols 0) 0 (places_from k all)) first (rw kept.1 at both.1) in
        let places = sym (as_many bs (places_from 3 all)) ∙ ap length part.same in
        let placed : is ≡ in_array (places_from 3 all) = stored ∙ over_zeros (places_from 3 all) most_symbols (omega (arith, part.room)) in
        record {
          symbols = all;
          read = whole;
          many = many;
          placed = placed;
          few = omega (arith, part.room);
          long = ap length stored ∙ length-sets (replicate most_symbols 0) 0 (places_from 3 all) ∙ length-replicate {A = ℕ} most_symbols 0;
          there = ap (λ (row : List ℕ). symbols_in bs (take count row)) placed
              ∙ ap (symbols_in bs) (take_at (places_from 3 all) _ count (places ∙ sym many))
              ∙ part.same;
        }

  -- the part is read: with its ranks this is what the code has to give
  pub part-read : {count next : ℕ} {is ranks : List ℕ} → (kept : PartKept bs count next is)
      → ranks ≡ in_array (ranks_from (symbols_in bs (take count is)) 0 (symbols_in bs (take count is))) → PartAnswered bs (got count next) is ranks
  unfolding keeping places_after ranks_after
  part-read kept ranked = rw kept.read (cc kept.many, kept.placed, ranked ∙ rw kept.there)
