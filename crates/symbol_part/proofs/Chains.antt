-- Chains of constructors: a sort's chain passes over no case of a branch and stops at nothing else, and the code fills the arrays of
-- chains from the last symbol to the first.
use mathlib.Core.Bool.{Bool, true, false}
use mathlib.Core.List.{List, [], ◌∷◌, ◌++◌}
use mathlib.Core.Path.{◌≡◌, refl, sym, ap, ◌∙◌}
use Prim.Native.Nat.{ℕ, zero, suc, ◌+◌, ◌-◌, ◌≤◌, ◌<◌}
use native.Mathlib.Nat.{not-suc-le-zero, add-zero, zero-add}
use native.Mathlib.Decide.{ℕ_discrete}
use native.Mathlib.Omega.{arith}
use borrow.Author.Tests.{eqb-true, eq-eqb, ne_eqb}
use lib.ListN.{length, get_or, set, take, drop, replicate, get_or-append, length-replicate, length-set, get_or-replicate, replicate-append-replicate}
use lib.Seq.{drop-cons, drop-length, get_or-set_same, get_or-set_other, ext_get_or}
use Rattle.limits.specs.Sizes.{most_symbols, sorts_of_a_byte}
use Rattle.reading.specs.Reading.{Reading, got, refusal}
use Rattle.reading.specs.Answer.{keeping}
use Rattle.symbols.specs.Symbols.{Symbol, Symbols, no_symbol, symbol_of, is_constructor_of, constructors_of}
use Rattle.symbols.specs.SymbolPart.{symbol_part}
use Rattle.symbols.specs.Table.{symbols_in, in_array, ranks_from, first_from, nexts_from, firsts_from, places_after, ranks_after, nexts_after, firsts_after}
use Rattle.symbol_part.proofs.PartWays.{PartKept, part-refused, part-read}

-- ---- where a chain stops

-- what the chain stops at, counted from the front of `rest`
pub record Stop (s : ℕ) (rest : Symbols) (k : ℕ) : Type 0 where
  pub skips : constructors_of s (drop k rest) ≡ constructors_of s rest
  pub is : k < length rest → is_constructor_of s (symbol_of rest k) ≡ true

-- the first constructor of the sort, or the end, is where the chain stops
pub stops : (s : ℕ) (rest : Symbols) (f : ℕ) → (k : ℕ) × (first_from s rest f ≡ f + k) × Stop s rest k
unfolding first_from constructors_of
stops s [] f = (0, omega arith, record { skips = refl; is = λ h. absurd (not-suc-le-zero h) })
stops s (x ∷ rest) f = by (is_constructor_of s x) refl (stops s rest (suc f))
  where
    -- whether the first symbol is one or not
    by : (b : Bool) → is_constructor_of s x ≡ b → (k : ℕ) × (first_from s rest (suc f) ≡ suc f + k) × Stop s rest k
        → (k : ℕ) × (first_from s (x ∷ rest) f ≡ f + k) × Stop s (x ∷ rest) k
    by true e r = (0, rw (e, first_from) (omega arith), record { skips = refl; is = λ h. e })
    by false e (k, at-k, stop) =
        (suc k, rw (e, first_from) (at-k ∙ omega arith), record { skips = stop.skips ∙ sym (rw (e, constructors_of)); is = λ h. stop.is (omega arith) })

-- ---- the rows of numbers

-- there is a next one for each symbol
length-nexts : (symbols : Symbols) (f : ℕ) → length (nexts_from symbols f) ≡ length symbols
unfolding nexts_from
length-nexts [] f = refl
length-nexts (x ∷ rest) f = ap suc (length-nexts rest (suc f))

module _ (symbols : Symbols) where
  -- there is a first one for each sort
  length-firsts : (n s : ℕ) → length (firsts_from symbols n s) ≡ n
  unfolding firsts_from
  length-firsts zero s = refl
  length-firsts (suc n) s = ap suc (length-firsts n (suc s))

  -- and it stands at the sort's number
  first-there : (n s i : ℕ) → i < n → get_or (firsts_from symbols n s) i 0 ≡ first_from (s + i) symbols 0
  unfolding firsts_from
  first-there zero s i small = absurd (omega arith)
  first-there (suc n) s zero small = rw add-zero
  first-there (suc n) s (suc i) small =
      let more : s + suc i ≡ suc s + i = omega arith in
      rw more (first-there n (suc s) i (omega arith))

-- what stands at a symbol's number is its own next one
next-there : (symbols : Symbols) (f i : ℕ) → i < length symbols → get_or (nexts_from symbols f) i 0 ≡ first_from (symbol_of symbols i).sort (drop (suc i) symbols) (suc (f + i))
unfolding nexts_from
next-there [] f i small = absurd (omega arith)
next-there (x ∷ rest) f zero small = rw add-zero
next-there (x ∷ rest) f (suc i) small =
    let more : f + suc i ≡ suc f + i = omega arith in
    rw more (next-there rest (suc f) i (omega arith))

-- ---- reading the arrays

-- a constructor of a sort has it as its own
own-sort : (s : ℕ) (x : Symbol) → is_constructor_of s x ≡ true → x.sort ≡ s
unfolding is_constructor_of
own-sort s x = by x.is_operation refl
  where
    -- an operation is no constructor
    by : (b : Bool) → x.is_operation ≡ b → is_constructor_of s x ≡ true → x.sort ≡ s
    by true e is = absurd (let z : ◌≡◌ true false = sym is ∙ rw (e, is_constructor_of) in let y : ◌≡◌ {A = ℕ} 0 1 = cc in omega arith)
    by false e is = eqb-true x.sort s (rw (e, is_constructor_of) at is)

module _ (symbols : Symbols) where
  -- the array of first ones has each sort's
  pub first_in_array : {first : List ℕ} → first ≡ firsts_from symbols sorts_of_a_byte 0 → (s : ℕ) → s < sorts_of_a_byte → get_or first s 0 ≡ first_from s symbols 0
  first_in_array firsts s small = rw firsts (first-there symbols sorts_of_a_byte 0 s small ∙ rw zero-add)

  -- the array of next ones has each constructor's
  pub next_in_array : {next : List ℕ} → next ≡ in_array (nexts_from symbols 0) → (s f : ℕ) → f < length symbols → is_constructor_of s (symbol_of symbols f) ≡ true
      → get_or next f 0 ≡ first_from s (drop (suc f) symbols) (suc f)
  unfolding in_array
  next_in_array nexts s f here is =
      let long = length-nexts symbols 0 in
      rw (nexts, get_or-append (nexts_from symbols 0) _ 0 f (omega arith), next-there symbols 0 f here, own-sort s (symbol_of symbols f) is, zero-add)

-- ---- filling the arrays

-- a number stored over the last of the zeros in front
over_last : (f v : ℕ) (rest : List ℕ) → set (replicate (suc f) 0 ++ rest) f v ≡ replicate f 0 ++ (v ∷ rest)
over_last zero v rest = refl
over_last (suc f) v rest = ap (λ (row : List ℕ). 0 ∷ row) (over_last f v rest)

-- the array with the next ones of the symbols from f on, and zeros in front of them and behind
abbrev nexts_in_array : Symbols → ℕ → List ℕ
nexts_in_array symbols f = replicate f 0 ++ (nexts_from (drop f symbols) f ++ replicate (most_symbols - length symbols) 0)

-- How far the code is at symbol f: the array has the next ones of the symbols from f on, and the first ones among these symbols are known.
pub record Chained (symbols : Symbols) (f : ℕ) (next first : List ℕ) : Type 0 where
  pub so_far : next ≡ nexts_in_array symbols f
  pub sorts : length first ≡ sorts_of_a_byte
  pub known : (s : ℕ) → s < sorts_of_a_byte → get_or first s 0 ≡ first_from s (drop f symbols) f

module _ (symbols : Symbols) where
  -- behind the last symbol there are no next ones, and no first ones
  pub chained-none : {f : ℕ} → f ≡ length symbols → length symbols ≤ most_symbols → Chained symbols f (replicate most_symbols 0) (replicate sorts_of_a_byte f)
  unfolding nexts_from first_from
  chained-none {f} behind room =
      let whole : length symbols + (most_symbols - length symbols) ≡ most_symbols = omega arith in
      record {
        so_far = rw (behind, drop-length symbols, replicate-append-replicate, whole);
        sorts = length-replicate {A = ℕ} sorts_of_a_byte f;
        known = λ s small. rw (get_or-replicate sorts_of_a_byte s f 0 small, behind, drop-length symbols);
      }

  -- at the first symbol the arrays are whole
  pub chained-all : {next first : List ℕ} → Chained symbols 0 next first → (next ≡ in_array (nexts_from symbols 0)) × (first ≡ firsts_from symbols sorts_of_a_byte 0)
  unfolding in_array
  chained-all {next} {first} r = (
    rw (r.so_far, length-nexts),
    ext_get_or 0 first (firsts_from symbols sorts_of_a_byte 0) (r.sorts ∙ sym (length-firsts symbols sorts_of_a_byte 0)) λ s small.
        r.known s (omega (arith, r.sorts)) ∙ sym (first_in_array symbols refl s (omega (arith, r.sorts))),
  )

  module _ {f from : ℕ} (before : from ≡ suc f) (here : f < length symbols) {next first : List ℕ} (r : Chained symbols from next first) where
    -- the symbols from f on are symbol f and those that the code has passed
    on : drop f symbols ≡ symbol_of symbols f ∷ drop from symbols
    on = rw (before, drop-cons symbols f no_symbol here)

    -- where symbol f is no constructor of the sort, the sort's first one stays
    passed_over : (s : ℕ) → s < sorts_of_a_byte → is_constructor_of s (symbol_of symbols f) ≡ false → get_or first s 0 ≡ first_from s (drop f symbols) f
    unfolding first_from
    passed_over s small other = rw (on, other, first_from, ← before) (r.known s small)

    module _ (s : ℕ) (its-sort : (symbol_of symbols f).sort ≡ s) (small : s < sorts_of_a_byte) where
      -- what is stored for symbol f is its sort's next one
      stored : set next f (get_or first s 0) ≡ nexts_in_array symbols f
      unfolding nexts_from
      stored = rw (on, r.so_far, r.known s small, its-sort, before) (over_last f _ _)

      -- an operation is no one's next one
      pub chained-operation : (symbol_of symbols f).is_operation ≡ true → Chained symbols f (set next f (get_or first s 0)) first
      unfolding is_constructor_of
      chained-operation operation = record {
        so_far = stored;
        sorts = r.sorts;
        known = λ t small'. passed_over t small' (rw (operation, is_constructor_of));
      }

      module _ (constructor : (symbol_of symbols f).is_operation ≡ false) where
        own_sort : is_constructor_of s (symbol_of symbols f) ≡ true
        unfolding is_constructor_of
        own_sort = rw (constructor, is_constructor_of, its-sort, eq-eqb s s refl)

        other_sort : (t : ℕ) → (t ≡ s → ⊥) → is_constructor_of t (symbol_of symbols f) ≡ false
        unfolding is_constructor_of
        other_sort t other = rw (constructor, is_constructor_of, its-sort, ne_eqb s t (λ e. other (sym e)))

        -- it is the first one of its own sort
        known_more : (t : ℕ) → t < sorts_of_a_byte → Dec (t ≡ s) → get_or (set first s f) t 0 ≡ first_from t (drop f symbols) f
        unfolding first_from
        known_more t small' (yes own) =
            let its : is_constructor_of t (symbol_of symbols f) ≡ true = rw own own_sort in
            rw (on, its, first_from) (rw own (get_or-set_same first s f 0 (omega (arith, r.sorts))))
        known_more t small' (no other) = get_or-set_other first s t f 0 other ∙ passed_over t small' (other_sort t other)

        -- a constructor is from now on the first one of its sort
        pub chained-constructor : Chained symbols f (set next f (get_or first s 0)) (set first s f)
        chained-constructor = record {
          so_far = stored;
          sorts = length-set first s f ∙ r.sorts;
          known = λ t small'. known_more t small' (ℕ_discrete t s);
        }

-- ---- the whole part, with its chains

-- what the code has to give for the part of a book
abbrev pub WholeAnswered : List ℕ → Reading ℕ → List ℕ → List ℕ → List ℕ → List ℕ → Type 0
WholeAnswered bs r places ranks next first =
    (r ≡ keeping length (symbol_part bs)) × (places ≡ places_after (symbol_part bs)) × (ranks ≡ ranks_after (symbol_part bs))
    × (next ≡ nexts_after (symbol_part bs)) × (first ≡ firsts_after (symbol_part bs))

module _ (bs : List ℕ) where
  -- the part is refused: there are zeros
  pub whole-refused : {c q : ℕ} → symbol_part bs ≡ refusal c q
      → WholeAnswered bs (refusal c q) (replicate most_symbols 0) (replicate most_symbols 0) (replicate most_symbols 0) (replicate sorts_of_a_byte 0)
  unfolding places_after ranks_after nexts_after firsts_after in_array
  whole-refused refused = (part-refused bs refused, rw refused, rw refused, rw refused, rw refused)

  -- the part is read: with the ranks and the chains of its symbols this is what the code has to give
  pub whole-read : {places ranks next first : List ℕ} {count end : ℕ} → PartKept bs count end places
      → ranks ≡ in_array (ranks_from (symbols_in bs (take count places)) 0 (symbols_in bs (take count places)))
      → next ≡ in_array (nexts_from (symbols_in bs (take count places)) 0)
      → first ≡ firsts_from (symbols_in bs (take count places)) sorts_of_a_byte 0
      → WholeAnswered bs (got count end) places ranks next first
  unfolding nexts_after firsts_after
  whole-read kept ranked nexts firsts =
      let part = part-read bs kept ranked in
      (part.0, part.1, part.2, rw kept.read (nexts ∙ rw kept.there), rw kept.read (firsts ∙ rw kept.there))
