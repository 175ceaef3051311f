-- Ranks: how constructors are counted from the front, and how the array of ranks is filled from the front.
use mathlib.Core.Path.{◌≡◌, refl, sym, ap, ◌∙◌}
use mathlib.Core.Bool.{Bool, true, false}
use mathlib.Core.List.{List, [], ◌∷◌, ◌++◌}
use Prim.Native.Nat.{ℕ, zero, suc, ◌+◌, ◌-◌, ◌<◌, ◌≤◌}
use native.Mathlib.Nat.{add-zero, zero-add}
use native.Mathlib.Numerals.{add-one}
use native.Mathlib.Decide.{ℕ_discrete}
use native.Mathlib.Omega.{arith}
use borrow.Author.Tests.{eq-eqb, ne_eqb}
use lib.ListN.{length, get_or, set, take, replicate, length-replicate, length-set, get_or-replicate}
use lib.Seq.{take-suc, take_all, length-take-le, append_snoc, set_at, get_or-set_same, get_or-set_other}
use Rattle.limits.specs.Sizes.{most_symbols, sorts_of_a_byte}
use Rattle.symbols.specs.Symbols.{Symbol, Symbols, symbol_of, is_constructor_of, constructors_before}
use Rattle.symbols.specs.Table.{ranks_from, in_array}

-- how much a symbol adds to a count
abbrev pub one_if : Bool → ℕ
one_if true = 1
one_if false = 0

-- a symbol adds one at most
at_most_one : (t : Bool) → one_if t ≤ 1
at_most_one true = omega arith
at_most_one false = omega arith

module _ (s : ℕ) where
  -- before the first symbol there are no constructors of the sort
  pub none_before : (symbols : Symbols) → constructors_before s symbols 0 ≡ 0
  unfolding constructors_before
  none_before [] = refl
  none_before (x ∷ rest) = refl

  -- behind the first symbol there are those of the rest, and the first if it is one
  first-counts : (x : Symbol) (rest : Symbols) (f : ℕ) → constructors_before s (x ∷ rest) (suc f) ≡ one_if (is_constructor_of s x) + constructors_before s rest f
  unfolding constructors_before
  first-counts x rest f = by-case (is_constructor_of s x)
    where
      -- whether it is one or not
      by-case : (t : Bool) → elim t [ true ↦ suc (constructors_before s rest f) | false ↦ constructors_before s rest f ] ≡ one_if t + constructors_before s rest f
      by-case true = omega arith
      by-case false = omega arith

  -- behind symbol f there are those before it, and symbol f if it is one
  pub next-counts : (symbols : Symbols) (f : ℕ) → f < length symbols
      → constructors_before s symbols (f + 1) ≡ constructors_before s symbols f + one_if (is_constructor_of s (symbol_of symbols f))
  next-counts symbols f here = rw add-one (counts symbols f here)
    where
      -- the same of the next number as the definition has it
      counts : (symbols : Symbols) (f : ℕ) → f < length symbols
          → constructors_before s symbols (suc f) ≡ constructors_before s symbols f + one_if (is_constructor_of s (symbol_of symbols f))
      counts [] f here = absurd (omega arith)
      counts (x ∷ rest) zero here = omega (arith, first-counts x rest 0, none_before rest, none_before (x ∷ rest))
      counts (x ∷ rest) (suc f) here = omega (arith, first-counts x rest (suc f), first-counts x rest f, counts rest f (omega arith))

  -- before symbol f there are at most f
  pub few-before : (symbols : Symbols) (f : ℕ) → constructors_before s symbols f ≤ f
  unfolding constructors_before
  few-before [] f = omega arith
  few-before (x ∷ rest) zero = omega arith
  few-before (x ∷ rest) (suc f) = omega (arith, first-counts x rest f, at_most_one (is_constructor_of s x), few-before rest f)

-- which of its sort's constructors x is, as symbol f; 0 for an operation
abbrev pub rank_of : Symbols → ℕ → Symbol → ℕ
rank_of symbols f x = elim x.is_operation [ true ↦ 0 | false ↦ constructors_before x.sort symbols f ]

module _ (symbols : Symbols) where
  -- the rank of the first symbol stands first
  first_rank : (f : ℕ) (x : Symbol) (rest : Symbols) → ranks_from symbols f (x ∷ rest) ≡ rank_of symbols f x ∷ ranks_from symbols (suc f) rest
  unfolding ranks_from
  first_rank f x rest = by-case x.is_operation (constructors_before x.sort symbols f) (ranks_from symbols (suc f) rest)
    where
      -- whether it is an operation or not
      by-case : (t : Bool) (k : ℕ) (ranks : List ℕ) → elim t [ true ↦ 0 ∷ ranks | false ↦ k ∷ ranks ] ≡ elim t [ true ↦ 0 | false ↦ k ] ∷ ranks
      by-case true k ranks = refl
      by-case false k ranks = refl

  -- there are as many ranks as symbols
  pub length_ranks : (f : ℕ) (rest : Symbols) → length (ranks_from symbols f rest) ≡ length rest
  unfolding ranks_from
  length_ranks f [] = refl
  length_ranks f (x ∷ rest) = ap length (first_rank f x rest) ∙ ap suc (length_ranks (suc f) rest)

  -- the rank of each symbol stands at its number
  pub rank_there : (f : ℕ) → f < length symbols → get_or (ranks_from symbols 0 symbols) f 0 ≡ rank_of symbols f (symbol_of symbols f)
  rank_there f here = simp (further 0 symbols f here, zero-add)
    where
      -- the same of the ranks from symbol f on
      further : (f : ℕ) (rest : Symbols) (i : ℕ) → i < length rest → get_or (ranks_from symbols f rest) i 0 ≡ rank_of symbols (f + i) (symbol_of rest i)
      further f [] i here = absurd (omega arith)
      further f (x ∷ rest) zero here = rw (first_rank f x rest, add-zero)
      further f (x ∷ rest) (suc i) here =
          let more : f + suc i ≡ suc f + i = omega arith in
          rw (first_rank f x rest, more) (further (suc f) rest i (omega arith))

-- A row that the array holds up to f: what stands at f is 0, and is to be the row's next number.
module _ (row : List ℕ) (f : ℕ) (here : f < length row) (room : length row ≤ most_symbols) where
  -- the zeros behind f
  zeros : List ℕ
  zeros = replicate (most_symbols - suc f) 0

  -- what stands at f before
  filled : in_array (take f row) ≡ take f row ++ 0 ∷ zeros
  unfolding in_array zeros
  filled =
      let more : most_symbols - f ≡ suc (most_symbols - suc f) = omega arith in
      rw (length-take-le f row (omega arith), more)

  -- what stands at f after
  filled_more : in_array (take (f + 1) row) ≡ take f row ++ get_or row f 0 ∷ zeros
  unfolding in_array zeros
  filled_more =
      let less : most_symbols - (f + 1) ≡ most_symbols - suc f = omega arith in
      rw (length-take-le (f + 1) row (omega arith), less, add-one, take-suc row f 0, append_snoc)

  -- the next number is stored at f
  stored : set (in_array (take f row)) f (get_or row f 0) ≡ in_array (take (f + 1) row)
  stored = rw (filled, filled_more) (set_at (take f row) 0 zeros _ f (length-take-le f row (omega arith)))

  -- or it is 0, and stands there already
  stands : get_or row f 0 ≡ 0 → in_array (take f row) ≡ in_array (take (f + 1) row)
  stands e = rw (filled, filled_more, e)

-- How far the code is at symbol f: the array has the ranks of the symbols before it, and of each sort the constructors before it are counted.
pub record Ranked (symbols : Symbols) (f : ℕ) (ranks seen : List ℕ) : Type 0 where
  pub so_far : ranks ≡ in_array (take f (ranks_from symbols 0 symbols))
  pub sorts : length seen ≡ sorts_of_a_byte
  pub counted : (s : ℕ) → s < sorts_of_a_byte → get_or seen s 0 ≡ constructors_before s symbols f

module _ (symbols : Symbols) where
  -- at the first symbol all are zeros
  pub ranked-none : Ranked symbols 0 (replicate most_symbols 0) (replicate sorts_of_a_byte 0)
  unfolding in_array
  ranked-none = record {
    so_far = refl;
    sorts = length-replicate {A = ℕ} sorts_of_a_byte 0;
    counted = λ s small. get_or-replicate sorts_of_a_byte s 0 0 small ∙ sym (none_before s symbols);
  }

  -- behind the last symbol the array has all ranks
  pub ranked-all : {f : ℕ} {ranks seen : List ℕ} → length symbols ≤ f → Ranked symbols f ranks seen → ranks ≡ in_array (ranks_from symbols 0 symbols)
  ranked-all {f} all r = r.so_far ∙ ap in_array (take_all f (ranks_from symbols 0 symbols) (rw length_ranks all))

  module _ (f : ℕ) (here : f < length symbols) (room : length symbols ≤ most_symbols) {ranks seen : List ℕ} (r : Ranked symbols f ranks seen) where
    -- symbol f adds one to its own sort
    count_next : (s : ℕ) → s < sorts_of_a_byte → constructors_before s symbols (f + 1) ≡ get_or seen s 0 + one_if (is_constructor_of s (symbol_of symbols f))
    count_next s small = omega (arith, next-counts s symbols f here, r.counted s small)

    -- an operation has rank 0 and is not counted
    pub ranked-operation : (symbol_of symbols f).is_operation ≡ true → Ranked symbols (f + 1) ranks seen
    unfolding is_constructor_of
    ranked-operation operation = record {
      so_far = r.so_far ∙ stands (ranks_from symbols 0 symbols) f (rw length_ranks here) (rw length_ranks room) (rw (rank_there symbols f here, operation, rank_of));
      sorts = r.sorts;
      counted = λ s small. rw (count_next s small, operation, is_constructor_of, add-zero);
    }

    module _ (s : ℕ) (constructor : (symbol_of symbols f).is_operation ≡ false) (its-sort : (symbol_of symbols f).sort ≡ s) (small : s < sorts_of_a_byte) where
      -- its rank is what its sort has come to
      rank : get_or (ranks_from symbols 0 symbols) f 0 ≡ get_or seen s 0
      rank = rw (rank_there symbols f here, constructor, rank_of, its-sort) (sym (r.counted s small))

      -- the count of its sort goes up, that of another sort stays
      counts : (t : ℕ) → t < sorts_of_a_byte → Dec (t ≡ s) → get_or (set seen s (get_or seen s 0 + 1)) t 0 ≡ constructors_before t symbols (f + 1)
      unfolding is_constructor_of
      counts t small' (yes own) =
          rw (own, get_or-set_same seen s _ 0 (omega (arith, r.sorts)), count_next s small, constructor, is_constructor_of, its-sort, eq-eqb s s refl)
      counts t small' (no other) =
          rw (get_or-set_other seen s t _ 0 other, count_next t small', constructor, is_constructor_of, its-sort, ne_eqb s t (λ e. other (sym e)), add-zero)

      -- a constructor has the rank that its sort has come to, and is counted
      pub ranked-constructor : Ranked symbols (f + 1) (set ranks f (get_or seen s 0)) (set seen s (get_or seen s 0 + 1))
      ranked-constructor = record {
        so_far = rw (r.so_far, ← rank) (stored (ranks_from symbols 0 symbols) f (rw length_ranks here) (rw length_ranks room));
        sorts = length-set seen s _ ∙ r.sorts;
        counted = λ t small'. counts t small' (ℕ_discrete t s);
      }
