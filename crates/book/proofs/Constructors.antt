-- The constructors of a sort, met one after the other along their chain, and whether one of them would bind a variable past the last.
use mathlib.Core.Bool.{Bool, true, false}
use mathlib.Core.List.{List, [], ◌∷◌}
use mathlib.Core.Path.{◌≡◌, refl, sym, ap, ap₂, ◌∙◌}
use Prim.Native.Nat.{ℕ, ◌+◌, ◌≤◌, ◌<◌}
use native.Mathlib.Numerals.{add-one}
use native.Mathlib.Omega.{arith}
use borrow.Author.Tests.{lt-ltb, le-ltb, ltb-false}
use lib.Dec.{ltb}
use lib.ListN.{length, get_or, drop, drop_of_length-le, length-drop}
use lib.Seq.{drop-cons, drop-drop, get_or-drop}
use Rattle.limits.specs.Sizes.{most_variables, sorts_of_a_byte}
use Rattle.symbols.specs.Symbols.{Symbol, Symbols, no_symbol, is_constructor_of, constructors_of}
use Rattle.symbols.specs.Table.{symbol_in, symbols_in, first_from}
use Rattle.symbol_part.proofs.Chains.{stops, first_in_array, next_in_array}
use Rattle.symbols.proofs.Tables.{symbol-there, as_many}
use Rattle.book.specs.TreeAt.{binds_past}
use Rattle.book.specs.Reader.{Chained}

module _ (bs places : List ℕ) where
  -- the symbols from f on
  abbrev pub symbols_from : ℕ → Symbols
  symbols_from f = drop f (symbols_in bs places)

  -- the next one stands at the place that the table has for it
  pub next-symbol : (f : ℕ) → f < length places → symbols_from f ≡ symbol_in bs (get_or places f 0) ∷ symbols_from (f + 1)
  next-symbol f h =
      drop-cons (symbols_in bs places) f no_symbol (omega (arith, as_many bs places))
      ∙ ap₂ (λ (x : Symbol) (k : ℕ). x ∷ symbols_from k) (symbol-there bs places f h) (sym (add-one f))

  -- none is left
  pub no_symbol_lem : (f : ℕ) → length places ≤ f → symbols_from f ≡ []
  no_symbol_lem f h = drop_of_length-le (symbols_in bs places) {i = f} (omega (arith, as_many bs places))

-- ---- the chain of a sort

-- where f is a symbol's number, it is a constructor of the sort
abbrev pub OnChain : List ℕ → List ℕ → ℕ → ℕ → Type 0
OnChain bs places sort f = f < length places → is_constructor_of sort (symbol_in bs (get_or places f 0)) ≡ true

-- the chain comes to f, and no constructor of the sort is passed over from symbol k on
pub record Arrives (bs places : List ℕ) (sort k f : ℕ) : Type 0 where
  pub on : OnChain bs places sort f
  pub onward : k ≤ f
  pub same : constructors_of sort (symbols_from bs places f) ≡ constructors_of sort (symbols_from bs places k)

module _ (bs places : List ℕ) (sort : ℕ) where
  -- so it comes to the first one from symbol k on
  arrives : (k : ℕ) → Arrives bs places sort k (first_from sort (symbols_from bs places k) k)
  arrives k =
      let there = stops sort (symbols_from bs places k) k in
      let n = there.0 in
      rw there.1 (record {
        on = λ l. ap (is_constructor_of sort) (sym (get_or-drop k (symbols_in bs places) n no_symbol ∙ symbol-there bs places (k + n) l))
            ∙ there.2.is (omega (arith, length-drop k (symbols_in bs places), as_many bs places));
        onward = omega arith;
        same = ap (constructors_of sort) (sym (drop-drop n k (symbols_in bs places))) ∙ there.2.skips;
      })

  module _ {next first : List ℕ} (chained : Chained (symbols_in bs places) next first) where
    -- the chain begins at the first of all
    pub chain_first : sort < sorts_of_a_byte → Arrives bs places sort 0 (get_or first sort 0)
    chain_first small = rw (first_in_array (symbols_in bs places) chained.firsts sort small) (arrives 0)

    -- it goes on to the first behind symbol f
    pub chain_next : (f : ℕ) → f < length places → OnChain bs places sort f → Arrives bs places sort (f + 1) (get_or next f 0)
    chain_next f h on =
        let is = ap (is_constructor_of sort) (symbol-there bs places f h) ∙ on h in
        rw (next_in_array (symbols_in bs places) chained.nexts sort f (omega (arith, as_many bs places)) is, ← add-one f) (arrives (f + 1))

-- ---- binding past the last

-- some constructor of the sort, among these symbols, would bind past the last
abbrev pub any_past : ℕ → ℕ → Symbols → Bool
any_past bound sort symbols = binds_past bound (constructors_of sort symbols)

module _ (bs places : List ℕ) (bound sort : ℕ) where
  -- one of those from symbol k on would
  abbrev pub past_from : ℕ → Bool
  past_from k = any_past bound sort (symbols_from bs places k)

  -- behind the last symbol there are none
  pub past_end : (f : ℕ) → length places ≤ f → past_from f ≡ false
  unfolding constructors_of binds_past
  past_end f h = rw (no_symbol_lem bs places f h)

  -- symbol f is a constructor of the sort
  module _ (f : ℕ) (h : f < length places) (on : OnChain bs places sort f) where
    -- how many variables would be bound with its own
    abbrev bound-with : ℕ
    bound-with = bound + length (symbol_in bs (get_or places f 0)).arguments

    -- it would, or one behind it would
    past_first : past_from f ≡ elim (ltb most_variables bound-with) as (λ _. Bool) [ true ↦ true | false ↦ past_from (f + 1) ]
    unfolding constructors_of binds_past
    past_first = rw (next-symbol bs places f h, on h, constructors_of)

    -- it would
    pub past-here : most_variables < bound-with → past_from f ≡ true
    past-here l = past_first ∙ rw (lt-ltb most_variables bound-with l)

    -- it would not
    pub past-later : bound-with ≤ most_variables → past_from f ≡ past_from (f + 1)
    past-later fits = past_first ∙ rw (le-ltb most_variables bound-with fits)

    -- none would
    module _ (none : past_from f ≡ false) where
      -- so it would not
      pub case-fits : bound-with ≤ most_variables
      case-fits = by (ltb most_variables bound-with) refl
        where
          by : (b : Bool) → ltb most_variables bound-with ≡ b → bound-with ≤ most_variables
          by false l = ltb-false most_variables _ l
          by true l = absurd (let z : ◌≡◌ true false = sym (past_first ∙ rw l) ∙ none in let y : ◌≡◌ {A = ℕ} 0 1 = cc in omega arith)

      -- and none behind it
      pub none-behind : past_from (f + 1) ≡ false
      none-behind = sym (past-later case-fits) ∙ none
