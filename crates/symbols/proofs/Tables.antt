-- The symbols that a table of places means, one by one.
use mathlib.Core.Path.{◌≡◌, refl, sym, ap, ◌∙◌}
use mathlib.Core.Bool.{Bool}
use mathlib.Core.List.{List, [], ◌∷◌}
use Prim.Native.Nat.{ℕ, zero, suc, ◌<◌}
use native.Mathlib.Omega.{arith}
use lib.ListN.{length, get_or, length-map}
use Rattle.symbols.specs.Symbols.{Symbol, symbol_of}
use Rattle.symbols.specs.Table.{symbol_in, symbols_in}

-- the symbol that a number in the table means stands at the place that the table has for it
pub symbol-there : (bs places : List ℕ) (f : ℕ) → f < length places → symbol_of (symbols_in bs places) f ≡ symbol_in bs (get_or places f 0)
unfolding symbols_in
symbol-there bs [] f h = absurd (omega arith)
symbol-there bs (p ∷ rest) zero h = refl
symbol-there bs (p ∷ rest) (suc f) h = symbol-there bs rest f (omega arith)

-- What the code looks up there is the symbol's own. Where these are named a proof need not search all that a loop knows, which takes seconds.
module _ (bs places : List ℕ) (f : ℕ) (h : f < length places) where
  -- its kind
  pub kind_there : {kind : Bool} → kind ≡ (symbol_in bs (get_or places f 0)).is_operation → (symbol_of (symbols_in bs places) f).is_operation ≡ kind
  kind_there looked = ap (λ (x : Symbol). x.is_operation) (symbol-there bs places f h) ∙ sym looked

  -- its sort
  pub sort-there : {sort : ℕ} → sort ≡ (symbol_in bs (get_or places f 0)).sort → (symbol_of (symbols_in bs places) f).sort ≡ sort
  sort-there looked = ap (λ (x : Symbol). x.sort) (symbol-there bs places f h) ∙ sym looked

-- there are as many symbols as places
pub as_many : (bs places : List ℕ) → length (symbols_in bs places) ≡ length places
unfolding symbols_in
as_many bs places = length-map places (symbol_in bs)
