-- Symbols, numbered from 0 by their place in the list.
use Rattle.std.specs.Prelude.{Bool, true, false, List, [], ◌∷◌, ℕ, zero, suc, eqb, get_or}

-- "kind (0 constructor, 1 operation), result sort (0 to 63), and the sorts of its arguments (0 to 8 of them)"
pub record Symbol : Type 0 where
  pub is_operation : Bool
  pub sort : ℕ
  pub arguments : List ℕ

abbrev pub Symbols : Type 0
Symbols = List Symbol

-- what is said of a symbol that is not there; no admitted book asks
unfoldable pub no_symbol : Symbol
no_symbol = record { is_operation = false; sort = 0; arguments = [] }

abbrev pub symbol_of : Symbols → ℕ → Symbol
symbol_of symbols f = get_or symbols f no_symbol

-- whether a symbol is a constructor of the sort
unfoldable pub is_constructor_of : ℕ → Symbol → Bool
is_constructor_of s x = elim x.is_operation [ true ↦ false | false ↦ eqb x.sort s ]

-- "each constructor of that variable's sort, in symbol order": the argument sorts of each
unfoldable pub constructors_of : ℕ → Symbols → List (List ℕ)
constructors_of s [] = []
constructors_of s (x ∷ rest) = elim (is_constructor_of s x) [
  | true ↦ x.arguments ∷ constructors_of s rest
  | false ↦ constructors_of s rest
]

-- how many constructors of the sort stand before symbol f: which of a branch's trees it picks
unfoldable pub constructors_before : ℕ → Symbols → ℕ → ℕ
constructors_before s [] f = 0
constructors_before s (x ∷ rest) zero = 0
constructors_before s (x ∷ rest) (suc f) = elim (is_constructor_of s x) [
  | true ↦ suc (constructors_before s rest f)
  | false ↦ constructors_before s rest f
]
