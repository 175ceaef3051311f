-- How many symbols of a symbol part are read whole before the first fault, or the part's end.
use Rattle.std.specs.Prelude.{true, false, List, ℕ, zero, suc, ◌-◌, ltb}
use Rattle.reading.specs.Reading.{got, refusal}
use Rattle.symbols.specs.SymbolPart.{symbol_at, opened}

-- those from p to the part's end e, with `before` in front of them; the first number bounds them, as it does in `symbols_at`
unfoldable pub symbols_read_at : List ℕ → ℕ → ℕ → ℕ → ℕ → ℕ
symbols_read_at bs zero e before p = 0
symbols_read_at bs (suc bound) e before p = elim (ltb p e) [
  | false ↦ 0
  | true ↦ elim (symbol_at bs e before p) [
    | refusal c q ↦ 0
    | got x q ↦ suc (symbols_read_at bs bound e (suc before) q)
  ]
]

-- those of a book
unfoldable pub symbols_read : List ℕ → ℕ
symbols_read bs = elim (opened bs) [
  | refusal c p ↦ 0
  | got e p ↦ symbols_read_at bs (e - p) e 0 p
]
