-- Counting the symbols that are read whole, one lemma for each way through the code.
use mathlib.Core.List.{List}
use mathlib.Core.Path.{◌≡◌, ◌∙◌}
use Prim.Native.Nat.{ℕ, zero, suc, ◌+◌, ◌-◌, ◌<◌, ◌≤◌}
use native.Mathlib.Nat.{add-zero, add-suc, suc-add, zero-add}
use native.Mathlib.Numerals.{add-one}
use native.Mathlib.Omega.{arith}
use borrow.Author.Tests.{lt-ltb, le-ltb}
use Rattle.reading.specs.Reading.{got, refusal}
use Rattle.reading.specs.Answer.{keeping, nothing}
use Rattle.reading.proofs.Keeping.{kept-refusal}
use Rattle.symbols.specs.Symbols.{Symbol}
use Rattle.symbols.specs.SymbolPart.{symbol_at, opened}
use Rattle.symbols.specs.SymbolsRead.{symbols_read_at, symbols_read}
use Rattle.symbols.proofs.Parts.{SymbolRead}

-- what the code has to give for symbols from p on, whatever the bound, if it is enough
abbrev pub SymbolsCounted : List ℕ → ℕ → ℕ → ℕ → ℕ → Type 0
SymbolsCounted bs e before p r = (bound : ℕ) → e - p ≤ bound → r ≡ before + symbols_read_at bs bound e before p

module _ (bs : List ℕ) (e before p : ℕ) where
  -- the part is at its end
  pub count-ended : e ≤ p → SymbolsCounted bs e before p before
  unfolding symbols_read_at
  count-ended h zero enough = simp add-zero
  count-ended h (suc bound) enough = simp (symbols_read_at, le-ltb p e, add-zero)

  -- the next symbol is refused
  pub count-refused : {c q : ℕ} → p < e → refusal c q ≡ keeping nothing (symbol_at bs e before p) → SymbolsCounted bs e before p before
  unfolding symbols_read_at
  count-refused h told zero enough = absurd (omega arith)
  count-refused h told (suc bound) enough = simp (symbols_read_at, lt-ltb p e, kept-refusal nothing _ told, add-zero)

  -- the next symbol is there, and then the rest
  pub count-more : {r q : ℕ} {x : Symbol} → p < e → symbol_at bs e before p ≡ got x q → SymbolRead bs e before p x q
      → SymbolsCounted bs e (before + 1) q r → SymbolsCounted bs e before p r
  unfolding symbols_read_at
  count-more h one read rest zero enough = absurd (omega arith)
  count-more h one read rest (suc bound) enough =
      rest bound (omega arith) ∙ simp (symbols_read_at, lt-ltb p e, one, add-one, suc-add, add-suc)

-- ---- the whole part

module _ (bs : List ℕ) where
  -- the part is not opened
  pub unopened_counted : {c q : ℕ} → refusal c q ≡ opened bs → 0 ≡ symbols_read bs
  unfolding symbols_read
  unopened_counted start = simp (symbols_read, ← start)

  -- its symbols are counted
  pub opened-counted : {e q r : ℕ} → got e q ≡ opened bs → SymbolsCounted bs e 0 q r → r ≡ symbols_read bs
  unfolding symbols_read
  opened-counted {e} {q} start counted = counted (e - q) (omega arith) ∙ simp (symbols_read, ← start, zero-add)
