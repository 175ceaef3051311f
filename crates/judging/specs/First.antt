-- The first number for which a test holds: which node is named.
use Rattle.std.specs.Prelude.{Bool, true, false, ℕ, zero, suc}

-- from number i on, of so many; the number behind them if it holds for none
unfoldable pub first_of : (ℕ → Bool) → ℕ → ℕ → ℕ
first_of bad i zero = i
first_of bad i (suc left) = elim (bad i) [ true ↦ i | false ↦ first_of bad (suc i) left ]
