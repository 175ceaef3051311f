-- What is accepted (request L12), and that the check accepts exactly that.
use Rattle.std.specs.Prelude.{true, ◌≡◌, ◌↔◌, ℕ, ◌+◌, ◌*◌, ◌≤◌, ◌<◌, get_or}
use Rattle.limits.specs.Sizes.{most_choices, most_fuel}
use Rattle.limits.specs.Decisions.{is_set}
use Rattle.limits.specs.Lent.{lent_vacant}
use Rattle.limits.specs.declared.Entry.{Entry as LentEntry}
use Rattle.reading.specs.Reading.{got}
use Rattle.symbols.specs.Symbols.{Symbols}
use Rattle.nodes.specs.Numbers.{kind_in}
use Rattle.machine.specs.Run.{Memory, Result, rooms_of}
use Rattle.accepted.specs.Accepted.{AcceptedState}
use Rattle.accepted.specs.Read.{state_in}
use Rattle.accepted.specs.GoOn.{judge}

-- "each open, left or right": no choice is both
abbrev pub OneSided : LentEntry → Type 0
OneSided x = (i : ℕ) → i < most_choices → is_set x.words (2 * i) ≡ true → is_set x.words (2 * i + 1) ≡ true → ⊥

-- the numbers and entries mean a state, and it is accepted
pub record AcceptedMemory (S : Symbols) (last : Result) (fuel : ℕ) (m : Memory) : Type 0 where
  -- "A sum of turns and fuel past 32 bits is 30."
  pub summed : last.turns + fuel ≤ most_fuel
  -- "the counts fit the room": of the list, as far as it is there
  pub listed : last.waiting ≤ (rooms_of m).places
  -- "kinds .. are known"
  pub kinds : (n : ℕ) → n < last.nodes → kind_in m.nodes n ≤ 3
  pub sides : (i : ℕ) → i < last.waiting → OneSided (get_or m.list i lent_vacant)
  pub accepted : AcceptedState S (rooms_of m) last.answers (state_in S last m)

-- "It accepts exactly those states"
abbrev pub Exact : Symbols → Result → ℕ → Memory → Type 0
Exact S last fuel m = AcceptedMemory S last fuel m ↔ (judge S last fuel m ≡ got (state_in S last m) 0)
