-- Request L9 of the code that converts: what is promised of the numbers that it hands back and of the room lent after it.
use Rattle.std.specs.Prelude.{List, ◌≡◌, ℕ, take, drop}
use Rattle.converter.specs.Convert.{Outcome}
use Rattle.converter.specs.Same.{Replaces}

-- of a conversion of this book into this room
pub record Converts (book room : List ℕ) (o : Outcome) : Type 0 where
  -- "writes any admitted version 1 book as version 2 with a fail rule in each such spot"; "both give the same results, answers and nodes"
  pub replaces : o.number ≡ 0 → Replaces book (take o.bytes o.room)
  -- "nothing written" on a refusal
  pub untouched : (o.number ≡ 0 → ⊥) → o.room ≡ room
  pub behind : drop o.bytes o.room ≡ drop o.bytes room
