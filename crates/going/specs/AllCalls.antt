-- DEMAND 3 "over the records of all its calls joined" (request L12).
use Rattle.std.specs.Prelude.{◌≡◌, ◌≢◌, List, [], ◌++◌, ℕ, ◌<◌, length}
use Rattle.expressions.specs.Expressions.{Expr}
use Rattle.book.specs.Rules.{Rules, Book}
use Rattle.machine.specs.Answers.{Answer}
use Rattle.machine.specs.Turn.{Rooms, State, turns, loaded}
use Rattle.rewriting.specs.Rewriting.{Value}
use Rattle.meaning.specs.Demand3.{flatten, Reachable, Apart, answer_at}
use Rattle.accepted.specs.LeftIn.{afresh}

-- The calls of one run with one book: the state that the last of them left, and the answers of all. Each had its own fuel and its own rooms, and any may
-- have been refused, with 20 or another number: what it left is what the next went on from.
pub data Calls (B : Book) (q : Expr) : List Answer → State → Type 0 where
  begun : Calls B q [] (loaded q)
  called : {all : List Answer} {s : State} → Calls B q all s → (room : Rooms) (fuel : ℕ)
      → Calls B q (all ++ (turns B room fuel (afresh s)).state.answers) (turns B room fuel (afresh s)).state

-- what is promised of all answers; nothing waits once a call ended with 0
pub record AllAnswered (rules : Rules) (q : Expr) (all : List Answer) (s : State) : Type 0 where
  pub sound : (i : ℕ) → i < length all → (v : Value) × ((answer_at all i).symbols ≡ flatten v) × Reachable rules q v
  pub complete : s.waiting ≡ [] → (v : Value) → Reachable rules q v → (i : ℕ) × (i < length all) × ((answer_at all i).symbols ≡ flatten v)
  pub apart : (i j : ℕ) → i ≢ j → i < length all → j < length all → Apart (answer_at all i).decisions (answer_at all j).decisions
