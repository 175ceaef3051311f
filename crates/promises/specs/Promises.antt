-- DEMAND 3 of the code that runs: what is promised of the number that it returns and of the records in the answer room after it.
use Rattle.std.specs.Prelude.{◌≡◌, ◌≢◌, List, ℕ, ◌<◌, length}
use Rattle.expressions.specs.Expressions.{Expr}
use Rattle.book.specs.Rules.{Rules}
use Rattle.machine.specs.Answers.{Answer}
use Rattle.rewriting.specs.Rewriting.{Value}
use Rattle.meaning.specs.Demand3.{flatten, Reachable, Apart, answer_at}

-- of a run of an admitted book and question, with this number and these records
pub record Promises (rules : Rules) (question : Expr) (number : ℕ) (records : List Answer) : Type 0 where
  -- SOUND: "each answer written, even before a refusal, is a value that the question can reach by rewriting"
  pub sound : (i : ℕ) → i < length records → (v : Value) × ((answer_at records i).symbols ≡ flatten v) × Reachable rules question v
  -- COMPLETE: "a run that ends as finished has written every such value"
  pub complete : number ≡ 0 → (v : Value) → Reachable rules question v → (i : ℕ) × (i < length records) × ((answer_at records i).symbols ≡ flatten v)
  -- APART: "any two answers rest on some choice decided left in one and right in the other"
  pub apart : (i j : ℕ) → i ≢ j → i < length records → j < length records → Apart (answer_at records i).decisions (answer_at records j).decisions
  -- the symbols of a record say which value is meant
  pub unambiguous : (v w : Value) → Reachable rules question v → Reachable rules question w → flatten v ≡ flatten w → v ≡ w
