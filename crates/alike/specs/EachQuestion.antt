-- DEMAND 3 for each question of a shared run: its answers are values that the question can reach, all of them if the run ends as finished, and any two
-- of its answers rest on some choice that is decided left in one and right in the other.
use Rattle.std.specs.Prelude.{◌≡◌, ◌≢◌, List, [], ℕ, ◌<◌, length, get_or}
use Rattle.expressions.specs.Expressions.{Expr}
use Rattle.book.specs.Rules.{Book}
use Rattle.rewriting.specs.Rewriting.{Value, Reaches}
use Rattle.meaning.specs.Demand3.{flatten, question, root_of, Apart}
use Rattle.alike.specs.Asked.{Answer}
use Rattle.alike.specs.Turning as Later
use Rattle.alike.specs.Alone.{answers_to}

-- the answer at a place
abbrev pub answer_at : List Answer → ℕ → Answer
answer_at answers i = get_or answers i (record { question = 0; symbols = []; decisions = [] })

pub record EachQuestion (B : Book) (x : Expr) (q : ℕ) (r : Later.Ended) : Type 0 where
  pub sound : (i : ℕ) → i < length (answers_to q r.state.answers)
      → (v : Value) × ((answer_at (answers_to q r.state.answers) i).symbols ≡ flatten v) × Reaches B (question x) (root_of x) v
  pub complete : r.number ≡ 0 → (v : Value) → Reaches B (question x) (root_of x) v
      → (i : ℕ) × (i < length (answers_to q r.state.answers)) × ((answer_at (answers_to q r.state.answers) i).symbols ≡ flatten v)
  pub apart : (i j : ℕ) → i ≢ j → i < length (answers_to q r.state.answers) → j < length (answers_to q r.state.answers)
      → Apart (answer_at (answers_to q r.state.answers) i).decisions (answer_at (answers_to q r.state.answers) j).decisions
