-- NOBODY STARVES while there is room: what is promised of all runs of an admitted book and question in the same lent memory, by their fuel. That it
-- is kept is proved in proofs/Starves.antt, and of the code in proofs/OfTheCode.antt. No more is promised: a line of thought that goes round for
-- ever and takes fresh nodes may use up the room before another has its value, and the run is refused then.
use Rattle.std.specs.Prelude.{◌≡◌, ◌⊎◌, ℕ, ◌+◌, ◌≤◌, ◌<◌, length}
use Rattle.expressions.specs.Expressions.{Expr}
use Rattle.book.specs.Rules.{Rules}
use Rattle.machine.specs.Run.{Outcome}
use Rattle.rewriting.specs.Rewriting.{Value}
use Rattle.meaning.specs.Demand3.{flatten, Reachable, answer_at}
use Rattle.fuel.specs.MoreFuel.{records}

-- a record that is read back from the answer bytes has the symbols of v
abbrev pub Written : Value → Outcome → Type 0
Written v o = (i : ℕ) × (i < length (records o)) × ((answer_at (records o) i).symbols ≡ flatten v)

-- the run was refused, and not for want of fuel: with a number from 21 to 25
abbrev pub Refused : Outcome → Type 0
Refused o = (20 < o.result.number) × (o.result.number ≤ 25)

-- of the runs of this book and question, which come to these outcomes by their fuel
pub record NobodyStarves (rules : Rules) (question : Expr) (came : ℕ → Outcome) : Type 0 where
  -- IN TIME: for each value that the question can reach there is a fuel with which, and with any more, it is written, or the run is refused so
  pub in_time : (v : Value) → Reachable rules question v → (F : ℕ) × ((k : ℕ) → Written v (came (F + k)) ⊎ Refused (came (F + k)))
  -- ENDLESS: if no run is refused so, however much fuel it has, then for each such value there is a fuel with which, and with any more, it is written
  pub endless : ((F : ℕ) → ¬ Refused (came F)) → (v : Value) → Reachable rules question v → (F : ℕ) × ((k : ℕ) → Written v (came (F + k)))
