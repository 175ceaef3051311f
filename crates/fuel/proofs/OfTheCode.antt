-- Nobody starves, of the code. The premises about `after` are what the contract of `run::run` ensures of calls with the same book and question, on the same lent
-- memory (nodes, list and answers), with fuel enough. (More fuel, of two calls: crate `promises`, Fuel.antt.)
use mathlib.Core.Path.{◌≡◌, sym, subst}
use mathlib.Core.Logic.{◌⊎◌}
use mathlib.Core.List.{List}
use Prim.Native.Nat.{ℕ, ◌+◌}
use Rattle.limits.specs.declared.Entry.{Entry as LentEntry}
use Rattle.reading.specs.Reading.{got}
use Rattle.expressions.specs.Expressions.{Expr}
use Rattle.book.specs.Rules.{Rules}
use Rattle.book.specs.Admission.{read_book, read_question}
use Rattle.machine.specs.Run.{Memory, Outcome, run}
use Rattle.rewriting.specs.Rewriting.{Value}
use Rattle.meaning.specs.Demand3.{Reachable}
use Rattle.run.specs.declared.whole.Outcome.{Outcome as CodeOutcome}
use Rattle.run.specs.Outcomes.{after}
use Rattle.fuel.specs.NobodyStarves.{Written, Refused}
use Rattle.fuel.proofs.Starves.{nobody_starves}

module _ (book question : List ℕ) (lent : Memory) {rules : Rules} {x : Expr} {p q : ℕ} (admitted : read_book book ≡ got rules p)
    (asked : read_question rules.symbols question ≡ got x q) (v : Value) (reaches : Reachable rules x v) where
  -- it is written, or the call was refused with a number from 21 to 25
  abbrev HeardOf : CodeOutcome → List ℕ → List LentEntry → List ℕ → Type 0
  HeardOf r nodes list answers = Written v (after r nodes list answers) ⊎ Refused (after r nodes list answers)

  -- NOBODY STARVES, of calls: there is a fuel F such that in each call with F or more the value is heard of so. (Fuel that a call can be given
  -- ends at 4,294,967,295; that F is no more than this is not said.)
  pub calls_hear : (F : ℕ) × ((k : ℕ) (r : CodeOutcome) (nodes answers : List ℕ) (list : List LentEntry)
      → after r nodes list answers ≡ run book question (F + k) lent → HeardOf r nodes list answers)
  calls_hear =
      let (F, heard) = (nobody_starves book question lent admitted asked).in_time v reaches in
      (F, λ k r nodes answers list is. subst (λ (o : Outcome). Written v o ⊎ Refused o) (sym is) (heard k))
