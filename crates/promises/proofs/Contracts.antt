-- The contracts that the kit makes of the code's own `ensures`, as theorems speak of them: whoever changes an `ensures` changes what is shown here.
use seplogic.Ra.Ura.{Ura}
use base.Logic.{SProp, emp, sep}
use prog.Memory.{Memory}
use prog.Routine.{Routine}
use types.Logic.{Logic}
use contract.Lifetimes.{Lfts}
use contract.Monad.{Fun, fact}
use denote.Triple.Clauses.{Ended, Clauses, AtExit}
use denote.Triple.Entry.{Args, Res}
use Rattle.machine.specs.Run.{Memory as LentMemory}
use Rattle.run.specs.contracts.run

-- the contract of a function that has the lifetimes, parameters and result of T: at every model of the kit's logic
abbrev pub Contract : Ended → Type 2
Contract T = (M : Type 1) (𝓤 : Ura M) (𝓛 : Logic 𝓤) → (Memory → SProp 𝓤) → (Routine → Fun 𝓤) → Clauses 𝓤 T

module _ (T : Ended) where
  -- a plain claim of a call with the arguments a: of its result z, and of its parameters at exit, e
  abbrev pub Claim : Type 1
  Claim = (κs : Lfts T.signature.lifetimes) (a : Args T.signature κs) (z : Res T.signature κs) (e : AtExit T κs) → Type 0

  -- the contract that asks for nothing and ensures the claim
  abbrev pub ensuring : Claim → Contract T
  ensuring claim M 𝓤 𝓛 mem run κs a = record { ghost = Unit {0}; requires = λ g. emp 𝓤; ensures = λ g z e. fact 𝓤 (claim κs a z e) }

  -- the same of two claims, a clause for each
  abbrev pub ensuring_both : Claim → Claim → Contract T
  ensuring_both first second M 𝓤 𝓛 mem run κs a =
      record { ghost = Unit {0}; requires = λ g. emp 𝓤; ensures = λ g z e. sep 𝓤 (fact 𝓤 (first κs a z e)) (fact 𝓤 (second κs a z e)) }

-- a call of `run`: lent memory before it, and as it leaves it
module _ (κs : Lfts (run.signature).lifetimes) where
  abbrev pub lent_to : Args run.signature κs → LentMemory
  lent_to a = record { nodes = a.1.1.0.now; list = a.1.1.1.0.now; bytes = a.1.1.1.1.0.now }

  abbrev pub left_by : AtExit run.ended κs → LentMemory
  left_by e = record { nodes = e.1.1.0.now; list = e.1.1.1.0.now; bytes = e.1.1.1.1.0.now }
