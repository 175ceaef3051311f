-- The code keeps what is promised: a corollary of the contract of `run::run` alone, which the kit makes of its `ensures` in the code.
use mathlib.Core.Path.{◌≡◌, sym, subst, ◌∙◌}
use mathlib.Core.Logic.{◌⊎◌, inl, inr}
use mathlib.Core.List.{List}
use Prim.Native.Nat.{ℕ}
use native.Mathlib.Omega.{arith}
use lib.ListN.{take}
use seplogic.Ra.Ura.{Ura}
use prog.Model.{Model}
use prog.Wired.{Wired}
use types.Logic.{Logic}
use contract.Monad.{fact, fact_mono, fm→mono}
use contract.Running.{Running}
use denote.Triple.Clauses.{at_exit, closing}
use denote.Triple.Spec.{Meets}
use denote.Triple.Table.{run_framed}
use denote.Triple.Weaken.{weaken}
use Rattle.reading.specs.Reading.{got}
use Rattle.expressions.specs.Expressions.{Expr}
use Rattle.book.specs.Rules.{Rules}
use Rattle.book.specs.Admission.{read_book, read_question}
use Rattle.machine.specs.Run.{Memory, Outcome, run}
use Rattle.meaning.specs.Demand3.{Untouched, Answered}
use Rattle.meaning.specs.Records.{records_in, answers_in}
use Rattle.meaning.proofs.Demand3.{answered, demand_3}
use Rattle.run.specs.declared.whole.Outcome.{Outcome as CodeOutcome}
use Rattle.run.specs.Outcomes.{after}
use Rattle.run.specs.contracts.run as code
use Rattle.run.proofs.run.Met.{met}
use Rattle.run.proofs.run.Symbol as run-symbol
use Rattle.run.specs.contracts.run_owned as owned
use Rattle.run.proofs.run_owned.Met as owned-so
use Rattle.run.proofs.run_owned.Symbol as owned-symbol
use Rattle.promises.specs.Promises.{Promises}
use Rattle.promises.proofs.Contracts.{Claim, ensuring, lent_to, left_by}

-- what was read is read once
got_same : {A : Type 0} {a b : A} {p q : ℕ} → got a p ≡ got b q → a ≡ b
got_same same = cc

-- what the answers of a run are promised to be, of the records that are read back from the bytes
module _ (book question : List ℕ) (m : Memory) {rules : Rules} {x : Expr} {p q : ℕ} (admitted : read_book book ≡ got rules p)
    (asked : read_question rules.symbols question ≡ got x q) where
  from-answered : {o : Outcome} → Answered book question m o → Promises rules x o.result.number (answers_in o.result.answers o.memory.bytes)
  from-answered {o} had =
      let same-rules : had.rules ≡ rules = got_same (sym had.admitted ∙ admitted) in
      let asked-had : read_question had.rules.symbols question ≡ got x q = rw same-rules asked in
      let same-question : had.expr ≡ x = got_same (sym had.asked ∙ asked-had) in
      let kept : Promises had.rules had.expr o.result.number (answers_in o.result.answers o.memory.bytes) =
      rw had.readable (record { sound = had.sound; complete = had.complete; apart = had.apart; unambiguous = had.unambiguous }) in
      rw (same-rules, same-question) at kept

-- of a result r, memory lent and memory left, from what the contract says of them
module _ (book question : List ℕ) (fuel : ℕ) (lent : Memory) (r : CodeOutcome) (left : Memory)
    (contract : after r left.nodes left.list left.bytes ≡ run book question fuel lent) where
  -- what was handed back
  abbrev back : Outcome
  back = after r left.nodes left.list left.bytes

  -- a run refused before its first turn touched nothing; another one has written its answers
  pub touched_or-answered : Untouched lent back ⊎ Answered book question lent back
  touched_or-answered = subst (λ (o : Outcome). Untouched lent o ⊎ Answered book question lent o) (sym contract) (demand_3 book question fuel lent)

  -- for an admitted book and question, the number and the records in the answer room keep what is promised
  pub promises_kept : {rules : Rules} {x : Expr} {p q : ℕ} → read_book book ≡ got rules p → read_question rules.symbols question ≡ got x q
      → Promises rules x r.number (answers_in r.answers left.bytes)
  unfolding answers_in records_in
  promises_kept {rules} {x} admitted asked = by touched_or-answered
    where
      by : Untouched lent back ⊎ Answered book question lent back → Promises rules x r.number (answers_in r.answers left.bytes)
      by (inl none) = rw none.answers (record {
        sound = λ i lt. absurd (omega (arith, lt));
        complete = λ finished. absurd (omega (arith, none.number));
        apart = λ i j other lt. absurd (omega (arith, lt));
        unambiguous = (from-answered book question lent admitted asked (answered book question admitted asked fuel lent)).unambiguous;
      })
      by (inr had) = from-answered book question lent admitted asked had

-- what is promised of a call of `run` whose book and question are admitted
abbrev pub Promised : Claim code.ended
Promised κs a z e = (rules : Rules) (x : Expr) (p q : ℕ) → read_book a.0.now ≡ got rules p → read_question rules.symbols a.1.0.now ≡ got x q
    → Promises rules x z.number (answers_in z.answers (left_by κs e).bytes)

-- DEMAND 3, of the code: the routine `run` meets the contract that ensures what is promised, since it meets its own
pub run-keeps : {M : Type 1} {𝓤 : Ura M} (𝓛 : Logic 𝓤) (𝓜 : Model 𝓤 𝓛.H) (𝓡 : Running 𝓤 𝓛.H 𝓜)
    → Wired 𝓡.env run-symbol.code → Meets 𝓛 code.signature (𝓡.run (𝓡.env run-symbol.name))
    (closing 𝓛 code.ended (ensuring code.ended Promised M 𝓤 𝓛 𝓜.mem 𝓡.returns))
run-keeps {𝓤 = 𝓤} 𝓛 𝓜 𝓡 wired =
    weaken 𝓛 code.ended (code.clauses 𝓛 𝓜.mem 𝓡.returns) (λ κs a g z e. fact 𝓤 (Promised κs a z e))
    (λ κs a g z ws. fact_mono 𝓤 _ (Promised κs a z (at_exit code.ended κs a ws)) (λ contract rules x p q.
    promises_kept a.0.now a.1.0.now a.1.1.1.1.1.0 (lent_to κs a) z (left_by κs (at_exit code.ended κs a ws)) contract))
    (𝓡.run (𝓡.env run-symbol.name)) (λ vs. fm→mono 𝓤 (𝓡.run (𝓡.env run-symbol.name) vs) (run_framed 𝓤 𝓛.H 𝓜 𝓡 (𝓡.env run-symbol.name) vs)) (met 𝓤 𝓛 𝓜 𝓡 wired)

-- what is promised of a call of `run_owned`, whose list is given and handed back by value: the same
abbrev pub PromisedOwned : Claim owned.ended
PromisedOwned κs a z e = (rules : Rules) (x : Expr) (p q : ℕ) → read_book a.0.now ≡ got rules p → read_question rules.symbols a.1.0.now ≡ got x q
    → Promises rules x z.outcome.number (answers_in z.outcome.answers e.1.1.1.1.1.0.now)

-- DEMAND 3, of the function that the programs call
pub run_owned_keeps : {M : Type 1} {𝓤 : Ura M} (𝓛 : Logic 𝓤) (𝓜 : Model 𝓤 𝓛.H) (𝓡 : Running 𝓤 𝓛.H 𝓜)
    → Wired 𝓡.env owned-symbol.code → Meets 𝓛 owned.signature (𝓡.run (𝓡.env owned-symbol.name))
    (closing 𝓛 owned.ended (ensuring owned.ended PromisedOwned M 𝓤 𝓛 𝓜.mem 𝓡.returns))
run_owned_keeps {𝓤 = 𝓤} 𝓛 𝓜 𝓡 wired =
    weaken 𝓛 owned.ended (owned.clauses 𝓛 𝓜.mem 𝓡.returns) (λ κs a g z e. fact 𝓤 (PromisedOwned κs a z e))
    (λ κs a g z ws. fact_mono 𝓤 _ (PromisedOwned κs a z (at_exit owned.ended κs a ws)) (λ contract rules x p q.
    let e = at_exit owned.ended κs a ws in
    let places = a.1.1.1.1.0 in
    let lent : Memory = record { nodes = a.1.1.0.now; list = take places a.1.1.1.0; bytes = a.1.1.1.1.1.0.now } in
    let left : Memory = record { nodes = e.1.1.0.now; list = take places z.list; bytes = e.1.1.1.1.1.0.now } in
    promises_kept a.0.now a.1.0.now a.1.1.1.1.1.1.0 lent z.outcome left contract.0))
    (𝓡.run (𝓡.env owned-symbol.name)) (λ vs. fm→mono 𝓤 (𝓡.run (𝓡.env owned-symbol.name) vs) (run_framed 𝓤 𝓛.H 𝓜 𝓡 (𝓡.env owned-symbol.name) vs)) (owned-so.met 𝓤 𝓛 𝓜 𝓡 wired)
