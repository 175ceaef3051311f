-- Request L11 of calls: of two calls of `run` with the same book and question, the second with more fuel, on the same lent memory or on another of the same size.
-- Corollaries of the contract of `run::run` alone, which the kit makes of its `ensures` in the code.
use mathlib.Core.Path.{◌≡◌, refl, subst, sym, ◌∙◌}
use Prim.Native.Nat.{ℕ, ◌+◌}
use seplogic.Ra.Ura.{Ura}
use base.Logic.{SProp, ent}
use prog.Memory.{Memory}
use prog.Routine.{Routine}
use types.Logic.{Logic}
use contract.Lifetimes.{Lfts}
use contract.Monad.{Fun, conj, conj_l, conj_r, fact, fact_i, fact_use}
use denote.Triple.Clauses.{AtExit}
use denote.Triple.Entry.{Args, Res}
use Rattle.machine.specs.Run as Run
use Rattle.machine.specs.Run.{Memory as LentMemory}
use Rattle.run.specs.declared.whole.Outcome.{Outcome as CodeOutcome}
use Rattle.run.specs.Outcomes.{after}
use Rattle.run.specs.contracts.run
use Rattle.fuel.specs.MoreFuel.{MoreFuel}
use Rattle.fuel.specs.OtherMemory.{SameRoom, MoreElsewhere}
use Rattle.fuel.proofs.Kept.{more-fuel}
use Rattle.fuel.proofs.OtherMemory.{more_elsewhere}
use Rattle.promises.proofs.Contracts.{lent_to, left_by}

-- the second call has k turns more of fuel, and all else is the same
pub record MoreGiven (κs : Lfts (run.signature).lifetimes) (k : ℕ) (a a' : Args run.signature κs) : Type 0 where
  pub book : a.0.now ≡ a'.0.now
  pub question : a.1.0.now ≡ a'.1.0.now
  pub fuel : a'.1.1.1.1.1.0 ≡ a.1.1.1.1.1.0 + k
  pub lent : lent_to κs a ≡ lent_to κs a'

-- what is handed back, and the memory left
abbrev after_run : CodeOutcome → LentMemory → Run.Outcome
after_run z m = after z m.nodes m.list m.bytes

-- what the contract ensures of both gives what is promised of more fuel
pub more-fuel-calls : {M : Type 1} {𝓤 : Ura M} (𝓛 : Logic 𝓤) (mem : Memory → SProp 𝓤) (go : Routine → Fun 𝓤) (κs : Lfts (run.signature).lifetimes) (k : ℕ)
    (a a' : Args run.signature κs) → MoreGiven κs k a a' → (z z' : Res run.signature κs) (e e' : AtExit run.ended κs)
    → ent 𝓤 (conj 𝓤 ((run.clauses 𝓛 mem go κs a).ensures tt z e) ((run.clauses 𝓛 mem go κs a').ensures tt z' e'))
    (fact 𝓤 (MoreFuel k (after_run z (left_by κs e)) (after_run z' (left_by κs e'))))
more-fuel-calls {𝓤 = 𝓤} 𝓛 mem go κs k a a' given z z' e e' =
    let fuel = a.1.1.1.1.1.0 in
    let one : Type 0 = after_run z (left_by κs e) ≡ Run.run a.0.now a.1.0.now fuel (lent_to κs a) in
    let other : Type 0 = after_run z' (left_by κs e') ≡ Run.run a'.0.now a'.1.0.now a'.1.1.1.1.1.0 (lent_to κs a') in
    let claim : Type 0 = MoreFuel k (after_run z (left_by κs e)) (after_run z' (left_by κs e')) in
    let same : Run.run a'.0.now a'.1.0.now a'.1.1.1.1.1.0 (lent_to κs a') ≡ Run.run a.0.now a.1.0.now (fuel + k) (lent_to κs a) =
    rw (given.book, given.question, given.fuel, given.lent) refl in
    fact_use 𝓤 one (conj_l 𝓤 (fact 𝓤 one) (fact 𝓤 other)) (λ c. fact_use 𝓤 other (conj_r 𝓤 (fact 𝓤 one) (fact 𝓤 other))
    (λ c'. fact_i 𝓤 claim (conj 𝓤 (fact 𝓤 one) (fact 𝓤 other))
    (subst (λ (o : Run.Outcome). MoreFuel k o (after_run z' (left_by κs e'))) (sym c)
    (subst (MoreFuel k (Run.run a.0.now a.1.0.now fuel (lent_to κs a))) (sym (c' ∙ same)) (more-fuel a.0.now a.1.0.now (lent_to κs a) fuel k)))))

-- the second call has k turns more of fuel, and memory of the same size
pub record MoreElsewhereGiven (κs : Lfts (run.signature).lifetimes) (k : ℕ) (a a' : Args run.signature κs) : Type 0 where
  pub book : a.0.now ≡ a'.0.now
  pub question : a.1.0.now ≡ a'.1.0.now
  pub fuel : a'.1.1.1.1.1.0 ≡ a.1.1.1.1.1.0 + k
  pub room : SameRoom (lent_to κs a) (lent_to κs a')

pub more_elsewhere_calls : {M : Type 1} {𝓤 : Ura M} (𝓛 : Logic 𝓤) (mem : Memory → SProp 𝓤) (go : Routine → Fun 𝓤) (κs : Lfts (run.signature).lifetimes) (k : ℕ)
    (a a' : Args run.signature κs) → MoreElsewhereGiven κs k a a' → (z z' : Res run.signature κs) (e e' : AtExit run.ended κs)
    → ent 𝓤 (conj 𝓤 ((run.clauses 𝓛 mem go κs a).ensures tt z e) ((run.clauses 𝓛 mem go κs a').ensures tt z' e'))
    (fact 𝓤 (MoreElsewhere (after_run z (left_by κs e)) (after_run z' (left_by κs e'))))
more_elsewhere_calls {𝓤 = 𝓤} 𝓛 mem go κs k a a' given z z' e e' =
    let fuel = a.1.1.1.1.1.0 in
    let one : Type 0 = after_run z (left_by κs e) ≡ Run.run a.0.now a.1.0.now fuel (lent_to κs a) in
    let other : Type 0 = after_run z' (left_by κs e') ≡ Run.run a'.0.now a'.1.0.now a'.1.1.1.1.1.0 (lent_to κs a') in
    let claim : Type 0 = MoreElsewhere (after_run z (left_by κs e)) (after_run z' (left_by κs e')) in
    let same : Run.run a'.0.now a'.1.0.now a'.1.1.1.1.1.0 (lent_to κs a') ≡ Run.run a.0.now a.1.0.now (fuel + k) (lent_to κs a') =
    rw (given.book, given.question, given.fuel) refl in
    fact_use 𝓤 one (conj_l 𝓤 (fact 𝓤 one) (fact 𝓤 other)) (λ c. fact_use 𝓤 other (conj_r 𝓤 (fact 𝓤 one) (fact 𝓤 other))
    (λ c'. fact_i 𝓤 claim (conj 𝓤 (fact 𝓤 one) (fact 𝓤 other))
    (subst (λ (o : Run.Outcome). MoreElsewhere o (after_run z' (left_by κs e'))) (sym c)
    (subst (MoreElsewhere (Run.run a.0.now a.1.0.now fuel (lent_to κs a))) (sym (c' ∙ same))
    (more_elsewhere a.0.now a.1.0.now fuel k (lent_to κs a) (lent_to κs a') given.room)))))
