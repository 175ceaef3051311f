-- `has_unfit` meets its contract: what is left to look at is what there was at first.
use mathlib.Core.Bool.{true, false}
use mathlib.Core.List.{List}
use mathlib.Core.Path.{◌≡◌, refl, sym, ap, subst, ◌∙◌}
use Prim.Native.Nat.{ℕ, ◌<◌}
use native.Mathlib.Omega.{arith}
use lib.ListN.{length, get_or}
use Rattle.nodes.specs.Numbers.{arrow_in}
use Rattle.rewriting.specs.Lists.{firsts}
use Rattle.rewriting.proofs.Lists.{length-firsts, get_or_firsts}
use Rattle.judging.specs.declared.said.Said.{Said}
use Rattle.judging.specs.Sorts.{unfit, some_unfit}
use Rattle.judging.proofs.Unfit.{unfit-none-left, unfit-step-none, unfit-step-some}
use Rattle.judging.proofs.lent.Judged.has_unfit.Goals as goal

pub returns-then-is_unfit : goal.returns-then-is_unfit
returns-then-is_unfit c = let a = c.args in
    let l = c.loop-j in
    let met = a.met.now in
    let ss = c.arguments_of-s-items.result.now in
    let xs = firsts (length ss) (arrow_in a.self.nodes.now a.n) in
    let inside : l.j < length ss = omega arith in
    let x = c.arrow_at in
    let arrow = get_or_firsts (length ss) (arrow_in a.self.nodes.now a.n) l.j 0 inside ∙ sym x.ensures in
    let bad = ap (λ (v : Said). unfit v (get_or ss l.j 0)) (sym c.said_of.ensures) ∙ sym c.is_unfit.ensures
    ∙ c.if-is_unfit.true in
    subst (λ (s : List ℕ). true ≡ some_unfit met (firsts (length s) (arrow_in a.self.nodes.now a.n)) s)
    c.arguments_of-s-items.ensures.0
    (sym (l.invariant ∙ unfit-step-some met xs ss l.j x.result (get_or ss l.j 0)
    (omega (arith, length-firsts (length ss) (arrow_in a.self.nodes.now a.n))) inside arrow refl bad))

pub loop-j-preserved : goal.loop-j-preserved
loop-j-preserved c = let a = c.args in
    let l = c.loop-j in
    let met = a.met.now in
    let ss = c.arguments_of-s-items.result.now in
    let xs = firsts (length ss) (arrow_in a.self.nodes.now a.n) in
    let inside : l.j < length ss = omega arith in
    let x = c.arrow_at in
    let arrow = get_or_firsts (length ss) (arrow_in a.self.nodes.now a.n) l.j 0 inside ∙ sym x.ensures in
    let fine = ap (λ (v : Said). unfit v (get_or ss l.j 0)) (sym c.said_of.ensures) ∙ sym c.is_unfit.ensures
    ∙ c.if-is_unfit.false in
    l.invariant ∙ unfit-step-none met xs ss l.j x.result (get_or ss l.j 0)
    (omega (arith, length-firsts (length ss) (arrow_in a.self.nodes.now a.n))) inside arrow refl fine

pub returns : goal.returns
returns c = let a = c.args in
    let l = c.loop-j in
    let met = a.met.now in
    let ss = c.arguments_of-s-items.result.now in
    subst (λ (s : List ℕ). false ≡ some_unfit met (firsts (length s) (arrow_in a.self.nodes.now a.n)) s) c.arguments_of-s-items.ensures.0
    (sym (l.invariant ∙ unfit-none-left met (firsts (length ss) (arrow_in a.self.nodes.now a.n)) ss l.j (omega arith)))
