-- `first_bad` meets its contract: no node before the one looked at is bad.
use mathlib.Core.Path.{◌≡◌, sym, ◌∙◌}
use native.Mathlib.Omega.{arith}
use Rattle.std.specs.Prelude.{IfSome}
use Rattle.limits.specs.Sizes.{most_nodes}
use Rattle.accepted.specs.Faults.{bad_node}
use Rattle.judging.specs.Judged.{symbols_of, heap_of}
use Rattle.judging.specs.Ranks.{Falling}
use Rattle.judging.proofs.Meeting.{nothing_said}
use Rattle.judging.proofs.Firsts.{first-all, first-here, first_on, first-none}
use Rattle.judging.proofs.lent.Judged.first_bad.Goals as goal
use Rattle.judging.proofs.lent.Judged.first_bad.Goals.{then-none_rises, else-none_rises}

pub mark_met-requires : goal.mark_met-requires
mark_met-requires c = (c.args.self.few, λ n. nothing_said most_nodes n)

pub loop-n-init : goal.loop-n-init
loop-n-init c =
    let j = c.args.self in
    let falls : IfSome c.if-none_rises.ranks (λ r. Falling (heap_of j) r.now) = elim c.if-none_rises.branch [
      | then-none_rises w ↦ rw w.ranks-is (c.none_rises.ensures w.if-none_rises.true)
      | else-none_rises w ↦ rw w.ranks-is tt
    ] in
    (first-all _ j.used, c.mark_met.ensures, falls)

pub returns-then-is_bad-clause-found : goal.returns-then-is_bad-clause-found
returns-then-is_bad-clause-found c =
    let j = c.args.self in
    let l = c.loop-n in
    let bad = bad_node (symbols_of j) c.args.choices j.nodes.now (heap_of j) in
    sym (l.invariant.0 ∙ first-here bad j.used l.n c.loop-n-test.true (sym c.is_bad.ensures ∙ c.if-is_bad.true))

pub loop-n-preserved : goal.loop-n-preserved
loop-n-preserved c =
    let j = c.args.self in
    let l = c.loop-n in
    let bad = bad_node (symbols_of j) c.args.choices j.nodes.now (heap_of j) in
    let i = l.invariant in
    (i.0 ∙ first_on bad j.used l.n c.loop-n-test.true (sym c.is_bad.ensures ∙ c.if-is_bad.false), i.1, i.2)

pub returns-clause-found : goal.returns-clause-found
returns-clause-found c =
    let j = c.args.self in
    let l = c.loop-n in
    let all : l.n ≡ j.used = omega arith in
    sym (l.invariant.0 ∙ first-none (bad_node (symbols_of j) c.args.choices j.nodes.now (heap_of j)) j.used l.n c.loop-n-test.false ∙ all)
