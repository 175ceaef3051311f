-- `binds_past` meets its contract: what the constructors still to come say, all of them say.
use mathlib.Core.Path.{sym, ap, ◌∙◌}
use Prim.Native.Nat.{◌+◌}
use native.Mathlib.Omega.{arith}
use lib.ListN.{length}
use Rattle.book.specs.TreeAt.{binds_past}
use Rattle.book.proofs.Constructors.{Arrives, chain_first, chain_next, past_end, past-here, past-later}
use Rattle.book.proofs.trees.binds_past.Goals as goal
use Rattle.book.proofs.trees.binds_past.Goals.{After-next_of-f}

pub loop-f-init : goal.loop-f-init
loop-f-init c =
    let a = c.args in
    let to = rw (sym c.first_of-f.ensures) at (chain_first a.table.book.now a.table.at.now a.sort c.args.table.tabled.chained (omega arith)) in
    (to.on, ap (binds_past a.path.bound) to.same)

pub returns-then-path-arguments_of-gt-VARIABLES : goal.returns-then-path-arguments_of-gt-VARIABLES
returns-then-path-arguments_of-gt-VARIABLES c =
    let l = c.loop-f in
    let a = c.args in
    sym (past-here a.table.book.now a.table.at.now a.path.bound a.sort l.f c.loop-f-test.true l.invariant.0 (omega (arith, ap length c.arguments_of.ensures.0))) ∙ l.invariant.1

-- the chain goes on
goes_on : (c : After-next_of-f)
    → let l = c.loop-f in
    let a = c.args in
    Arrives a.table.book.now a.table.at.now a.sort (l.f + 1) c.next_of-f.result
goes_on c =
    let l = c.loop-f in
    let a = c.args in
    rw c.next_of-f.ensures (chain_next a.table.book.now a.table.at.now a.sort c.args.table.tabled.chained l.f c.loop-f-test.true l.invariant.0)

pub loop-f-smaller : goal.loop-f-smaller
loop-f-smaller c = omega (arith, (goes_on c).onward)

pub loop-f-preserved : goal.loop-f-preserved
loop-f-preserved c =
    let l = c.loop-f in
    let a = c.args in
    let passed = past-later a.table.book.now a.table.at.now a.path.bound a.sort l.f c.loop-f-test.true l.invariant.0 (omega (arith, ap length c.arguments_of.ensures.0)) in
    ((goes_on c).on, ap (binds_past a.path.bound) (goes_on c).same ∙ sym passed ∙ l.invariant.1)

pub returns : goal.returns
returns c =
    let l = c.loop-f in
    let a = c.args in
    sym (past_end a.table.book.now a.table.at.now a.path.bound a.sort l.f c.loop-f-test.false) ∙ l.invariant.1
