use mathlib.Core.Path.{ap, ◌∙◌}
use Prim.Native.Nat.{ℕ, ◌≤◌}
use native.Mathlib.Omega.{arith}
use lib.ListN.{length, get_or}
use Rattle.tagged.specs.Levels.{longest}
use Rattle.circles.proofs.SavingRows.{broader-at, end_low, end_in, term-low}
use Rattle.circles.proofs.RoundWays.{longest-more, longest-none}
use Rattle.circles.proofs.circle.Rows.longest_of.Goals as goal

pub loop-i-init : goal.loop-i-init
loop-i-init c =
    let a = c.args in
    let whole = broader-at a.self.from.now a.self.to.now a.self.n a.self.holding a.x c.requires.0 in
    rw (c.place-start.ensures, c.place-until.ensures) (ap (longest a.row.now) whole ∙ omega arith)

pub term-b-requires : goal.term-b-requires
term-b-requires c =
    let a = c.args in
    omega (arith, end_low a.self.from.now a.self.to.now a.self.n a.self.holding a.x c.requires.0, c.place-until.ensures)

pub offset_bounds-row-b : goal.offset_bounds-row-b
offset_bounds-row-b c =
    let a = c.args in
    let until = c.place-until.ensures in
    let low = term-low a.self.from.now a.self.to.now a.self.n a.self.holding a.x c.loop-i.i c.requires.0 (omega arith) in
    omega (arith, c.term-b.ensures, c.args.self.holding.terms.few)

pub bounds-row-b : goal.bounds-row-b
bounds-row-b c =
    let a = c.args in
    let until = c.place-until.ensures in
    let low = term-low a.self.from.now a.self.to.now a.self.n a.self.holding a.x c.loop-i.i c.requires.0 (omega arith) in
    omega (arith, c.term-b.ensures, c.args.self.holding.terms.few)

pub overflow_add-row : goal.overflow_add-row
overflow_add-row c =
    omega (arith, c.requires.1 c.term-b.result)

pub loop-i-preserved : goal.loop-i-preserved
loop-i-preserved c =
    let a = c.args in
    let loop = c.loop-i in
    let until = c.place-until in
    let end = end_in a.self.from.now a.self.to.now a.self.n a.self.holding a.x c.requires.0 in
    let within : until.result ≤ length a.self.to.now = omega (arith, until.ensures) in
    let more = longest-more a.row.now a.self.to.now loop.i until.result (omega arith) within in
    let term = c.term-b.ensures in
    omega (arith, loop.invariant, c.max-best.ensures, ap (λ (b : ℕ). get_or a.row.now b 0) term)

pub returns : goal.returns
returns c =
    let a = c.args in
    let none = longest-none a.row.now a.self.to.now c.loop-i.i c.place-until.result (omega arith) in
    omega (arith, c.loop-i.invariant)
