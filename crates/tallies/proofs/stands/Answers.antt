-- `stands` meets its contract: with i places left f is looked for among those before them.
use Rattle.std.proofs.Common.{◌≡◌, ℕ, ◌-◌, ◌*◌, sym, ap, ◌∙◌, arith}
use Rattle.book.specs.TreeAt.{is_in}
use Rattle.tallies.specs.Tallied.{symbols_at}
use Rattle.tallies.proofs.Taking.{found-last, found_before}
use Rattle.tallies.proofs.stands.Goals as goal

pub returns-then-number-f : goal.returns-then-number-f
returns-then-number-f c =
    let loop = c.loop-i in
    let a = c.args in
    sym (loop.invariant ∙ found-last a.symbols.now loop.i (loop.i - 1) 0 (2 * c.from.result) (omega arith) (omega (arith, c.from.ensures)) (sym c.number.ensures.0 ∙ c.if-number-f.true))

pub loop-i-preserved : goal.loop-i-preserved
loop-i-preserved c =
    let loop = c.loop-i in
    let a = c.args in
    loop.invariant
    ∙ found_before a.symbols.now loop.i (loop.i - 1) 0 (2 * c.from.result) (omega arith) (omega (arith, c.from.ensures)) (λ same. c.if-number-f.false (c.number.ensures.0 ∙ same))

pub returns : goal.returns
unfolding symbols_at is_in
returns c =
    let loop = c.loop-i in
    let a = c.args in
    let none : loop.i ≡ 0 = omega arith in
    sym (loop.invariant ∙ ap (λ (left : ℕ). is_in a.f (symbols_at a.symbols.now left 0)) none)
