-- `take_back` meets its contract: after i turns i symbols are taken off.
use Rattle.std.proofs.Common.{◌≡◌, ◌+◌, ◌*◌, sym, ◌∙◌, arith, add-one}
use Rattle.tallies.proofs.Taking.{none-back, again-back, new-back}
use Rattle.tallies.proofs.take_back.Goals as goal
use Rattle.tallies.proofs.take_back.Goals.{then-not-stands, else-not-stands}

pub loop-i-init : goal.loop-i-init
loop-i-init c = none-back c.args.symbols.now c.args.totals.now 0

pub loop-i-preserved : goal.loop-i-preserved
loop-i-preserved c =
    let f = c.number-f in
    let loop = c.loop-i in
    let symbols = c.args.symbols.now in
    elim c.if-not-stands.branch [
      | then-not-stands w ↦
          rw w.totals-is (new-back symbols loop.i (loop.i + 1) 0 (2 * c.from.result) f.result (add-one loop.i) (omega (arith, c.from.ensures)) f.ensures.0
          (sym c.stands.ensures ∙ w.if-not-stands.true) loop.totals _ loop.invariant w.one_less.ensures)
      | else-not-stands w ↦
          rw w.totals-is (again-back symbols loop.i (loop.i + 1) 0 (2 * c.from.result) f.result (add-one loop.i) (omega (arith, c.from.ensures)) f.ensures.0
          (sym c.stands.ensures ∙ w.if-not-stands.false) loop.invariant)
    ]

pub returns : goal.returns
returns c =
    let all : c.args.count ≡ c.loop-i.i = omega arith in
    rw all c.loop-i.invariant
