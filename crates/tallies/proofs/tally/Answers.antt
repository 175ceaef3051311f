-- `tally` meets its contract: after i turns the other symbols are left; a refusal takes back what was added.
use Rattle.std.proofs.Common.{◌≡◌, ℕ, ◌+◌, ◌-◌, ◌*◌, sym, ap, ◌∙◌, arith, add-one}
use Rattle.reading.specs.Bytes.{big_endian}
use Rattle.tallies.proofs.TallyWays.{all_left_lem, none_left, seen-before, refused_as, counts}
use Rattle.tallies.proofs.tally.Goals as goal
use Rattle.tallies.proofs.tally.Goals.{then-not-stands+in_default, else-not-stands}

pub loop-i-init : goal.loop-i-init
loop-i-init c =
    let a = c.args in
    all_left_lem a.symbols.now a.totals.now a.count 0 (a.count - 0) (omega arith)

pub returns-in-Err : goal.returns-in-Err
returns-in-Err c =
    let f = c.number-f in
    let loop = c.loop-i in
    let symbols = c.args.symbols.now in
    let f-is : f.result ≡ big_endian symbols (2 * loop.i) = f.ensures.0 ∙ ap (λ (n : ℕ). big_endian symbols (2 * n)) c.from-p.ensures in
    rw (c.at.ensures, c.from-p.ensures) (refused_as loop.invariant (c.args.count - (loop.i + 1)) (loop.i + 1) (omega arith) (add-one loop.i) f.result f-is
    (sym c.stands.ensures ∙ c.if-not-stands.true) c.in-Err.fault _ c.in-Err.ensures c.take_back.ensures)

pub loop-i-preserved : goal.loop-i-preserved
loop-i-preserved c =
    let f = c.number-f in
    let loop = c.loop-i in
    let symbols = c.args.symbols.now in
    let left = c.args.count - (loop.i + 1) in
    let f-is : f.result ≡ big_endian symbols (2 * loop.i) = f.ensures.0 ∙ ap (λ (n : ℕ). big_endian symbols (2 * n)) c.from-p.ensures in
    elim c.if-not-stands.branch [
      | then-not-stands+in_default w ↦
          rw w.totals-is (counts loop.invariant left (loop.i + 1) (omega arith) (add-one loop.i) f.result f-is
          (sym c.stands.ensures ∙ w.if-not-stands.true) w.in_default.ensures (omega arith))
      | else-not-stands w ↦
          rw w.totals-is (seen-before loop.invariant left (loop.i + 1) (omega arith) (add-one loop.i) f.result f-is
          (sym c.stands.ensures ∙ w.if-not-stands.false) (omega arith))
    ]

pub returns : goal.returns
returns c =
    let all : c.from.result ≡ c.loop-i.i = omega (arith, c.from.ensures) in
    rw all (none_left c.loop-i.invariant (omega arith))
