-- `ranks_of` meets its contract. The loop's invariant: of the symbols passed the ranks stand in the array, and the constructors of each sort are counted.
use mathlib.Core.Path.{◌∙◌}
use Prim.Native.Nat.{◌<◌, ◌≤◌}
use native.Mathlib.Omega.{arith}
use lib.ListN.{length}
use Rattle.limits.specs.Sizes.{most_symbols}
use Rattle.symbols.specs.Table.{symbols_in}
use Rattle.symbols.proofs.Tables.{kind_there, sort-there, as_many}
use Rattle.symbols.proofs.Ranks.{few-before, ranked-none, ranked-operation, ranked-constructor, ranked-all}
use Rattle.symbol_part.proofs.ranks_of.Goals as goal
use Rattle.symbol_part.proofs.ranks_of.Goals.{then-not-is_operation, else-not-is_operation}

pub loop-f-init : goal.loop-f-init
loop-f-init c = (omega arith, ranked-none _)

pub overflow_add-seen : goal.overflow_add-seen
overflow_add-seen c =
    let loop = c.loop-f in
    let a = c.args in
    let s = c.sort_of-s.result in
    omega (arith, loop.invariant.1.counted s (omega arith), few-before s (symbols_in a.book.now a.at.now) loop.f)

pub loop-f-preserved : goal.loop-f-preserved
loop-f-preserved c =
    let loop = c.loop-f in
    let a = c.args in
    let symbols = symbols_in a.book.now a.at.now in
    let many = as_many a.book.now a.at.now in
    let here : loop.f < length symbols = omega arith in
    let room : length symbols ≤ most_symbols = omega arith in
    let present = c.loop-f-test.true in
    let its-kind = kind_there a.book.now a.at.now loop.f present c.is_operation.ensures in (
      omega arith,
      elim c.if-not-is_operation.branch [
        | then-not-is_operation w ↦
            rw (w.ranks-is, w.seen-is) (ranked-constructor symbols loop.f here room loop.invariant.1 w.sort_of-s.result
            (its-kind ∙ w.if-not-is_operation.true) (sort-there a.book.now a.at.now loop.f present w.sort_of-s.ensures) (omega (arith, w.sort_of-s.type_inv)))
        | else-not-is_operation w ↦
            rw (w.ranks-is, w.seen-is) (ranked-operation symbols loop.f here room loop.invariant.1 (its-kind ∙ w.if-not-is_operation.false))
      ],
    )

pub returns : goal.returns
returns c =
    let a = c.args in
    ranked-all (symbols_in a.book.now a.at.now) (omega (arith, as_many a.book.now a.at.now)) c.loop-f.invariant.1
