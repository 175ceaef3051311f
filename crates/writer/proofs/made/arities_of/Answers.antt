-- `arities_of` meets its contract: after f turns the first f arities stand in the array.
use mathlib.Core.Path.{sym, ◌∙◌}
use native.Mathlib.Nat.{zero-add}
use native.Mathlib.Omega.{arith}
use lib.ListN.{replicate}
use Rattle.limits.specs.Sizes.{most_symbols}
use Rattle.symbols.specs.Table.{symbols_in}
use Rattle.writer.specs.Layout.{arities_of}
use Rattle.writer.proofs.Making.{put-more, put_all, arity_there, arities-many, arities_in_array}
use Rattle.writer.proofs.made.arities_of.Goals as goal

pub loop-f-preserved : goal.loop-f-preserved
loop-f-preserved c =
    let a = c.args in
    let turn = c.loop-f in
    let arities = arities_of (symbols_in a.book.now a.at.now) in
    let many = arities-many a.book.now a.at.now in
    let arity = c.arity_of.ensures.0 ∙ sym (arity_there a.book.now a.at.now turn.f (omega arith)) in
    rw zero-add at (put-more (replicate most_symbols 0) arities turn.arities 0 turn.f turn.invariant _ 0 (omega arith) arity)

pub returns : goal.returns
returns c =
    let a = c.args in
    let turn = c.loop-f in
    let arities = arities_of (symbols_in a.book.now a.at.now) in
    let many = arities-many a.book.now a.at.now in
    arities_in_array arities _ (omega arith) (put_all (replicate most_symbols 0) arities turn.arities 0 turn.f turn.invariant (omega arith))
