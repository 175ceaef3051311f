-- `read_tree_part` meets its contract: the part is opened, its trees are read, and nothing is left over.
use mathlib.Core.Path.{◌≡◌, sym}
use lib.ListN.{length}
use Rattle.reading.specs.Reading.{refusal}
use Rattle.reading.specs.Answer.{keeping, nothing}
use Rattle.reading.proofs.Exits.{handed_on}
use Rattle.reading.proofs.Good.{good-got, length-good}
use Rattle.symbols.specs.Table.{symbols_in}
use Rattle.book.specs.TreeAt.{tree_part}
use Rattle.book.proofs.PartWays.{none-indexed, part_unopened, part-refused, part-left-over, book-left-over, part-read}
use Rattle.book.proofs.trees.read_tree_part.Goals as goal
use Rattle.book.proofs.trees.read_tree_part.Goals.{then-behind-e-via-then-behind-e, then-behind-e-via-else-behind-e+then-behind-table}

pub returns-in_err-e : goal.returns-in_err-e
returns-in_err-e c =
    let a = c.args in
    let S = symbols_in a.table.book.now a.table.at.now in
    let told = part_unopened a.table.book.now S a.p c.in_err-e.ensures in
    rw (handed_on _ c.from_residual.ensures.1) (told, none-indexed a.table.book.now S a.p told _ _ _ _)

pub read_trees-requires : goal.read_trees-requires
read_trees-requires c =
    let within = good-got (length-good c.args.table.book.now 0 (length c.args.table.book.now) c.args.p) (sym c.in_ok-e.ensures) in
    within.2

pub returns-in_err-behind : goal.returns-in_err-behind
returns-in_err-behind c =
    let a = c.args in
    let S = symbols_in a.table.book.now a.table.at.now in
    let told = part-refused a.table.book.now S a.p c.in_ok-e.ensures c.in_err-behind.ensures.0 in
    rw (handed_on _ c.from_residual-in_err-behind.ensures.1) (told, none-indexed a.table.book.now S a.p told _ _ _ _)

pub returns-then-behind-e : goal.returns-then-behind-e
returns-then-behind-e c =
    let a = c.args in
    let S = symbols_in a.table.book.now a.table.at.now in
    let read = c.in_ok-behind.ensures.0 in
    let told : refusal 1 c.in_ok-behind.behind ≡ keeping nothing (tree_part a.table.book.now S a.p) =
    elim c.then-behind-e.branch [
      | then-behind-e-via-then-behind-e w ↦ part-left-over a.table.book.now S a.p c.in_ok-e.ensures read w.if-behind-e.true
      | then-behind-e-via-else-behind-e+then-behind-table w ↦ book-left-over a.table.book.now S a.p c.in_ok-e.ensures read w.if-behind-e.false w.if-behind-table.true
    ]
    in
    rw c.at.ensures (told, none-indexed a.table.book.now S a.p told _ _ _ _)

pub returns : goal.returns
returns c =
    let a = c.args in
    part-read a.table.book.now (symbols_in a.table.book.now a.table.at.now) a.p c.in_ok-e.ensures c.in_ok-behind.ensures.0 c.if-behind-e.false c.if-behind-table.false
    a.info.now c.read_trees.new.info a.ends.now c.read_trees.new.ends c.in_ok-behind.ensures.1
