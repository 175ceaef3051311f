-- What the loops of `trees_read` keep.
use mathlib.Core.Path.{◌≡◌}
use Prim.Native.Nat.{◌+◌, ◌≤◌}
use Rattle.symbols.specs.Table.{symbols_in}
use Rattle.book.specs.RowsRead.{trees_read_at}
use Rattle.book.proofs.Constructors.{symbols_from}
use Rattle.book.proofs.trees.trees_read.Given as goal

-- the trees so far and those of the symbols still to come are all the trees
abbrev pub invariant-loop-f : goal.invariant-loop-f
invariant-loop-f l =
    let S = symbols_in l.table.book.now l.table.at.now in
    (l.count + trees_read_at l.table.book.now S l.e (symbols_from l.table.book.now l.table.at.now l.f) l.from ≡ trees_read_at l.table.book.now S l.e S l.q) × (l.count ≤ l.f)
