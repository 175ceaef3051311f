-- What the loops of `read_trees` keep.
use Rattle.symbols.specs.Table.{symbols_in}
use Rattle.book.proofs.Constructors.{symbols_from}
use Rattle.book.proofs.PartWays.{Reached}
use Rattle.book.proofs.trees.read_trees.Given as goal

-- the trees of the symbols before f were read and indexed
abbrev pub invariant-loop-f : goal.invariant-loop-f
invariant-loop-f l = Reached l.table.book.now (symbols_in l.table.book.now l.table.at.now) l.e l.from l.initial.info l.initial.ends l.p l.f (symbols_from l.table.book.now l.table.at.now l.f) l.info l.ends
