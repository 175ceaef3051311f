-- What the loops of `+read_cases_read_tree` keep.
use mathlib.Core.Bool.{false}
use mathlib.Core.List.{List}
use mathlib.Core.Path.{◌≡◌}
use Prim.Native.Nat.{ℕ, ◌+◌, ◌-◌, ◌*◌}
use lib.ListN.{length}
use Rattle.book.specs.Reader.{vars_of, Branched}
use Rattle.book.proofs.CaseWays.{Reached}
use Rattle.book.proofs.Constructors.{OnChain, past_from}
use Rattle.book.proofs.trees.+read_cases_read_tree.Given as goal

-- the depth falls at a branch, and its cases come between
abbrev pub decreases-read_cases : goal.decreases-read_cases
decreases-read_cases l = 2 * l.depth + 1

abbrev pub decreases-read_tree : goal.decreases-read_tree
decreases-read_tree l = 2 * l.depth

-- the cases before symbol f were read and marked, and none of those to come binds past the last
abbrev pub invariant-read_cases-loop-f : goal.invariant-read_cases-loop-f
invariant-read_cases-loop-f l =
    OnChain l.table.book.now l.table.at.now l.branch l.f × (past_from l.table.book.now l.table.at.now l.path.bound l.branch l.f ≡ false)
    × ((done : List ℕ) → Branched l.path done → Reached l.table.book.now l.table.at.now l.sort l.e l.depth (vars_of l.path) done l.branch l.from l.initial.ends l.f l.p l.ends)

abbrev pub decreases-read_cases-loop-f : goal.decreases-read_cases-loop-f
decreases-read_cases-loop-f l = length l.table.at.now - l.f
