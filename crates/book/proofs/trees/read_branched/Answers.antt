-- `read_branched` meets its contract: one lemma for each of the variable's tests.
use borrow.Author.Rules.{rules}
use mathlib.Core.Path.{◌≡◌, sym, ◌∙◌}
use Prim.Native.Nat.{◌≤◌}
use native.Mathlib.Omega.{arith}
use lib.ListN.{length}
use lib.Seq.{length-take-le}
use Rattle.std.proofs.lemmas.Result.{err_from_is_err_and}
use Rattle.limits.specs.Sizes.{most_variables}
use Rattle.symbols.specs.Table.{symbols_in}
use Rattle.book.specs.Reader.{vars_of, Branched}
use Rattle.book.proofs.Paths.{variable-missing, not_there, twice, past, fits}
use Rattle.book.proofs.Branches.{past_bound}
use Rattle.book.proofs.trees.read_branched.Goals as goal
use Rattle.book.proofs.trees.read_branched.Goals.{Start, then-path-x-via-then-path-x, then-path-x-via-else-path-x+then-path-x-2, then-path-x-via-else-path-x+else-path-x-2+then-binds_past}

-- there is a sort for each variable that is bound
room : (c : Start) → c.args.path.bound ≤ length c.args.path.sorts
room c =
    let full : length c.args.path.sorts ≡ most_variables = search rules in
    omega arith

pub returns-in_err-x : goal.returns-in_err-x
returns-in_err-x c =
    let a = c.args in
    let S = symbols_in a.table.book.now a.table.at.now in
    let handed = err_from_is_err_and c.from_residual.result c.from_residual.ensures.1 in
    λ sort done flags. rw (handed.1, handed.2) (variable-missing a.table.book.now S sort a.e (vars_of a.path) done a.p c.in_err-x.ensures)

pub returns-then-path-x : goal.returns-then-path-x
unfolding Branched
returns-then-path-x c =
    let a = c.args in
    let S = symbols_in a.table.book.now a.table.at.now in
    let x = c.in_ok-x.x in
    let enough = room (goal.at.returns-then-path-x c).Start in
    let vars = length-take-le a.path.bound a.path.sorts enough in
    λ sort done flags. rw c.at.ensures (elim c.then-path-x.branch [
      | then-path-x-via-then-path-x w ↦ not_there a.table.book.now S sort a.e (vars_of a.path) done a.p c.in_ok-x.ensures (omega (arith, vars))
      | then-path-x-via-else-path-x+then-path-x-2 w ↦
          twice a.table.book.now S sort a.e (vars_of a.path) done a.p c.in_ok-x.ensures (omega (arith, vars)) (flags x (omega arith) ∙ w.if-path-x-2.true)
      | then-path-x-via-else-path-x+else-path-x-2+then-binds_past w ↦
          let same = past_bound S a.path.sorts a.path.bound x enough w.if-path-x.false in
          past a.table.book.now S sort a.e (vars_of a.path) done a.p c.in_ok-x.ensures (omega (arith, vars)) (flags x (omega arith) ∙ w.if-path-x-2.false)
          (same ∙ sym w.binds_past.ensures ∙ w.if-binds_past.true)
    ])

pub returns : goal.returns
unfolding Branched
returns c =
    let a = c.args in
    let S = symbols_in a.table.book.now a.table.at.now in
    let x = c.in_ok-x.x in
    let there = c.if-path-x.false in
    let vars = length-take-le a.path.bound a.path.sorts (room (goal.at.returns c).Start) in
    let same = past_bound S a.path.sorts a.path.bound x (room (goal.at.returns c).Start) there in
    λ sort done flags. fits a.table.book.now S sort a.e (vars_of a.path) done a.p c.in_ok-x.ensures (omega (arith, vars)) (flags x (omega arith) ∙ c.if-path-x-2.false)
    (same ∙ sym c.binds_past.ensures ∙ c.if-binds_past.false)
