-- `read_cases` and `read_tree` meet their contracts: what was branched on is whatever the flags tell, and each is one level over the other.
use borrow.Author.Rules.{rules}
use mathlib.Core.Bool.{Bool}
use mathlib.Core.List.{List, ◌∷◌, ◌++◌}
use mathlib.Core.Path.{◌≡◌, sym, ap, ap₂, subst, ◌∙◌}
use Prim.Native.Nat.{ℕ, ◌+◌, ◌-◌, ◌≤◌, ◌<◌}
use native.Mathlib.Omega.{arith}
use lib.ListN.{length, get_or, take}
use lib.Seq.{get_or-take}
use Rattle.limits.specs.Sizes.{most_variables}
use Rattle.reading.specs.Reading.{got}
use Rattle.reading.specs.Answer.{nothing}
use Rattle.reading.proofs.Exits.{handed_on}
use Rattle.reading.proofs.Good.{good-got, byte_good}
use Rattle.symbols.specs.Symbols.{Symbols}
use Rattle.symbols.specs.Table.{symbol_in, symbols_in}
use Rattle.expressions.specs.ExpressionAt.{left_of}
use Rattle.expressions.proofs.Extents.{whole_extent}
use Rattle.book.specs.TreeAt.{binds_past, branched_at}
use Rattle.book.specs.Reader.{vars_of, Branched}
use Rattle.book.specs.declared.path.Path.{Path}
use Rattle.book.proofs.CaseWays.{cases-first, cases_last, case-read, case-refused}
use Rattle.book.proofs.Constructors.{Arrives, chain_first, chain_next, case-fits, none-behind}
use Rattle.book.proofs.Paths.{Flags, flags_more}
use Rattle.book.proofs.Branches.{Fitting, branch_fits, flags_some}
use Rattle.book.proofs.TreeExtents.{tree_extent, row_extent}
use Rattle.book.proofs.TreeTold.{kept-good, told_at, branch-told, branch-told-refused}
use Rattle.book.proofs.TreeWays.{no_depth, no_code, unknown_code, exempt-refused, exempt-read, rule-read, rule-refused, branch-refused}
use Rattle.book.proofs.trees.+read_cases_read_tree.Goals as goal
use Rattle.book.proofs.trees.+read_cases_read_tree.Goals.{read_cases-After-next_of-f, read_cases-In-loop-f, read_tree-In_ok-code, read_tree-In_ok-x-in-2, read_tree-Start, read_tree-in_default-via-in-0+else-byte-ne2, read_tree-in_default-via-in_default-1, read_tree-in-0, read_tree-in-1+in_ok-read_rule-in-1, read_tree-in-2+in_ok-x-in-2+in_ok-behind-in-2}

pub read_cases-loop-f-init : goal.read_cases-loop-f-init
read_cases-loop-f-init t c =
    let a = c.args in
    let to = rw (sym c.first_of-f.ensures) at (chain_first a.table.book.now a.table.at.now a.branch c.args.table.tabled.chained (omega arith)) in (
      to.on,
      ap (binds_past a.path.bound) to.same ∙ c.requires.1,
      λ done flags. cases-first a.table.book.now a.table.at.now a.sort a.e a.depth (vars_of a.path) done a.branch a.from a.ends.now to,
    )

-- a case binds no more variables than there are
read-cases-fits : (t : ℕ) (c : read_cases-In-loop-f t)
    → let a = c.args in
    a.path.bound + length (symbol_in a.table.book.now (get_or a.table.at.now c.loop-f.f 0)).arguments ≤ most_variables
read-cases-fits t c =
    let l = c.loop-f in
    let a = c.args in
    case-fits a.table.book.now a.table.at.now a.path.bound a.branch l.f c.loop-f-test.true l.invariant.0 l.invariant.1

pub read_cases-binding-inner-requires : goal.read_cases-binding-inner-requires
read_cases-binding-inner-requires t c = omega (arith, read-cases-fits t (goal.at.read_cases-binding-inner-requires t c).In-loop-f, ap length c.arguments_of.ensures.0)

pub read_cases-returns-in_err-p : goal.read_cases-returns-in_err-p
unfolding Branched
read_cases-returns-in_err-p t c =
    let l = c.loop-f in
    let a = c.args in
    let path = c.binding-inner in
    let binds = path.ensures.0 ∙ ap (λ (sorts : List ℕ). vars_of a.path ++ sorts) c.arguments_of.ensures.0 in
    λ done flags.
    let told = c.in_err-p.ensures done (subst (λ (is : List Bool). Flags is done) (sym path.ensures.2) flags) in
    rw (handed_on _ c.from_residual.ensures.1) (case-refused a.table.book.now a.table.at.now a.sort a.e a.depth (vars_of a.path) done a.branch a.from a.ends.now
    l.f l.p l.ends c.loop-f-test.true l.invariant.0 (l.invariant.2 done flags) (vars_of path.result) binds c.read_tree.new.ends told.0)

-- the chain goes on
read-cases-goes-on : (t : ℕ) (c : read_cases-After-next_of-f t)
    → let head = c in
    let a = c.args in
    Arrives a.table.book.now a.table.at.now a.branch (c.loop-f.f + 1) c.next_of-f.result
read-cases-goes-on t c =
    let l = c.loop-f in
    let a = c.args in
    rw c.next_of-f.ensures (chain_next a.table.book.now a.table.at.now a.branch c.args.table.tabled.chained l.f c.loop-f-test.true l.invariant.0)

pub read_cases-loop-f-smaller : goal.read_cases-loop-f-smaller
read_cases-loop-f-smaller t c =
    omega (arith, (read-cases-goes-on t c).onward, c.loop-f-test.true)

pub read_cases-loop-f-preserved : goal.read_cases-loop-f-preserved
unfolding Branched
read_cases-loop-f-preserved t c =
    let l = c.loop-f in
    let a = c.args in
    let inside = c.loop-f-test.true in
    let path = c.binding-inner in
    let binds = path.ensures.0 ∙ ap (λ (sorts : List ℕ). vars_of a.path ++ sorts) c.arguments_of.ensures.0 in
    let to = read-cases-goes-on t c in (
      to.on,
      ap (binds_past a.path.bound) to.same ∙ none-behind a.table.book.now a.table.at.now a.path.bound a.branch l.f inside l.invariant.0 l.invariant.1,
      λ done flags.
          let told = c.in_ok-p.ensures done (subst (λ (is : List Bool). Flags is done) (sym path.ensures.2) flags) in
          case-read a.table.book.now a.table.at.now a.sort a.e a.depth (vars_of a.path) done a.branch a.from a.ends.now
          l.f l.p l.ends inside l.invariant.0 (l.invariant.2 done flags) (vars_of path.result) binds
          c.read_tree.new.ends (record { answer = told.0; marks = told.1 }) to,
    )

pub read_cases-returns : goal.read_cases-returns
read_cases-returns t c =
    let l = c.loop-f in
    let a = c.args in
    λ done flags. cases_last a.table.book.now a.table.at.now a.sort a.e a.depth (vars_of a.path) done a.branch a.from a.ends.now
    l.f l.p l.ends c.loop-f-test.false (l.invariant.2 done flags)

pub read_tree-returns-then-depth-eq0 : goal.read_tree-returns-then-depth-eq0
read_tree-returns-then-depth-eq0 t c =
    let a = c.args in
    λ done flags.
    let told = no_depth a.table.book.now (symbols_in a.table.book.now a.table.at.now) a.sort a.e (vars_of a.path) done a.p a.ends.now a.ends.now in
    rw (c.at.ensures, c.if-depth-eq0.true) (told.answer, told.marks)

pub read_tree-returns-in_err-code : goal.read_tree-returns-in_err-code
read_tree-returns-in_err-code t c =
    let a = c.args in
    let S = symbols_in a.table.book.now a.table.at.now in
    λ done flags. rw (handed_on _ c.from_residual.ensures.1) (told_at a.table.book.now S a.sort a.e a.depth (vars_of a.path) done a.p c.if-depth-eq0.false
    (no_code a.table.book.now S a.sort a.e (vars_of a.path) done a.p (a.depth - 1) a.ends.now a.ends.now c.in_err-code.ensures))

-- the code that was read stands at p, in the item
read-tree-code : (t : ℕ) (c : read_tree-In_ok-code t)
    → let a = c.args in
    (c.in_ok-code.code ≡ get_or a.table.book.now a.p 0) × (c.in_ok-code.from ≡ a.p + 1) × (c.in_ok-code.from ≤ a.e)
read-tree-code t c = good-got (byte_good c.args.table.book.now 0 c.args.e c.args.p) (sym c.in_ok-code.ensures)

pub read_tree-returns-in_default : goal.read_tree-returns-in_default
read_tree-returns-in_default t c =
    let a = c.args in
    let S = symbols_in a.table.book.now a.table.at.now in
    let code = read-tree-code t (goal.at.read_tree-returns-in_default t c).In_ok-code in
    λ done flags. rw c.at-in_default.ensures (told_at a.table.book.now S a.sort a.e a.depth (vars_of a.path) done a.p c.if-depth-eq0.false
    (elim c.in_default.branch [
      | read_tree-in_default-via-in-0+else-byte-ne2 w ↦ exempt-refused a.table.book.now S a.sort a.e (vars_of a.path) done a.p (a.depth - 1) (omega (arith, code.1, code.2)) a.ends.now a.ends.now
          (omega (arith, code.0, w.in-0.is)) (omega (arith, w.byte.ensures, w.if-byte-ne2.false))
      | read_tree-in_default-via-in_default-1 w ↦ unknown_code a.table.book.now S a.sort a.e (vars_of a.path) done a.p (a.depth - 1) (omega (arith, code.1, code.2)) a.ends.now a.ends.now (omega (arith, code.0))
    ]))

pub read_tree-returns-in_err-read_rule-in-1 : goal.read_tree-returns-in_err-read_rule-in-1
read_tree-returns-in_err-read_rule-in-1 t c =
    let a = c.args in
    let S = symbols_in a.table.book.now a.table.at.now in
    let code = read-tree-code t (goal.at.read_tree-returns-in_err-read_rule-in-1 t c).In_ok-code in
    λ done flags. rw (handed_on _ c.from_residual-in_err-read_rule-in-1.ensures.1) (told_at a.table.book.now S a.sort a.e a.depth (vars_of a.path) done a.p c.if-depth-eq0.false
    (rule-refused a.table.book.now S a.sort a.e (vars_of a.path) done a.p (a.depth - 1) (omega (arith, code.1, code.2)) a.ends.now a.ends.now
    (omega (arith, code.0, c.in-1.is)) (rw code.1 at c.in_err-read_rule-in-1.ensures)))

-- there is a sort and a flag for each variable
read-tree-room : (t : ℕ) (c : read_tree-Start t) → (length c.args.path.sorts ≡ most_variables) × (length c.args.path.done ≡ most_variables)
read-tree-room t c = search rules

-- where the variable to branch on was read, the branch may be made
fitting : (bs : List ℕ) (S : Symbols) (sort e : ℕ) (path : Path) (p x q : ℕ) → path.bound ≤ length path.sorts
    → ((sort : ℕ) (done : List ℕ) → Branched path done → got x q ≡ branched_at bs S sort e (vars_of path) done p) → Fitting S path.sorts path.bound e p x q
unfolding Branched
fitting bs S sort e path p x q room read = branch_fits bs S sort e path.sorts path.bound path.done p room (λ done flags. read sort done flags)

pub read_tree-returns-in_err-x-in-2 : goal.read_tree-returns-in_err-x-in-2
read_tree-returns-in_err-x-in-2 t c =
    let a = c.args in
    let S = symbols_in a.table.book.now a.table.at.now in
    let code = read-tree-code t (goal.at.read_tree-returns-in_err-x-in-2 t c).In_ok-code in
    λ done flags. rw (handed_on _ c.from_residual-in_err-x-in-2.ensures.1) (told_at a.table.book.now S a.sort a.e a.depth (vars_of a.path) done a.p c.if-depth-eq0.false
    (branch-refused a.table.book.now S a.sort a.e (vars_of a.path) done a.p (a.depth - 1) (omega (arith, code.1, code.2)) a.ends.now a.ends.now
    (omega (arith, code.0, c.in-2.is)) (rw code.1 at (c.in_err-x-in-2.ensures a.sort done flags))))

-- the branch is fit, by what was answered of its variable
read-tree-fitting : (t : ℕ) (c : read_tree-In_ok-x-in-2 t)
    → let a = c.args in
    Fitting (symbols_in a.table.book.now a.table.at.now) a.path.sorts a.path.bound a.e c.in_ok-code.from c.in_ok-x-in-2.x c.in_ok-x-in-2.behind
read-tree-fitting t c =
    let a = c.args in
    fitting a.table.book.now (symbols_in a.table.book.now a.table.at.now) a.sort a.e a.path c.in_ok-code.from c.in_ok-x-in-2.x c.in_ok-x-in-2.behind
    (omega (arith, (read-tree-room t (goal.at.read_tree-In_ok-x-in-2 t c).Start).0)) c.in_ok-x-in-2.ensures

pub read_tree-bounds-path-x : goal.read_tree-bounds-path-x
read_tree-bounds-path-x t c = omega (arith, (read-tree-fitting t (goal.at.read_tree-bounds-path-x t c).In_ok-x-in-2).there)

pub read_tree-branched-requires : goal.read_tree-branched-requires
read_tree-branched-requires t c = omega (arith, (read-tree-fitting t c).there)

pub read_tree-read_cases-requires : goal.read_tree-read_cases-requires
read_tree-read_cases-requires t c =
    let path = c.branched.ensures in
    let fits = (read-tree-fitting t (goal.at.read_tree-read_cases-requires t c).In_ok-x-in-2).fits in
    (omega (arith, c.if-depth-eq0.false), (c.requires, rw path.1 fits))

pub read_tree-returns-in_err-behind-in-2 : goal.read_tree-returns-in_err-behind-in-2
unfolding Branched
read_tree-returns-in_err-behind-in-2 t c =
    let path = c.branched in
    let a = c.args in
    let S = symbols_in a.table.book.now a.table.at.now in
    let x = c.in_ok-x-in-2.x in
    let code = read-tree-code t (goal.at.read_tree-returns-in_err-behind-in-2 t c).In_ok-code in
    let there = (read-tree-fitting t (goal.at.read_tree-returns-in_err-behind-in-2 t c).In_ok-x-in-2).there in
    λ done flags.
    let more = flags_more a.path.done done x (omega (arith, there, a.path.in_range)) (read-tree-room t (goal.at.read_tree-returns-in_err-behind-in-2 t c).Start).1 flags in
    let row = c.in_err-behind-in-2.ensures (x ∷ done) (subst (λ (is : List Bool). Flags is (x ∷ done)) (sym path.ensures.2) more) in
    rw (handed_on _ c.from_residual-in_err-behind-in-2.ensures.1) (told_at a.table.book.now S a.sort a.e a.depth (vars_of a.path) done a.p c.if-depth-eq0.false
    (branch-told-refused a.table.book.now S a.sort a.e (vars_of a.path) done a.p (a.depth - 1) (omega (arith, code.1, code.2)) a.ends.now
    x c.in_ok-x-in-2.behind c.read_cases.new.ends (vars_of path.result) (get_or a.path.sorts x 0)
    (omega (arith, code.0, c.in-2.is)) (rw code.1 at (c.in_ok-x-in-2.ensures a.sort done flags))
    (ap₂ take path.ensures.1 path.ensures.0) (sym (get_or-take a.path.bound a.path.sorts x 0 there)) row.0))

pub read_tree-overflow_cast-ends : goal.read_tree-overflow_cast-ends
unfolding Branched
read_tree-overflow_cast-ends t c =
    let a = c.args in
    let S = symbols_in a.table.book.now a.table.at.now in
    let code = read-tree-code t (goal.at.read_tree-overflow_cast-ends t c).In_ok-code in
    let room : a.path.bound ≤ length a.path.sorts = omega (arith, (read-tree-room t (goal.at.read_tree-overflow_cast-ends t c).Start).0) in
    let within : c.match-code.behind ≤ a.e = elim c.match-code.branch [
      | read_tree-in-0 w ↦ omega (arith, w.behind-is, code.2)
      | read_tree-in-1+in_ok-read_rule-in-1 w ↦
          omega (arith, w.behind-is, (kept-good left_of (whole_extent a.table.book.now 0 S a.e (vars_of a.path) a.sort c.in_ok-code.from) w.in_ok-read_rule-in-1.ensures).1.within)
      | read_tree-in-2+in_ok-x-in-2+in_ok-behind-in-2 w ↦
          let path = w.branched.result in
          let some = flags_some path.done in
          let q = w.in_ok-x-in-2.behind in
          let fits = fitting a.table.book.now S a.sort a.e a.path c.in_ok-code.from w.in_ok-x-in-2.x q room w.in_ok-x-in-2.ensures in
          let row = row_extent a.table.book.now S a.sort a.e _ (λ sorts k. tree_extent a.table.book.now S a.sort a.e (a.depth - 1) (vars_of path ++ sorts) some.0 k) _ q fits.within in
          omega (arith, w.behind-is, (kept-good nothing row (w.in_ok-behind-in-2.ensures some.0 some.1).0).1.within)
    ] in
    omega (arith, within, c.requires, a.table.small)

pub read_tree-bounds-ends-p : goal.read_tree-bounds-ends-p
read_tree-bounds-ends-p t c =
    let code = read-tree-code t (goal.at.read_tree-bounds-ends-p t c).In_ok-code in
    omega (arith, code.1, code.2)

pub read_tree-offset_bounds-ends-p : goal.read_tree-offset_bounds-ends-p
read_tree-offset_bounds-ends-p t c =
    let code = read-tree-code t (goal.at.read_tree-offset_bounds-ends-p t c).In_ok-code in
    omega (arith, code.1, code.2)

pub read_tree-returns : goal.read_tree-returns
unfolding Branched
read_tree-returns t c =
    let a = c.args in
    let S = symbols_in a.table.book.now a.table.at.now in
    let code = read-tree-code t (goal.at.read_tree-returns t c).In_ok-code in
    let sizes = read-tree-room t (goal.at.read_tree-returns t c).Start in
    let room : a.path.bound ≤ length a.path.sorts = omega (arith, sizes.0) in
    let inside : a.p < a.e = omega (arith, code.1, code.2) in
    λ done flags. told_at a.table.book.now S a.sort a.e a.depth (vars_of a.path) done a.p c.if-depth-eq0.false
    (elim c.match-code.branch [
      | read_tree-in-0 w ↦
          rw (w.behind-is, w.ends-is, code.1) (exempt-read a.table.book.now S a.sort a.e (vars_of a.path) done a.p (a.depth - 1) inside a.ends.now
          (omega (arith, code.0, w.in-0.is)) (omega (arith, w.byte.ensures, w.if-byte-ne2.true)))
      | read_tree-in-1+in_ok-read_rule-in-1 w ↦
          rw (w.behind-is, w.ends-is) (rule-read a.table.book.now S a.sort a.e (vars_of a.path) done a.p (a.depth - 1) inside a.ends.now
          (omega (arith, code.0, w.in-1.is)) (rw code.1 at w.in_ok-read_rule-in-1.ensures))
      | read_tree-in-2+in_ok-x-in-2+in_ok-behind-in-2 w ↦
          let path = w.branched in
          let x = w.in_ok-x-in-2.x in
          let q = w.in_ok-x-in-2.behind in
          let there = (fitting a.table.book.now S a.sort a.e a.path c.in_ok-code.from x q room w.in_ok-x-in-2.ensures).there in
          let more = flags_more a.path.done done x (omega (arith, there, a.path.in_range)) sizes.1 flags in
          let row = w.in_ok-behind-in-2.ensures (x ∷ done) (subst (λ (is : List Bool). Flags is (x ∷ done)) (sym path.ensures.2) more) in
          rw (w.behind-is, w.ends-is) (branch-told a.table.book.now S a.sort a.e (vars_of a.path) done a.p (a.depth - 1) inside a.ends.now
          x q w.read_cases.new.ends (vars_of path.result) (get_or a.path.sorts x 0)
          (omega (arith, code.0, w.in-2.is)) (rw code.1 at (w.in_ok-x-in-2.ensures a.sort done flags))
          (ap₂ take path.ensures.1 path.ensures.0) (sym (get_or-take a.path.bound a.path.sorts x 0 there)) row)
    ])
