-- `read_item` meets its contract: the tree is read from an empty path that binds the operation's arguments.
use mathlib.Core.Bool.{Bool}
use mathlib.Core.List.{List, [], ◌++◌}
use mathlib.Core.Path.{◌≡◌, sym, ap, subst, ◌∙◌}
use Prim.Native.Nat.{ℕ, suc, ◌≤◌, ◌<◌}
use native.Mathlib.Omega.{arith}
use lib.ListN.{length, get_or, take}
use Rattle.limits.specs.Sizes.{most_variables, most_arguments}
use Rattle.reading.specs.Reading.{Reading}
use Rattle.reading.specs.Answer.{keeping, nothing}
use Rattle.reading.proofs.Exits.{handed_on}
use Rattle.reading.proofs.Good.{good-got, length-good}
use Rattle.symbols.specs.Symbols.{Symbol, Symbols}
use Rattle.symbols.specs.Table.{symbol_in, symbols_in}
use Rattle.symbols.proofs.Tables.{symbol-there, as_many}
use Rattle.book.specs.TreeAt.{tree_in}
use Rattle.book.specs.Reader.{vars_of, Branched, Marked}
use Rattle.book.specs.Reader.{FewArguments}
use Rattle.book.proofs.Paths.{Flags, flags_none}
use Rattle.book.proofs.PartWays.{item_unopened, item_refused, item-left-over, item-read}
use Rattle.book.proofs.TreeWays.{Told}
use Rattle.book.proofs.trees.read_item.Goals as goal
use Rattle.book.proofs.trees.read_item.Goals.{After-read_tree}

-- the symbol at a place of the table has few arguments
few-there : (bs places : List ℕ) (f : ℕ) → f < length places → FewArguments (symbols_in bs places) → length (symbol_in bs (get_or places f 0)).arguments ≤ most_arguments
unfolding FewArguments
few-there bs places f h few = rw (symbol-there bs places f h) at (few f (omega (arith, as_many bs places)))

-- what is told of the tree, by the operation's own sort and arguments
operation-told : (bs : List ℕ) (S : Symbols) (x : Symbol) (e q : ℕ) {r : Reading ℕ} {was is : List ℕ} (sort : ℕ) (vars : List ℕ) → sort ≡ x.sort → vars ≡ x.arguments
    → (let tree = tree_in bs S sort e (suc most_variables) vars [] q in (r ≡ keeping nothing tree) × Marked q tree was is)
    → Told q r (tree_in bs S x.sort e (suc most_variables) x.arguments [] q) was is
operation-told bs S x e q sort vars its-sort its-arguments told =
    let its_own = rw (its-sort, its-arguments) at told in
    record { answer = its_own.0; marks = its_own.1 }

pub binding-path-requires : goal.binding-path-requires
binding-path-requires c =
    let few = few-there c.args.table.book.now c.args.table.at.now c.args.f c.requires.1 c.args.table.few_arguments in
    omega (arith, few, c.empty.ensures.0, ap length c.arguments_of.ensures.0)

pub read_tree-requires : goal.read_tree-requires
read_tree-requires c =
    let within = good-got (length-good c.args.table.book.now 0 c.args.e c.args.p) (sym c.in_ok-item.ensures) in
    omega (arith, within.2, c.requires.0)

-- what is told of the operation's tree, by the answer of its reader
tree-told : (c : After-read_tree) {r : Reading ℕ}
    → let item = c in
    let a = c.args in
    let S = symbols_in a.table.book.now a.table.at.now in
    let x = symbol_in a.table.book.now (get_or a.table.at.now a.f 0) in
    let end = c.in_ok-item.item in
    let q = c.in_ok-item.q in
    let path = c.binding-path.result in
    ((done : List ℕ) → Branched path done
    → let tree = tree_in a.table.book.now S c.sort_of-sort.result end (suc most_variables) (vars_of path) done q in
    (r ≡ keeping nothing tree) × Marked q tree a.ends.now c.read_tree.new.ends)
    → Told q r (tree_in a.table.book.now S x.sort end (suc most_variables) x.arguments [] q) a.ends.now c.read_tree.new.ends
unfolding Branched
tree-told c answered =
    let sort = c.sort_of-sort in
    let path = c.binding-path in
    let sorts = c.arguments_of in
    let empty = c.empty in
    let c = c in
    let a = c.args in
    let vars = path.ensures.0 ∙ ap (λ (n : ℕ). take n empty.result.sorts ++ sorts.result.now) empty.ensures.0 ∙ sorts.ensures.0 in
    let flags = subst (λ (is : List Bool). Flags is []) (sym (path.ensures.2 ∙ empty.ensures.1)) flags_none in
    operation-told a.table.book.now (symbols_in a.table.book.now a.table.at.now) (symbol_in a.table.book.now (get_or a.table.at.now a.f 0))
    c.in_ok-item.item c.in_ok-item.q sort.result (vars_of path.result) sort.ensures vars (answered [] flags)

pub returns-in_err-item : goal.returns-in_err-item
returns-in_err-item c =
    let a = c.args in
    let x = symbol_in a.table.book.now (get_or a.table.at.now a.f 0) in
    let told = item_unopened a.table.book.now (symbols_in a.table.book.now a.table.at.now) a.e x a.p a.ends.now a.ends.now c.in_err-item.ensures in
    rw (handed_on _ c.from_residual.ensures.1) (told.answer, told.marks)

pub returns-in_err-behind : goal.returns-in_err-behind
returns-in_err-behind c =
    let a = c.args in
    let x = symbol_in a.table.book.now (get_or a.table.at.now a.f 0) in
    let read = tree-told (goal.at.returns-in_err-behind c).After-read_tree c.in_err-behind.ensures in
    let told = item_refused a.table.book.now (symbols_in a.table.book.now a.table.at.now) a.e x a.p a.ends.now c.read_tree.new.ends c.in_ok-item.ensures read.answer in
    rw (handed_on _ c.from_residual-in_err-behind.ensures.1) (told.answer, told.marks)

pub returns-then-behind-item : goal.returns-then-behind-item
returns-then-behind-item c =
    let a = c.args in
    let x = symbol_in a.table.book.now (get_or a.table.at.now a.f 0) in
    let read = tree-told (goal.at.returns-then-behind-item c).After-read_tree c.in_ok-behind.ensures in
    let told = item-left-over a.table.book.now (symbols_in a.table.book.now a.table.at.now) a.e x a.p a.ends.now c.read_tree.new.ends c.in_ok-item.ensures read c.if-behind-item.true in
    rw c.at.ensures (told.answer, told.marks)

pub returns : goal.returns
returns c =
    let a = c.args in
    let x = symbol_in a.table.book.now (get_or a.table.at.now a.f 0) in
    let read = tree-told (goal.at.returns c).After-read_tree c.in_ok-behind.ensures in
    let told = item-read a.table.book.now (symbols_in a.table.book.now a.table.at.now) a.e x a.p a.ends.now c.read_tree.new.ends c.in_ok-item.ensures read c.if-behind-item.false in
    (told.answer, told.marks)
