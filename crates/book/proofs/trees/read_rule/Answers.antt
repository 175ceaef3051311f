-- `read_rule` meets its contract: the expression is read in the part of the book that ends at e, with the variables that are bound.
use borrow.Author.Rules.{rules}
use mathlib.Core.List.{List}
use mathlib.Core.Path.{◌≡◌, sym, ap, ◌∙◌}
use Prim.Native.Nat.{ℕ, ◌≤◌}
use native.Mathlib.Nat.{sub-zero}
use native.Mathlib.Omega.{arith}
use lib.ListN.{length, take}
use lib.Seq.{length-take-le}
use Rattle.limits.specs.Sizes.{most_variables}
use Rattle.reading.specs.Answer.{keeping, part_of}
use Rattle.symbols.specs.Symbols.{Symbols}
use Rattle.symbols.specs.Table.{symbols_in}
use Rattle.expressions.specs.ExpressionAt.{left_of, whole_at}
use Rattle.expressions.proofs.Parts.{whole_same}
use Rattle.book.proofs.trees.read_rule.Goals as goal

-- what is read in the part is read in the book
in-part : (bs : List ℕ) (S : Symbols) (e : ℕ) (sorts : List ℕ) (bound sort p : ℕ) → e ≤ length bs
    → whole_at (part_of bs 0 e) 0 S (length (part_of bs 0 e)) (take bound sorts) sort p ≡ whole_at bs 0 S e (take bound sorts) sort p
in-part bs S e sorts bound sort p h = rw (sub-zero e, length-take-le e bs h) (whole_same bs 0 e S (take bound sorts) sort p)

pub slice_bounds-read_whole-end : goal.slice_bounds-read_whole-end
slice_bounds-read_whole-end c =
    let a = c.args in
    let room : length a.path.sorts ≡ most_variables = search rules in
    sym (length-take-le a.path.bound a.path.sorts (omega arith))

pub returns : goal.returns
returns c =
    let a = c.args in
    c.read_whole.ensures
    ∙ ap (keeping left_of) (in-part a.table.book.now (symbols_in a.table.book.now a.table.at.now) a.e a.path.sorts a.path.bound a.sort a.p c.requires)
