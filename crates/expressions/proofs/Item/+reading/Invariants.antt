-- What the loops of `+reading` keep.
use Prim.Native.Nat.{ℕ, ◌+◌, ◌-◌, ◌*◌, ◌≤◌}
use mathlib.Core.Path.{◌≡◌}
use lib.ListN.{length, drop}
use Rattle.reading.specs.Reading.{got}
use Rattle.reading.specs.Answer.{keeping, base_of}
use Rattle.expressions.specs.ExpressionAt.{left_of, row_with}
use Rattle.expressions.specs.Items.{symbols_of, expr_in}
use Rattle.expressions.proofs.Nested.{Inward, Outward}
use Rattle.expressions.proofs.Item.+reading.Given as goal

-- the bytes left fall at each step inward
abbrev pub decreases-read_expr : goal.decreases-read_expr
decreases-read_expr l = (length l.self.now.s.now - l.p) * 3 + 1

abbrev pub decreases-read_row : goal.decreases-read_row
decreases-read_row l = (length l.self.now.s.now - l.p) * 3 + 2

abbrev pub decreases-read_shared : goal.decreases-read_shared
decreases-read_shared l = (length l.self.now.s.now - l.p) * 3

-- a body is read by one call
abbrev pub decreases-read_body : goal.decreases-read_body
decreases-read_body l = (length l.self.now.s.now - l.p) * 3 + 2

-- the first of the row are read, and the others are to be
abbrev pub invariant-read_row-loop-sort : goal.invariant-read_row-loop-sort
invariant-read_row-loop-sort l =
    (l.p ≤ l.next)
    × ((f : ℕ) → length l.self.s.now ≤ l.p + f
    → keeping left_of (row_with (expr_in l.self f l.vars) l.sorts l.left l.p) ≡ keeping left_of
    (row_with (expr_in l.self f l.vars) (drop l.sort-index l.sorts) l.rest l.next))

-- a shared part stands at q, some firsts further in
abbrev pub invariant-read_shared-inward : goal.invariant-read_shared-inward
invariant-read_shared-inward l =
    let i = l.self in
    Inward i.s.now (base_of i.who) (symbols_of i) (length i.s.now) l.vars l.sort l.left l.p l.q

abbrev pub decreases-read_shared-inward : goal.decreases-read_shared-inward
decreases-read_shared-inward l = length l.self.s.now - l.q

-- what stands in the innermost is read, and the bodies of all but the first k
abbrev pub invariant-read_shared-loop-k : goal.invariant-read_shared-loop-k
invariant-read_shared-loop-k l =
    let i = l.self in
    Outward i.s.now (base_of i.who) (symbols_of i) (length i.s.now) l.vars l.sort l.left l.p l.k (got l.rest l.next)
