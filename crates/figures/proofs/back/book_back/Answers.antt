-- `book_back` meets its contract: its records are taken off.
use mathlib.Core.Path.{ap₂}
use Prim.Native.Nat.{ℕ, ◌+◌, ◌*◌}
use Rattle.figures.proofs.back.book_back.Goals as goal

pub shape_of-totals : goal.shape_of-totals
shape_of-totals c = c.records_back.ensures.long

pub returns : goal.returns
returns c =
    let low = c in
    let high = c in
    let p = c.args.p in
    let end = ap₂ (λ (high low : ℕ). p + 4 + (high * 65536 + low)) c.number.ensures.0 c.number-2.ensures.0 in
    (end, rw (← end, ← c.wide_byte.ensures.0) c.records_back.ensures)
