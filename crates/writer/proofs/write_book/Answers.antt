-- `write_book` meets its contract: what was made is laid into the room, or refused.
use mathlib.Core.Path.{◌≡◌}
use Rattle.std.proofs.Common.{Err}
use Rattle.writer.proofs.Making.{refusal-laid, no_room, book-laid}
use borrow.Author.Rules.{rules}
use Rattle.writer.proofs.write_book.Goals as goal

pub returns-in_err-made : goal.returns-in_err-made
returns-in_err-made c =
    let a = c.args in
    let e : c.from_residual.result ≡ Err c.in_err-made.field-0.0 = search rules in
    rw e (refusal-laid (record { symbols = a.symbols.now; trees = a.trees.now }) a.room.now c.in_err-made.field-0.0 c.in_err-made.ensures.0)

pub returns-then-room-size : goal.returns-then-room-size
returns-then-room-size c =
    let a = c.args in
    let m = c.in_ok-made.made in
    no_room (record { symbols = a.symbols.now; trees = a.trees.now }) a.room.now m c.in_ok-made.ensures.0 c.in_ok-made.ensures.1 c.if-room-size.true

pub returns : goal.returns
returns c =
    let a = c.args in
    let m = c.in_ok-made.made in
    book-laid (record { symbols = a.symbols.now; trees = a.trees.now }) a.room.now m c.in_ok-made.ensures.0 c.in_ok-made.ensures.1 _ c.if-room-size.false (rw c.copy_from_slice.ensures.after)
