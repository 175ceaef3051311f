-- `lay` meets its contract: what was made is laid into the room, or refused.
use Rattle.converter.specs.Scan.{scanned}
use Rattle.converter.proofs.ConvertWays.{too_large_lem, no_room, book-laid}
use Rattle.converter.proofs.lay.Goals as goal

pub returns-then-size-gt-BOOK : goal.returns-then-size-gt-BOOK
returns-then-size-gt-BOOK c =
    let a = c.args in
    too_large_lem (scanned a.old.book.now a.old.ends.now) a.room.now c.converted-made.ensures.size c.if-size-gt-BOOK.true

pub returns-then-room-size : goal.returns-then-room-size
returns-then-room-size c =
    let a = c.args in
    no_room (scanned a.old.book.now a.old.ends.now) a.room.now c.converted-made.ensures.size c.if-size-gt-BOOK.false c.if-room-size.true

pub returns : goal.returns
returns c =
    let a = c.args in
    let made = c.converted-made.ensures in
    let small = c.if-size-gt-BOOK.false in
    book-laid (scanned a.old.book.now a.old.ends.now) a.room.now made.size small c.if-room-size.false (made.bytes small) (rw c.copy_from_slice.ensures.after)
