-- `put_byte` meets its contract: past the end nothing is there to change.
use mathlib.Core.Path.{sym}
use lib.Seq.{set_out}
use Rattle.writer.proofs.put.put_byte.Goals as goal

pub returns-else-p-book : goal.returns-else-p-book
returns-else-p-book c =
    let a = c.args in
    sym (set_out a.book.now a.p a.b c.if-p-book.false)
