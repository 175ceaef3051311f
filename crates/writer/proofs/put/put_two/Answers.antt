-- `put_two` meets its contract: its two stores are the two bytes of the number, and past the end nothing is there to change.
use mathlib.Core.Path.{sym, ◌∙◌}
use Prim.Native.Nat.{◌/◌, ◌%◌}
use Rattle.writer.proofs.Putting.{pair-put, pair_out, two-put, two_out}
use Rattle.writer.proofs.put.put_two.Goals as goal

pub returns-then-p-book-clause-bytes : goal.returns-then-p-book-clause-bytes
returns-then-p-book-clause-bytes c =
    let a = c.args in
    c.put_byte-then-p-book.ensures ∙ rw c.put_byte.ensures (pair-put a.book.now a.p (a.n / 256 % 256) (a.n % 256))

pub returns-then-p-book-clause-number : goal.returns-then-p-book-clause-number
returns-then-p-book-clause-number c =
    let a = c.args in
    λ small. c.put_byte-then-p-book.ensures ∙ rw c.put_byte.ensures (two-put a.book.now a.p a.n small)

pub returns-else-p-book-clause-bytes : goal.returns-else-p-book-clause-bytes
returns-else-p-book-clause-bytes c =
    let a = c.args in
    sym (pair_out a.book.now a.p (a.n / 256 % 256) (a.n % 256) c.if-p-book.false)

pub returns-else-p-book-clause-number : goal.returns-else-p-book-clause-number
returns-else-p-book-clause-number c =
    let a = c.args in
    λ small. sym (two_out a.book.now a.p a.n c.if-p-book.false)
