-- `put_book` meets its contract.
use native.Mathlib.Omega.{arith}
use Rattle.listings.proofs.WriteWays.{front_long, book-long, book-put}
use Rattle.listings.proofs.write.Rows.put_book.Goals as goal

pub put_front-p-requires : goal.put_front-p-requires
put_front-p-requires c = c.args.self.holding.terms.few

pub overflow_sub-size : goal.overflow_sub-size
overflow_sub-size c =
    let a = c.args in
    let pre = c.requires in
    let long = book-long a.self.from.now a.self.to.now a.self.n in
    omega (arith, pre.0)

pub overflow_sub-size-2 : goal.overflow_sub-size-2
overflow_sub-size-2 c =
    let a = c.args in
    let pre = c.requires in
    let long = book-long a.self.from.now a.self.to.now a.self.n in
    omega (arith, pre.0)

pub put_trees-requires : goal.put_trees-requires
put_trees-requires c =
    let a = c.args in
    let pre = c.requires in
    let long = book-long a.self.from.now a.self.to.now a.self.n in
    (omega (arith, pre.0), omega (arith, pre.0, pre.1, c.put_front-p.ensures.behind, front_long a.self.n))

pub returns : goal.returns
returns c =
    let a = c.args in
    let pre = c.requires in
    let long = book-long a.self.from.now a.self.to.now a.self.n in
    let trees = c.put_trees.ensures in
    rw pre.0
    (book-put a.self.from.now a.self.to.now a.self.n (omega (arith, pre.0)) (omega (arith, pre.0, pre.2)) c.put_front-p.ensures trees)
