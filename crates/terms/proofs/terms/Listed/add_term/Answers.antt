-- `add_term` meets its contract.
use mathlib.Core.Path.{refl}
use borrow.Author.Rules.{rules}
use Rattle.terms.proofs.TermWays.{grown_small, added_sum}
use Rattle.terms.proofs.terms.Listed.add_term.Goals as goal

pub overflow_add-self-2 : goal.overflow_add-self-2
overflow_add-self-2 c =
    let few = grown_small c.args.self.now.sum.own in
    let is = c.grown.ensures in
    search rules

pub returns : goal.returns
returns c = record { added = added_sum c.args.self.now.sum c.grown.ensures; row_ends = refl; term_noted = refl }
