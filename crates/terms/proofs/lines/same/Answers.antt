-- `same` meets its contract: `==` compares as the definition does.
use mathlib.Core.Path.{◌∙◌}
use Rattle.terms.specs.Places.{bytes_of}
use Rattle.terms.proofs.NameWays.{same-pointwise}
use Rattle.terms.proofs.lines.same.Goals as goal

pub returns : goal.returns
returns c =
    let a = c.args in
    let compared = rw (c.part_of.ensures, c.part_of-2.ensures) at c.eq.ensures in
    compared ∙ same-pointwise (bytes_of a.s.now a.a a.end) (bytes_of a.s.now a.b a.until)
