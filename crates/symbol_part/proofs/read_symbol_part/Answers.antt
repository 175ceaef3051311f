-- `read_symbol_part` meets its contract: the rows are read.
use mathlib.Core.Path.{sym, ap, ◌∙◌}
use Rattle.reading.proofs.Exits.{handed_on}
use Rattle.reading.specs.Answer.{reading_of}
use Rattle.symbol_part.proofs.read_symbol_part.Goals as goal

pub returns-in_err-count-clause-reading : goal.returns-in_err-count-clause-reading
returns-in_err-count-clause-reading c =
    rw (handed_on _ c.from_residual.ensures.1) (ap reading_of (sym c.in_err-count.was) ∙ c.symbol_rows-rows.ensures.0)

pub returns-clause-reading : goal.returns-clause-reading
returns-clause-reading c = ap reading_of (sym c.in_ok-count.was) ∙ c.symbol_rows-rows.ensures.0
