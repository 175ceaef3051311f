-- The checksum of the numbers themselves, as each stands for itself.
use Rattle.tables.specs.Checksum.{at_numbers}
use Rattle.tables.proofs.tests.of_numbers.Goals as goal

pub returns : goal.returns
returns c = at_numbers 0 _ _ c.checksum_of.ensures
