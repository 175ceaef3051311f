-- Refusals of a listing, by their numbers.
use Rattle.std.specs.Prelude.{ℕ}
use Rattle.terms.specs.declared.faults.Fault.{Fault}
use Rattle.terms.specs.declared.faults.Fault.TheVariants.{BadLine, HeadingTwice, NoMirror, Size, ShortRow}

abbrev pub number_of : Fault → ℕ
number_of BadLine = 40
number_of HeadingTwice = 41
number_of NoMirror = 42
number_of Size = 43
number_of ShortRow = 44
