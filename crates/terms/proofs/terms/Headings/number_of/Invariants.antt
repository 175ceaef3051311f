-- What the loops of `number_of` keep.
use mathlib.Core.Path.{◌≡◌}
use Prim.Native.Nat.{◌+◌}
use Rattle.tagged.specs.Lines.{lines_of}
use Rattle.tagged.specs.Listing.{number_of, headings_of}
use Rattle.terms.specs.Places.{bytes_of}
use Rattle.terms.proofs.TermsNoted.{number_from}
use Rattle.terms.proofs.terms.Headings.number_of.Given as goal

abbrev pub invariant-loop-x : goal.invariant-loop-x
invariant-loop-x l =
    number_of (bytes_of l.self.s.now l.from l.until) (headings_of (lines_of l.self.s.now)) ≡ l.x + number_from (bytes_of l.self.s.now l.from l.until) (headings_of (lines_of l.self.s.now)) l.x
