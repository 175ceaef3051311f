-- What the code's answers mean in the words of the definitions.
use Rattle.std.specs.Prelude.{Option, Some, None, List, ℕ, ◌+◌, drop}
use Rattle.tagged.specs.Lines.{Line, heading, broader, narrower, other}
use Rattle.terms.specs.declared.lines.Form.{Form}
use Rattle.terms.specs.declared.lines.Form.TheVariants.{Heading, Broader, Narrower, Other}

-- the line with these bytes that has this form
abbrev pub line_by : Form → List ℕ → Line
line_by Heading bs = heading bs
line_by Broader bs = broader (drop 5 bs)
line_by Narrower bs = narrower (drop 5 bs)
line_by Other bs = other

-- the number of a form, as a line's kind has it
abbrev pub kind_told : Form → ℕ
kind_told Heading = 1
kind_told Broader = 2
kind_told Narrower = 3
kind_told Other = 0

-- what a line is worth, where it adds so many headings, or is not of this form
abbrev pub worth_told : Option ℕ → ℕ
worth_told None = 0
worth_told (Some added) = added + 1
