-- `is_printed` meets its contract: each byte is looked at.
use borrow.Author.Rules.{rules}
use Rattle.std.specs.Prelude.{◌↔◌, IsTrue}
use Rattle.std.specs.List.{All}
use Rattle.terms.specs.Places.{bytes_of}
use Rattle.terms.proofs.NameWays.{Printed, printed-told}
use Rattle.terms.proofs.lines.is_printed.Goals as goal

pub returns : goal.returns
returns c =
    let bytes = bytes_of c.args.s.now c.args.from c.args.to in
    let all : IsTrue c.all.result ↔ All Printed bytes = search rules in
    printed-told c.all.result bytes all
