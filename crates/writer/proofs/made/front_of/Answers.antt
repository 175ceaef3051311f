-- `front_of` meets its contract: the version byte, the length, then the numbers.
use mathlib.Core.Path.{◌∙◌}
use native.Mathlib.Omega.{arith}
use lib.ListN.{replicate, length-map}
use Rattle.limits.specs.Sizes.{most_book_bytes}
use Rattle.writer.specs.Layout.{byte_of}
use Rattle.writer.proofs.Making.{front-put}
use Rattle.writer.proofs.made.front_of.Goals as goal

pub returns : goal.returns
returns c =
    let rows = c.args.rows.now in (
      omega (arith, c.put_rows.ensures.size, length-map rows byte_of),
      c.put_rows.ensures.bytes ∙ front-put (replicate most_book_bytes 0) rows c.put_byte.ensures (c.put_two.ensures.number (omega arith)),
    )
