-- `put_rows` meets its contract: after i turns the first i numbers are put.
use mathlib.Core.List.{map}
use mathlib.Core.Path.{sym, ◌∙◌}
use native.Mathlib.Omega.{arith}
use lib.ListN.{length-map, get_or-map}
use Rattle.writer.specs.Layout.{byte_of}
use Rattle.writer.proofs.Making.{put-more, put_all}
use Rattle.writer.proofs.made.Made.put_rows.Goals as goal

pub loop-n-preserved : goal.loop-n-preserved
loop-n-preserved c =
    let a = c.args in
    let was = a.self.now in
    let turn = c.loop-n in
    let i = turn.n-index in
    let many = length-map a.rows.now byte_of in
    let byte = c.byte_of.ensures ∙ sym (get_or-map byte_of a.rows.now i 0) in
    (omega arith, c.put_byte.ensures ∙ rw turn.invariant.0 (put-more was.bytes (map byte_of a.rows.now) turn.self.bytes was.size i turn.invariant.1 _ _ (omega arith) byte))

pub returns : goal.returns
returns c =
    let a = c.args in
    let was = a.self.now in
    let turn = c.loop-n in
    let many = length-map a.rows.now byte_of in
    record {
      size = omega arith;
      bytes = put_all was.bytes (map byte_of a.rows.now) turn.self.bytes was.size turn.n-index turn.invariant.1 (omega arith);
    }
