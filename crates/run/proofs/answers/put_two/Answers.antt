-- `put_two` meets its contract: its two stores are the two bytes of the number.
use native.Mathlib.Omega.{arith}
use lib.ListN.{length-set}
use Rattle.standing.proofs.Behind.{two_stored}
use Rattle.run.proofs.answers.put_two.Goals as goal

pub bounds-bytes-p-2 : goal.bounds-bytes-p-2
bounds-bytes-p-2 c = simp length-set (omega arith)

pub returns : goal.returns
returns c = two_stored c.args.bytes.now c.args.p c.args.n c.requires.0 c.requires.1
