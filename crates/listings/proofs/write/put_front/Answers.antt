-- `put_front` meets its contract.
use Prim.Native.Nat.{◌+◌}
use native.Mathlib.Omega.{arith}
use Rattle.reading.specs.Bytes.{two_bytes}
use Rattle.listings.proofs.PutWays.{kinds-long}
use Rattle.listings.proofs.WriteWays.{front-put}
use Rattle.listings.proofs.write.put_front.Goals as goal

pub put_two-p-requires : goal.put_two-p-requires
unfolding two_bytes
put_two-p-requires c = (omega arith, omega (arith, c.put-p.ensures.behind))

pub put_symbols-p-requires : goal.put_symbols-p-requires
unfolding two_bytes
put_symbols-p-requires c =
    omega (arith, c.put-p.ensures.behind, c.put_two-p.ensures.behind, kinds-long c.args.n 0)

pub put_symbols-requires : goal.put_symbols-requires
unfolding two_bytes
put_symbols-requires c =
    let n = c.args.n in
    let behind = c.put-p.ensures.behind in
    omega (arith, behind, c.put_two-p.ensures.behind, c.put_symbols-p.ensures.behind, kinds-long n 0, kinds-long (n + n) 1)

pub returns : goal.returns
returns c =
    let operations = c.put_symbols.ensures in
    front-put c.args.n c.put-p.ensures c.put_two-p.ensures c.put_symbols-p.ensures operations
