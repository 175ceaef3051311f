-- `put_symbols` meets its contract: those from i on are left to be put.
use Prim.Native.Nat.{◌+◌, ◌-◌}
use native.Mathlib.Nat.{sub-zero}
use native.Mathlib.Omega.{arith}
use Rattle.listings.specs.Putting.{kind_laid, kinds_laid}
use Rattle.listings.proofs.PutWays.{left-all, left-put, left-fits, left-same, left-none, kinds-one, kinds-none}
use Rattle.listings.proofs.write.put_symbols.Goals as goal

pub loop-i-init : goal.loop-i-init
loop-i-init c = (omega arith, rw sub-zero left-all)

pub put_symbol-p-requires : goal.put_symbol-p-requires
put_symbol-p-requires c =
    let a = c.args in
    let l = c.loop-i in
    let split = kinds-one a.many a.kind l._i c.loop-i-test.true in
    left-fits (kind_laid a.kind) (kinds_laid (a.many - (l._i + 1)) a.kind) split l.invariant.1 c.requires

pub loop-i-preserved : goal.loop-i-preserved
loop-i-preserved c =
    let l = c.loop-i in
    let a = c.args in
    (omega arith, left-put (kinds-one a.many a.kind l._i c.loop-i-test.true) l.invariant.1 c.put_symbol-p.ensures)

pub shape_of-room : goal.shape_of-room
shape_of-room c = left-same c.loop-i.invariant.1

pub returns : goal.returns
returns c =
    let a = c.args in
    let l = c.loop-i in
    left-none (kinds-none a.many a.kind l._i c.loop-i-test.false) l.invariant.1
