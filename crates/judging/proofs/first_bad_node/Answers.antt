-- `first_bad_node` meets its contract.
use mathlib.Core.Path.{◌≡◌}
use Prim.Native.Nat.{min}
use native.Mathlib.Omega.{arith}
use Rattle.limits.specs.Sizes.{most_nodes}
use Rattle.judging.proofs.first_bad_node.Goals as goal

pub returns : goal.returns
returns c =
    let many : c.min.result ≡ min most_nodes c.args.used = omega (arith, c.min.ensures) in
    rw (← many) c.first_bad.ensures
