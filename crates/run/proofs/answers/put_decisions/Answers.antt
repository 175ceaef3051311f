-- `put_decisions` meets its contract: after i turns the numbers of the first i choices stand there.
use mathlib.Core.List.{[], ◌∷◌}
use mathlib.Core.Path.{◌≡◌, sym, ◌∙◌}
use Prim.Native.Nat.{◌+◌, ◌*◌, ◌≤◌}
use native.Mathlib.Omega.{arith}
use lib.ListN.{length}
use Rattle.limits.specs.declared.Side.{Side}
use Rattle.limits.specs.declared.Side.TheVariants.{Open, Left, Right}
use Rattle.machine.specs.Answers.{decision_numbers}
use Rattle.standing.proofs.Behind.{numbers-none, numbers-one}
use Rattle.standing.proofs.DecidedNumbers.{turned-length, turned-room, turned_more, turned-all}
use Rattle.run.proofs.answers.put_decisions.Goals as goal
use Rattle.run.proofs.answers.put_decisions.Goals.{After-side, in-Open, in-Left, in-Right}

-- there is room for its number, if it has one
room : (c : After-side) (s : Side) → c.side.result ≡ s
    → let loop = c.loop-i in
    loop.p + 2 * length (decision_numbers loop.i (s ∷ [])) ≤ length loop.bytes
room c s told = turned-room c.loop-i.invariant s (omega arith) (sym told ∙ c.side.ensures)

pub loop-i-init : goal.loop-i-init
unfolding decision_numbers
loop-i-init c =
    record { sides = c.requires.0; means = c.requires.1; fits = c.requires.2; there = numbers-none c.args.bytes.now c.args.from }

pub put_two-requires : goal.put_two-requires
unfolding decision_numbers
put_two-requires c = (room (goal.at.put_two-requires c).After-side Left c.in-Left.is, omega arith)

pub overflow_add-p : goal.overflow_add-p
unfolding decision_numbers
overflow_add-p c =
    omega (arith, room (goal.at.overflow_add-p c).After-side Left c.in-Left.is, turned-length c.loop-i.invariant)

pub put_two-requires-in-Right : goal.put_two-requires-in-Right
unfolding decision_numbers
put_two-requires-in-Right c = (room (goal.at.put_two-requires-in-Right c).After-side Right c.in-Right.is, omega arith)

pub overflow_add-p-in-Right : goal.overflow_add-p-in-Right
unfolding decision_numbers
overflow_add-p-in-Right c =
    omega (arith, room (goal.at.overflow_add-p-in-Right c).After-side Right c.in-Right.is, turned-length c.loop-i.invariant)

pub loop-i-preserved : goal.loop-i-preserved
unfolding decision_numbers
loop-i-preserved c =
    let loop = c.loop-i in
    let read = c.side.ensures in
    let next = turned_more loop.invariant in
    elim c.match-side.branch [
      | in-Open w ↦ rw (w.bytes-is, w.p-is) (next Open (omega arith) (sym w.in-Open.is ∙ read) loop.bytes loop.p (numbers-none loop.bytes loop.p))
      | in-Left w ↦ rw (w.bytes-is, w.p-is) (next Left (omega arith) (sym w.in-Left.is ∙ read) _ (loop.p + 2) (numbers-one loop.bytes loop.p (2 * loop.i) _ w.put_two.ensures))
      | in-Right w ↦ rw (w.bytes-is, w.p-is) (next Right (omega arith) (sym w.in-Right.is ∙ read) _ (loop.p + 2) (numbers-one loop.bytes loop.p (2 * loop.i + 1) _ w.put_two-in-Right.ensures))
    ]

pub shape_of-bytes : goal.shape_of-bytes
shape_of-bytes c = turned-length c.loop-i.invariant

pub returns : goal.returns
returns c = turned-all c.loop-i.invariant (omega arith)
