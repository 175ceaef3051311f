-- `meet_entry` meets its contract.
use native.Mathlib.Omega.{arith}
use Rattle.terms.proofs.judge.Noted.meet_entry.Goals as goal

pub returns-then-s-p : goal.returns-then-s-p
returns-then-s-p c = c.requires.mirrored

pub returns-then-s-h : goal.returns-then-s-h
returns-then-s-h c = c.requires.mirrored

pub is_mirror-requires : goal.is_mirror-requires
is_mirror-requires c =
    let under = c.requires.under in
    (omega arith, omega arith, under.above, under.there)

pub returns-then-met-k : goal.returns-then-met-k
returns-then-met-k c = c.requires.mirrored
