-- `meet_line` meets its contract.
use Prim.Native.Nat.{◌≤◌}
use native.Mathlib.Omega.{arith}
use borrow.Author.Rules.{rules}
use lib.ListN.{length}
use Rattle.terms.proofs.JudgeWays.{end-within}
use Rattle.terms.proofs.judge.Noted.meet_line.Goals as goal

pub side_at-side-requires : goal.side_at-side-requires
side_at-side-requires c = c.requires.under.there

pub returns-in-Neither : goal.returns-in-Neither
returns-in-Neither c = c.requires.mirrored

pub overflow_add-q : goal.overflow_add-q
overflow_add-q c =
    let a = c.args in
    let there : a.q ≤ length a.s.now = c.requires.under.there in
    search rules

pub key_of-key-requires : goal.key_of-key-requires
key_of-key-requires c =
    let a = c.args in
    let s = a.s.now in
    let under = c.requires.under in
    let g_end = c.line_end-g_end.ensures in
    let q-end = c.line_end-q_end.ensures in
    (omega (arith, g_end, end-within s a.g under.above), omega (arith, q-end, end-within s a.q under.there))

pub loop-i-init : goal.loop-i-init
loop-i-init c = c.requires.mirrored

pub returns-then-i-gt-TABLE : goal.returns-then-i-gt-TABLE
returns-then-i-gt-TABLE c = c.loop-i.invariant

pub meet_entry-requires : goal.meet_entry-requires
meet_entry-requires c = record { under = c.requires.under; mirrored = c.loop-i.invariant; entry = omega arith }

pub returns-then-meet_entry : goal.returns-then-meet_entry
returns-then-meet_entry c = c.meet_entry.ensures

pub returns-then-i-next : goal.returns-then-i-next
returns-then-i-next c = c.meet_entry.ensures

pub loop-i-smaller : goal.loop-i-smaller
loop-i-smaller c = omega (arith, c.if-i-next.false)

pub loop-i-preserved : goal.loop-i-preserved
loop-i-preserved c = c.meet_entry.ensures

pub returns : goal.returns
returns c = c.loop-i.invariant
