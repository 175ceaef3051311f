-- `entry_at` meets its contract: what is noted anew is not yet met.
use native.Mathlib.Omega.{arith}
use Rattle.terms.proofs.MeetWays.{met_start}
use Rattle.terms.proofs.judge.Noted.entry_at.Goals as goal

pub returns-then-is_noted : goal.returns-then-is_noted
returns-then-is_noted c = record { low = omega arith; mirrored = c.requires.mirrored }

pub note_lines-requires : goal.note_lines-requires
note_lines-requires c = (omega arith, omega arith)

pub meet_lines-requires : goal.meet_lines-requires
meet_lines-requires c = met_start c.args.s.now _ _

pub returns : goal.returns
returns c = record { low = omega arith; mirrored = c.meet_lines.ensures }
