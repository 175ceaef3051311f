-- What the loops of `add_records` keep.
use Prim.Native.Nat.{◌-◌}
use lib.ListN.{length}
use Rattle.figures.specs.Figures.{answer_at, records_at}
use Rattle.figures.specs.InCode.{behind_record, record_over}
use Rattle.figures.proofs.Repeated.{Ahead}
use Rattle.figures.proofs.adding.add_records.Given as goal

abbrev pub invariant-loop-p : goal.invariant-loop-p
invariant-loop-p l =
    Ahead (behind_record l.books) (record_over l.books l.version) l.e (answer_at l.books l.version l.e) (records_at l.books (length l.books) l.version l.e l.initial.totals l.from) l.initial.totals l.from l.p l.totals

abbrev pub decreases-loop-p : goal.decreases-loop-p
decreases-loop-p l = l.e - l.p
