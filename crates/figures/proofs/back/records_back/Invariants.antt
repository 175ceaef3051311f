-- What the loops of `records_back` keep.
use Prim.Native.Nat.{◌-◌}
use Rattle.figures.specs.InCode.{behind_record, record_over}
use Rattle.figures.proofs.Repeated.{Going}
use Rattle.figures.proofs.back.records_back.Given as goal

abbrev pub invariant-loop-p : goal.invariant-loop-p
invariant-loop-p l = Going (behind_record l.books) (record_over l.books l.version) l.e l.from l.initial.totals l.p l.totals

abbrev pub decreases-loop-p : goal.decreases-loop-p
decreases-loop-p l = l.e - l.p
