-- The book took a byte at least, and the questions behind it take no byte back.
use Rattle.tables.specs.Rows.{TakesSome}
use Rattle.jobs.proofs.run_book.Given as goal

abbrev pub invariant-loop : goal.invariant-loop
invariant-loop g l = TakesSome l.fn.row l.row
