-- `chain_of` meets its contract. The loop's invariant: the symbols from f on are chained, and of each sort the first constructor among them is known.
use mathlib.Core.List.{List}
use mathlib.Core.Path.{◌≡◌, ◌∙◌}
use Prim.Native.Nat.{ℕ, suc, ◌-◌, ◌<◌}
use native.Mathlib.Omega.{arith}
use borrow.Author.Tests.{not-true, not-false}
use lib.ListN.{length}
use Rattle.symbols.specs.Symbols.{symbol_of}
use Rattle.symbols.specs.Table.{symbols_in}
use Rattle.symbols.proofs.Tables.{kind_there, sort-there, as_many}
use Rattle.symbol_part.proofs.Chains.{chained-none, chained-operation, chained-constructor, chained-all}
use Rattle.symbol_part.proofs.chain_of.Goals as goal
use Rattle.symbol_part.proofs.chain_of.Goals.{After-is_operation}

module _ (c : After-is_operation) where
  abbrev book : List ℕ
  book = c.args.book.now

  abbrev places : List ℕ
  places = c.args.at.now

  -- the code stands at symbol `from` and looks at the one before it
  abbrev from : ℕ
  from = c.loop-f.f

  before : from ≡ suc (from - 1)
  before = omega arith

  -- that symbol is there
  here : from - 1 < length (symbols_in book places)
  here = omega (arith, as_many book places)

  -- its sort is what the code has looked up
  its-sort : (symbol_of (symbols_in book places) (from - 1)).sort ≡ c.sort_of-s.result
  its-sort = sort-there book places (from - 1) (omega arith) c.sort_of-s.ensures

  -- and so is its kind
  its-kind : (symbol_of (symbols_in book places) (from - 1)).is_operation ≡ c.is_operation.result
  its-kind = kind_there book places (from - 1) (omega arith) c.is_operation.ensures

pub loop-f-init : goal.loop-f-init
loop-f-init c =
    let a = c.args in
    let many = as_many a.book.now a.at.now in
    (omega arith, chained-none (symbols_in a.book.now a.at.now) (omega arith) (omega arith))

pub loop-f-preserved-then-not-is_operation : goal.loop-f-preserved-then-not-is_operation
loop-f-preserved-then-not-is_operation c =
    let constructor = not-true c.is_operation.result c.if-not-is_operation.true-raw in
    let r = c.loop-f.invariant.1 in
    (omega arith, chained-constructor _ (before (goal.at.loop-f-preserved-then-not-is_operation c).After-is_operation) (here (goal.at.loop-f-preserved-then-not-is_operation c).After-is_operation) r c.sort_of-s.result (its-sort (goal.at.loop-f-preserved-then-not-is_operation c).After-is_operation) (omega arith) (its-kind (goal.at.loop-f-preserved-then-not-is_operation c).After-is_operation ∙ constructor))

pub loop-f-preserved : goal.loop-f-preserved
loop-f-preserved c =
    let operation = not-false c.is_operation.result c.if-not-is_operation.false-raw in
    let r = c.loop-f.invariant.1 in
    (omega arith, chained-operation _ (before (goal.at.loop-f-preserved c).After-is_operation) (here (goal.at.loop-f-preserved c).After-is_operation) r c.sort_of-s.result (its-sort (goal.at.loop-f-preserved c).After-is_operation) (omega arith) (its-kind (goal.at.loop-f-preserved c).After-is_operation ∙ operation))

pub returns : goal.returns
returns c =
    let a = c.args in
    let first : c.loop-f.f ≡ 0 = omega arith in
    chained-all (symbols_in a.book.now a.at.now) (rw first at c.loop-f.invariant.1)
