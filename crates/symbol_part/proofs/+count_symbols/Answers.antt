-- `count_symbols` meets its contract: a symbol that is read counts, and the others follow. What is left of the part falls.
use native.Mathlib.Omega.{arith}
use Rattle.symbol_part.proofs.PartWays.{SymbolKept, symbol-kept}
use Rattle.symbol_part.proofs.CountWays.{count-ended, count-refused, count-more}
use Prim.Native.Nat.{ℕ}
use Rattle.symbol_part.proofs.+count_symbols.Goals as goal
use Rattle.symbol_part.proofs.+count_symbols.Goals.{In-Ok}

-- the next symbol, where it has been read
one : (t : ℕ) (c : In-Ok t) → let a = c.args in SymbolKept a.s.now a.e a.before a.p c.in-Ok.next
one t c = symbol-kept _ _ _ _ (omega arith) c.in-Ok.ensures

pub returns-then-e-p : goal.returns-then-e-p
returns-then-e-p t c =
    let a = c.args in
    (count-ended a.s.now a.e a.before a.p c.if-e-p.true, omega arith)

pub count_symbols-requires : goal.count_symbols-requires
count_symbols-requires t c =
    let read = (one t (goal.at.count_symbols-requires t c).In-Ok).2 in
    (omega arith, (omega arith, omega arith, omega arith))

pub returns-in-Err : goal.returns-in-Err
returns-in-Err t c =
    let a = c.args in
    (count-refused a.s.now a.e a.before a.p c.if-e-p.false c.in-Err.ensures, omega arith)

pub returns-in-Ok : goal.returns-in-Ok
returns-in-Ok t c =
    let a = c.args in
    let first = one t (goal.at.returns-in-Ok t c).In-Ok in
    let rest = c.count_symbols.ensures in
    (count-more a.s.now a.e a.before a.p c.if-e-p.false first.1 first.2 rest.0, rest.1)
