-- `read_symbols` meets its contract: one symbol is read and its place stored, and the others follow. What is left of the part falls.
use native.Mathlib.Omega.{arith}
use Rattle.reading.proofs.Exits.{handed_on}
use Rattle.symbol_part.proofs.PartWays.{SymbolKept, symbol-kept, symbols-ended, symbols-refused, symbols-more}
use Prim.Native.Nat.{ℕ}
use Rattle.symbol_part.proofs.+read_symbols.Goals as goal
use Rattle.symbol_part.proofs.+read_symbols.Goals.{In_ok-next}

one : (t : ℕ) (c : In_ok-next t) → let a = c.args in SymbolKept a.s.now a.e a.before a.p c.in_ok-next.next
one t c = symbol-kept _ _ _ _ (omega arith) c.in_ok-next.ensures

pub returns-then-e-p : goal.returns-then-e-p
returns-then-e-p t c =
    let a = c.args in
    symbols-ended a.s.now a.e a.before a.p a.at.now c.if-e-p.true

pub returns-in_err-next : goal.returns-in_err-next
returns-in_err-next t c =
    let a = c.args in
    rw (handed_on _ c.from_residual.ensures.1) (symbols-refused a.s.now a.e a.before a.p a.at.now a.at.now c.if-e-p.false c.in_err-next.ensures)

pub bounds-at-before : goal.bounds-at-before
bounds-at-before t c = (one t (goal.at.bounds-at-before t c).In_ok-next).2.room

pub read_symbols-requires : goal.read_symbols-requires
read_symbols-requires t c =
    let read = (one t (goal.at.read_symbols-requires t c).In_ok-next).2 in
    (omega arith, (omega arith, omega arith, omega arith))

pub returns : goal.returns
returns t c =
    let a = c.args in
    let read = one t (goal.at.returns t c).In_ok-next in
    symbols-more a.s.now a.e a.before a.p a.at.now _ c.if-e-p.false read.1 read.2 c.read_symbols.ensures
