-- `read_symbol` meets its contract: each test of the code is a clause of the refusals, in their order, and then come the sorts.
use mathlib.Core.Path.{◌∙◌}
use native.Mathlib.Omega.{arith}
use Rattle.symbol_part.proofs.PartWays.{symbol-past, symbol-over, symbol-short, symbol-long, symbol_kind, symbol-sort, symbol_sorts}
use Rattle.symbol_part.proofs.read_symbol.Goals as goal

pub returns-then-e-p : goal.returns-then-e-p
returns-then-e-p c =
    let a = c.args in
    rw c.at.ensures (symbol-past a.s.now a.e a.before a.p (omega arith))

pub returns-then-before-ge-SYMBOLS : goal.returns-then-before-ge-SYMBOLS
returns-then-before-ge-SYMBOLS c =
    let a = c.args in
    rw c.at-then-before-ge-SYMBOLS.ensures (symbol-over a.s.now a.e a.before a.p (omega arith) (omega arith))

pub returns-then-n-lt2 : goal.returns-then-n-lt2
returns-then-n-lt2 c =
    let a = c.args in
    rw c.at-then-n-lt2.ensures (symbol-short a.s.now a.e a.before a.p (omega arith) (omega arith) (omega arith))

pub returns-then-n : goal.returns-then-n
returns-then-n c =
    let a = c.args in
    rw c.at-then-n.ensures (symbol-long a.s.now a.e a.before a.p (omega arith) (omega arith) (omega arith) (omega arith))

pub returns-then-byte-gt1 : goal.returns-then-byte-gt1
returns-then-byte-gt1 c =
    let a = c.args in
    rw c.at-then-byte-gt1.ensures (symbol_kind a.s.now a.e a.before a.p (omega arith) (omega arith) (omega arith) (omega arith) (omega arith))

pub returns-then-byte-gt-LAST_SORT : goal.returns-then-byte-gt-LAST_SORT
returns-then-byte-gt-LAST_SORT c =
    let a = c.args in
    rw c.at-then-byte-gt-LAST_SORT.ensures (symbol-sort a.s.now a.e a.before a.p (omega arith) (omega arith) (omega arith) (omega arith) (omega arith) (omega arith))

pub returns : goal.returns
returns c =
    let a = c.args in
    let same = c.wide_byte-n.ensures.0 in
    let rest = symbol_sorts a.s.now a.e a.before a.p (omega arith) (omega arith) (omega arith) (omega arith) (omega arith) same (omega arith) in
    c.read_sorts.ensures ∙ rest
