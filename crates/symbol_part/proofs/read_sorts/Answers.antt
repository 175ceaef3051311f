-- `read_sorts` meets its contract: one sort is tested after the other.
use mathlib.Core.Path.{◌≡◌, sym, ap, ◌∙◌}
use Rattle.reading.specs.Reading.{got}
use Prim.Native.Nat.{ℕ, ◌+◌, ◌-◌}
use native.Mathlib.Omega.{arith}
use Rattle.reading.specs.Answer.{keeping, nothing}
use Rattle.symbols.specs.SymbolPart.{sorts_at}
use Rattle.symbol_part.proofs.PartWays.{sorts_none, sorts_refused, sorts_next}
use Rattle.symbol_part.proofs.read_sorts.Goals as goal

pub loop-q-init : goal.loop-q-init
loop-q-init c =
    let a = c.args in
    let all : a.p + a.n - a.p ≡ a.n = omega arith in
    ap (λ (k : ℕ). keeping nothing (sorts_at a.s.now k a.p)) all

pub returns-then-byte-gt-LAST_SORT : goal.returns-then-byte-gt-LAST_SORT
returns-then-byte-gt-LAST_SORT c =
    let a = c.args in
    let q = c.loop-q.q in
    rw c.at.ensures (sorts_refused a.s.now (a.p + a.n - q) q (λ none. omega arith) (omega arith) ∙ c.loop-q.invariant)

pub loop-q-preserved : goal.loop-q-preserved
loop-q-preserved c =
    let a = c.args in
    let q = c.loop-q.q in
    let left = a.p + a.n - q in
    let one_less : a.p + a.n - (q + 1) ≡ left - 1 = omega arith in
    ap (λ (k : ℕ). keeping nothing (sorts_at a.s.now k (q + 1))) one_less
    ∙ sorts_next a.s.now left q (λ none. omega arith) (omega arith) ∙ c.loop-q.invariant

pub returns : goal.returns
returns c =
    let a = c.args in
    let q = c.loop-q.q in
    let at_end : q ≡ a.p + a.n = omega arith in
    ap (λ (k : ℕ). got 0 k) (sym at_end) ∙ sorts_none a.s.now (a.p + a.n - q) q (omega arith) ∙ c.loop-q.invariant
