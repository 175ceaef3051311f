-- `is_bad_entry` meets its contract: what is left to look at is what there was at first.
use mathlib.Core.Path.{sym, ap, ◌∙◌}
use Prim.Native.Nat.{ℕ}
use native.Mathlib.Omega.{arith}
use lib.ListN.{get_or}
use Rattle.accepted.specs.Faults.{some_from}
use Rattle.judging.specs.Words.{bad_pair}
use Rattle.judging.proofs.Pairs.{entry-root, entry-words, word-bad, word_fine, no_word}
use Rattle.judging.proofs.is_bad_entry.Goals as goal

pub returns-then-used-from : goal.returns-then-used-from
returns-then-used-from c = let a = c.args in
    sym (entry-root a.choices a.used a.e (omega (arith, c.from.ensures, c.if-used-from.true)))

pub returns-then-is_bad_word : goal.returns-then-is_bad_word
returns-then-is_bad_word c = let a = c.args in
    let l = c.loop-i in
    let words = a.e.words in
    let bad = ap (λ (k : ℕ). some_from (bad_pair k (get_or words l.i 0)) 0 32) (sym c.between.ensures) ∙ sym
    c.is_bad_word.ensures ∙ c.if-is_bad_word.true in
    sym (entry-words a.choices a.used a.e
    (omega (arith, c.from.ensures, c.if-used-from.false))
    ∙ l.invariant
    ∙ word-bad a.choices words l.i c.loop-i-test.true bad)

pub loop-i-preserved : goal.loop-i-preserved
loop-i-preserved c = let a = c.args in
    let l = c.loop-i in
    let words = a.e.words in
    let fine = ap (λ (k : ℕ). some_from (bad_pair k (get_or words l.i 0)) 0 32) (sym c.between.ensures) ∙ sym
    c.is_bad_word.ensures ∙ c.if-is_bad_word.false in
    l.invariant ∙ word_fine a.choices words l.i c.loop-i-test.true fine

pub returns : goal.returns
returns c = let a = c.args in
    let l = c.loop-i in
    sym (entry-words a.choices a.used a.e
    (omega (arith, c.from.ensures, c.if-used-from.false)) ∙ l.invariant ∙ no_word a.choices
    a.e.words l.i c.loop-i-test.false)
