-- `is_bad_word` meets its contract: all pairs at once, then the bits of the choices that are not made.
use mathlib.Core.Path.{◌≡◌, sym, ap, ◌∙◌}
use Prim.Native.Nat.{◌/◌}
use native.Mathlib.Omega.{arith}
use lib.Bits.{bit_and}
use Rattle.judging.proofs.Pairs.{both, low_bits_lem, some-both, some-past, none_past}
use Rattle.judging.proofs.is_bad_word.Goals as goal

pub returns-then-w-ne0 : goal.returns-then-w-ne0
returns-then-w-ne0 c = let a = c.args in
    let w = a.w in
    sym (some-both 32 a.made w (λ q. c.if-w-ne0.true (ap (bit_and (bit_and w (w / 2))) (sym low_bits_lem) ∙ q)))

pub returns-then-made-lt32 : goal.returns-then-made-lt32
returns-then-made-lt32 c = let w = c.args.w in
    let none : both 32 w ≡ 0 = ap (bit_and (bit_and w (w / 2))) low_bits_lem ∙ c.if-w-ne0.false in
    sym (some-past 32 c.args.made w (omega (arith, c.ranges.w.fits)) none c.if-made-lt32.true)

pub returns-else-made-lt32 : goal.returns-else-made-lt32
returns-else-made-lt32 c = let a = c.args in
    let w = a.w in
    let none : both 32 w ≡ 0 = ap (bit_and (bit_and w (w / 2))) low_bits_lem ∙ c.if-w-ne0.false in
    sym (none_past 32 a.made w none c.if-made-lt32.false)
