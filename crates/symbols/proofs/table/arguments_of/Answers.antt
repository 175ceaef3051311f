-- `arguments_of` meets its contract: the part behind the sort byte, as long as the length byte says.
use mathlib.Core.Path.{◌≡◌}
use mathlib.Core.List.{List}
use Prim.Native.Nat.{ℕ, ◌+◌, ◌-◌, ◌<◌, ◌≤◌}
use native.Mathlib.Nat.{add-sub_cancel_left, min-le_left}
use native.Mathlib.Omega.{arith}
use lib.ListN.{length, get_or, drop, length-take}
use Rattle.reading.specs.Answer.{part_of}
use Rattle.symbols.specs.Table.{symbol_in, arguments_of_a_byte}
use Rattle.symbols.proofs.table.arguments_of.Goals as goal

-- what the code takes from its place q on, as many bytes as its length byte n says, are the arguments at p; a byte counts few
part-taken : (bs : List ℕ) {p q n count : ℕ} {part : List ℕ} → q ≡ p → n ≡ get_or bs q 0 → n < 256 → count ≡ n - 2
    → part ≡ part_of bs (q + 3) (q + 3 + count) → (part ≡ (symbol_in bs p).arguments) × (length part ≤ arguments_of_a_byte)
unfolding symbol_in
part-taken bs {q = q} {n = n} place size few counts taken =
    let whole = simp (counts, add-sub_cancel_left) at taken in
    (simp (whole, size, place), simp (whole, length-take) (omega (arith, min-le_left (n - 2) (length (drop (q + 3) bs)))))

pub returns : goal.returns
returns c =
    let wide = c.wide_byte.ensures in
    part-taken c.args.book.now c.place_of-p.ensures.0
    wide.0 wide.1 c.between-count.ensures c.part_of.ensures
