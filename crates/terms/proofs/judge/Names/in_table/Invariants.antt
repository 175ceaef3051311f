-- What the loops of `in_table` keep.
use mathlib.Core.Bool.{true}
use mathlib.Core.Path.{◌≡◌}
use Prim.Native.Nat.{ℕ, ◌-◌, ◌≤◌, ◌<◌}
use Rattle.tagged.specs.Lines.{same as same_bytes}
use Rattle.terms.specs.Places.{bytes_of}
use Rattle.terms.specs.Blocks.{hash_of, name_of}
use Rattle.terms.proofs.judge.Names.in_table.Given as goal

abbrev pub invariant-loop-i : goal.invariant-loop-i
invariant-loop-i l =
    (l.i ≤ l.from) × (0 < l.i → hash_of (name_of l.s l.self.place (l.i - 1)) ≡ hash_of (bytes_of l.s l.at l.to))
    × ((k : ℕ) → l.i ≤ k → k < l.from → same_bytes (bytes_of l.s l.at l.to) (name_of l.s l.self.place k) ≡ true → ⊥)

abbrev pub decreases-loop-i : goal.decreases-loop-i
decreases-loop-i l = l.i
