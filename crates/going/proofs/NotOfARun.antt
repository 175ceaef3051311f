-- Why crate `meaning`'s `Good` and crate `sorts`'s `Sorted` ask more than request L12 does: accepted states that no run leaves.
use mathlib.Core.Bool.{false}
use mathlib.Core.Path.{◌≡◌}
use mathlib.Core.List.{List, [], ◌∷◌}
use Prim.Native.Nat.{ℕ, zero, suc}
use native.Mathlib.Omega.{arith}
use lib.ListN.{get_or}
use Rattle.limits.specs.declared.Side.{Side}
use Rattle.limits.specs.declared.Side.TheVariants.{Open, Left, Right}
use Rattle.symbols.specs.Symbols.{Symbols}
use Rattle.nodes.specs.Nodes.{apply, fail, Heap, at}
use Rattle.limits.specs.Decisions.{Decisions}
use Rattle.sorts.specs.Sorts.{sort_of, HeapFits}
use Rattle.meaning.specs.Demand3.{Opposite, Apart}
use Rattle.accepted.specs.Accepted.{Meets, Fits, none, more, Argued}

-- one constructor, of sort 0, with arguments of sorts 0 and 1
abbrev pub pair : Symbols
pair = record { is_operation = false; sort = 0; arguments = 0 ∷ 1 ∷ [] } ∷ []

-- node 0 applies it to node 1 twice, and node 1 is a fail, which "fits every sort"
abbrev pub shared : Heap
shared = apply 0 (1 ∷ 1 ∷ []) ∷ fail ∷ []

-- no sorts of the nodes fit it: node 1 would have two
pub no_sorts : (σ : ℕ → ℕ) → ¬ HeapFits pair σ shared
no_sorts σ fits =
    let (known, sorted, arguments) = fits 0 in
    let a : σ 1 ≡ 0 = cc in
    let b : σ 1 ≡ 1 = cc in
    omega arith

-- but its arguments fit, and it is accepted with no choices
fail-fits : (s : ℕ) → Fits pair shared 1 s
fail-fits s = record { met = met }
  where
    met : (m f : ℕ) (xs : List ℕ) → Meets shared 1 m → at shared m ≡ apply f xs → sort_of pair f ≡ s
    met m f xs Meets.here is = absurd (let z : ◌≡◌ {A = ℕ} 0 1 = cc in omega arith)
    met m f xs (Meets.along e p) is = absurd (let z : ◌≡◌ {A = ℕ} 0 1 = cc in omega arith)
    met m f xs (Meets.left e p) is = absurd (let z : ◌≡◌ {A = ℕ} 0 1 = cc in omega arith)
    met m f xs (Meets.right e p) is = absurd (let z : ◌≡◌ {A = ℕ} 0 1 = cc in omega arith)

pub shared-argued : (n : ℕ) → Argued pair shared (at shared n)
shared-argued zero = (omega arith, more (fail-fits 0) (more (fail-fits 1) none))
shared-argued (suc zero) = tt
shared-argued (suc (suc n)) = tt

-- two entries with the same decisions are not apart
pub not-apart : (d : Decisions) → ¬ Apart d d
not-apart d (i, o) = same (get_or d i Open) o
  where
    same : (s : Side) → ¬ Opposite s s
    same Open = elim [ ]
    same Left = elim [ ]
    same Right = elim [ ]
