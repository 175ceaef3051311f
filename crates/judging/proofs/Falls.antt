-- Where no arrow leads to a higher rank, no path returns to a node whose arrows all lead to lower ones.
use mathlib.Core.Bool.{true, false}
use mathlib.Core.List.{List}
use mathlib.Core.Path.{◌≡◌}
use Prim.Native.Nat.{ℕ, ◌+◌, ◌<◌, ◌≤◌}
use native.Mathlib.Omega.{arith}
use borrow.Author.Tests.{leb-false, le-leb, lt-leb}
use lib.ListN.{length, get_or}
use Rattle.nodes.specs.Nodes.{Heap, at}
use Rattle.rewriting.specs.Paths.{Arrow}
use Rattle.accepted.specs.Accepted.{Path, one, more}
use Rattle.accepted.specs.Faults.{some_of, arrows_of, returns}
use Rattle.accepted.proofs.Reaches.{not-both, not-passed, some_is, arrow_in_lem, returns_path}
use Rattle.judging.specs.Ranks.{ranked, Falling}
use Rattle.judging.proofs.Searched.{arrow-there}

pub is-ranked : (ranks : List ℕ) (least x : ℕ) → least ≤ get_or ranks x 0 → ranked ranks least x ≡ true
unfolding ranked
is-ranked ranks least x le = le-leb least (get_or ranks x 0) le

pub not-ranked : (ranks : List ℕ) (least x : ℕ) → get_or ranks x 0 < least → ranked ranks least x ≡ false
unfolding ranked
not-ranked ranks least x lt = lt-leb least (get_or ranks x 0) lt

module _ (h : Heap) (ranks : List ℕ) where
  -- no arrow of node n leads to a rank of at least so much
  lower : (n least x : ℕ) → some_of (ranked ranks least) (arrows_of (at h n)) ≡ false → Arrow x (at h n) → get_or ranks x 0 < least
  unfolding ranked
  lower n least x e a = leb-false least (get_or ranks x 0)
      (not-passed _ (λ q. not-both _ e (some_is (ranked ranks least) (arrows_of (at h n)) (arrow_in_lem (at h n) a) q)))

  pub falling : ((n : ℕ) → n < length h → some_of (ranked ranks (get_or ranks n 0 + 1)) (arrows_of (at h n)) ≡ false) → Falling h ranks
  falling none = record { falls = λ n x a. let lt = lower n (get_or ranks n 0 + 1) x (none n (arrow-there h n a)) a in omega arith }

  module _ (f : Falling h ranks) where
    path_falls : {n m : ℕ} → Path h n m → get_or ranks m 0 ≤ get_or ranks n 0
    path_falls (one {n} {m} a) = f.falls n m a
    path_falls (more {n} {x} {m} a p) = omega (arith, f.falls n x a, path_falls p)

    pub lower-returns : (n : ℕ) → some_of (ranked ranks (get_or ranks n 0)) (arrows_of (at h n)) ≡ false → returns h n ≡ false
    lower-returns n e = not-passed (returns h n) (λ q. by (returns_path h n q))
      where
        by : Path h n n → ⊥
        by (one a) = omega (arith, lower n (get_or ranks n 0) n e a)
        by (more {x = x} a p) = omega (arith, lower n (get_or ranks n 0) x e a, path_falls p)
