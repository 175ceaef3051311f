-- Paths that end: pairs from which they do are pairs among themselves; and a rule that is one variable makes no circle.
use mathlib.Core.Path.{◌≡◌, refl, ◌∙◌}
use mathlib.Core.List.{List}
use Prim.Native.Nat.{ℕ, ◌<◌}
use lib.ListN.{length}
use Rattle.nodes.specs.Nodes.{Node, forward, Heap, at}
use Rattle.rewriting.specs.Rewriting.{Leads}
use Rattle.rewriting.proofs.Heaps.{grown, grown_at}
use Rattle.rewriting.specs.Lists.{All, more}
use Rattle.rewriting.specs.Paths.{Finite, finite, target}
use Rattle.meaning.proofs.Finite.{finite-arguments}
use Rattle.meaning.proofs.PathsEnd.{leads-finite, finite-sides}
use Rattle.rewriting.specs.Heaps.{NoForward}
use Rattle.alike.proofs.Pairs.{Both}
use Rattle.alike.proofs.Alike.{Pairing, NodeAlike, Arrows, Alike}
use Rattle.alike.proofs.Grown.{leads-on, leads_grown}

-- forwards make no circle where paths end
pub no_circle : {h : Heap} {m y : ℕ} → Finite h m → at h m ≡ forward y → ¬ Leads h y m
no_circle {m} (finite f) e Leads.here = no_circle (f m (rw e target)) e Leads.here
no_circle {y} (finite f) e (Leads.along e' l) = no_circle (f y (rw e target)) e' (leads-on l (Leads.along e Leads.here))

-- so none where they end after the change
pub no_loop : (h : Heap) (n y : ℕ) (x : Node) (ys : List Node) → NoForward (at h n) → n < length h → Finite (grown h n x ys) n → x ≡ forward y → ¬ Leads h y n
no_loop h n y x ys u lt ends e l = no_circle ends (grown_at h n x ys lt ∙ e) (leads_grown h n x ys u l)

-- the pairs from which paths end
abbrev pub Ending : Heap → Pairing → Pairing
Ending h N m m' = N m m' × Finite h m

module _ {N C : Pairing} {h h' : Heap} (alike : Alike N C h h') where
  pub arrows_ending : {x x' : ℕ} → Finite h x → Arrows h h' N x x' → Arrows h h' (Ending h N) x x'
  arrows_ending g a =
      record { node = a.node; node' = a.node'; leads = a.leads; leads' = a.leads'; same = (a.same, leads-finite a.leads g) }

  row_ending : {xs xs' : List ℕ} → All (Finite h) xs → Both (Arrows h h' N) xs xs' → Both (Arrows h h' (Ending h N)) xs xs'
  row_ending gs Both.none = Both.none
  row_ending (more g gs) (Both.more a rest) = Both.more (arrows_ending g a) (row_ending gs rest)

  -- THE PAIRS from which paths end are pairs among themselves
  pub alike_ending : Alike (Ending h N) C h h'
  alike_ending = record {
    inside = λ p. alike.inside p.0;
    inside' = λ p. alike.inside' p.0;
    once = λ p q. alike.once p.0 q.0;
    once' = λ p q. alike.once' p.0 q.0;
    still = λ p. alike.still p.0;
    nodes = λ {m} {m'} p. go (alike.nodes p.0) refl p.1 (alike.still p.0);
  }
    where
      go : {m : ℕ} {y y' : Node} → NodeAlike (Arrows h h' N) C y y' → at h m ≡ y → Finite h m → NoForward (at h m)
          → NodeAlike (Arrows h h' (Ending h N)) C y y'
      go (NodeAlike.applies b) is g u = NodeAlike.applies (row_ending (finite-arguments g is) b)
      go (NodeAlike.chooses c l r) is g u =
          let (gl, gr) = finite-sides g is in
          NodeAlike.chooses c (arrows_ending gl l) (arrows_ending gr r)
      go NodeAlike.fails is g u = NodeAlike.fails
      go (NodeAlike.forwards a) is g u = absurd (rw is at u)

-- as pairs
pub arrows-any : {N : Pairing} {h h' : Heap} {x x' : ℕ} → Arrows h h' (Ending h N) x x' → Arrows h h' N x x'
arrows-any a = record { node = a.node; node' = a.node'; leads = a.leads; leads' = a.leads'; same = a.same.0 }
