-- Unmarked nodes dropped and the rest moved down (request L10): the heap stays alike another, as far as its marked nodes go.
use mathlib.Core.Bool.{Bool, true, false}
use mathlib.Core.Path.{◌≡◌, refl, sym, ap, ◌∙◌}
use mathlib.Core.List.{List, [], ◌∷◌, map}
use Prim.Native.Nat.{ℕ, zero, suc, ◌<◌}
use native.Mathlib.Omega.{arith}
use lib.ListN.{length}
use Rattle.nodes.specs.Nodes.{Node, Heap, at}
use Rattle.rewriting.specs.Rewriting.{Leads}
use Rattle.rewriting.proofs.Heaps.{there, forward≢fail}
use Rattle.rewriting.specs.Paths.{In, first, later}
use Rattle.rewriting.specs.Heaps.{NoForward}
use Rattle.alike.specs.Reuse.{arrows_of, Marks, moved_to, redirected, kept_by, moved_down}
use Rattle.alike.proofs.Pairs.{Both, none, more}
use Rattle.alike.proofs.Alike.{Pairing, NodeAlike, Arrows, Alike}
use Rattle.alike.proofs.Reached.{Marked}

-- ---- where the nodes come to stand

-- none are marked past the end
no_mark : {A : Type 0} → ◌≡◌ {A = Bool} false true → A
no_mark e = absurd (let z : ◌≡◌ {A = ℕ} 0 1 = cc in omega arith)

module _ (to : ℕ → ℕ) where
  pub at-kept : (ms : Marks) (h : Heap) (n : ℕ) → length ms ≡ length h → Marked ms n → at (kept_by to ms h) (moved_to ms n) ≡ redirected to (at h n)
  unfolding kept_by moved_to
  at-kept [] h n e m = no_mark m
  at-kept (b ∷ ms) [] n e m = absurd (omega arith)
  at-kept (true ∷ ms) (x ∷ h) zero e m = refl
  at-kept (true ∷ ms) (x ∷ h) (suc n) e m = at-kept ms h n (omega arith) m
  at-kept (false ∷ ms) (x ∷ h) zero e m = no_mark m
  at-kept (false ∷ ms) (x ∷ h) (suc n) e m = at-kept ms h n (omega arith) m

  pub moved_inside : (ms : Marks) (h : Heap) (n : ℕ) → length ms ≡ length h → Marked ms n → moved_to ms n < length (kept_by to ms h)
  unfolding kept_by moved_to
  moved_inside [] h n e m = no_mark m
  moved_inside (b ∷ ms) [] n e m = absurd (omega arith)
  moved_inside (true ∷ ms) (x ∷ h) zero e m = omega arith
  moved_inside (true ∷ ms) (x ∷ h) (suc n) e m = omega (arith, moved_inside ms h n (omega arith) m)
  moved_inside (false ∷ ms) (x ∷ h) zero e m = no_mark m
  moved_inside (false ∷ ms) (x ∷ h) (suc n) e m = moved_inside ms h n (omega arith) m

-- each to a place of its own
pub moved-once : (ms : Marks) (n k : ℕ) → Marked ms n → Marked ms k → moved_to ms n ≡ moved_to ms k → n ≡ k
unfolding moved_to
moved-once [] n k m m' e = no_mark m
moved-once (b ∷ ms) zero zero m m' e = refl
moved-once (true ∷ ms) zero (suc k) m m' e = absurd (omega arith)
moved-once (true ∷ ms) (suc n) zero m m' e = absurd (omega arith)
moved-once (true ∷ ms) (suc n) (suc k) m m' e = ap suc (moved-once ms n k m m' (omega arith))
moved-once (false ∷ ms) zero (suc k) m m' e = no_mark m
moved-once (false ∷ ms) (suc n) zero m m' e = no_mark m'
moved-once (false ∷ ms) (suc n) (suc k) m m' e = ap suc (moved-once ms n k m m' e)

-- the pairs afterwards
pub record Moves (N : Pairing) (ms : Marks) (m m'' : ℕ) : Type 0 where
  pub from : ℕ
  pub pair : N m from
  pub marked : Marked ms from
  pub to : m'' ≡ moved_to ms from

-- arrows that lead to a pair are in the heap
pub arrows-inside : {N C : Pairing} {h h' : Heap} → Alike N C h h' → {x x' : ℕ} → Arrows h h' N x x' → x' < length h'
arrows-inside {h'} alike a = go a.leads' (alike.inside' a.same)
  where
    go : {x m : ℕ} → Leads h' x m → m < length h' → x < length h'
    go Leads.here lt = lt
    go (Leads.along {n = y} e l) lt = there h' y (forward≢fail e)

module _ {N C : Pairing} {h h' : Heap} (alike : Alike N C h h') (ms : Marks) (size : length ms ≡ length h')
    (closed : (n y : ℕ) → Marked ms n → In y (arrows_of (at h' n)) → y < length h' → Marked ms y) where
  abbrev g : Heap
  g = moved_down ms h'

  -- chains of forwards move along
  leads-moved : {x m : ℕ} → Leads h' x m → m < length h' → Marked ms x → Leads g (moved_to ms x) (moved_to ms m) × Marked ms m
  unfolding moved_down redirected arrows_of
  leads-moved Leads.here lt mark = (Leads.here, mark)
  leads-moved (Leads.along {n = y} {m = z} e l) lt mark =
      let inside : z < length h' = below l lt in
      let mark' : Marked ms z = closed y z mark (rw e first) inside in
      let (l', mark'') = leads-moved l lt mark' in
      (Leads.along (at-kept (moved_to ms) ms h' y size mark ∙ ap (redirected (moved_to ms)) e) l', mark'')
    where
      below : {a b : ℕ} → Leads h' a b → b < length h' → a < length h'
      below Leads.here lt = lt
      below (Leads.along {n = y} e l) lt = there h' y (forward≢fail e)

  -- ARROWS to marked nodes move along
  pub arrows-moved : {x x' : ℕ} → Arrows h h' N x x' → Marked ms x' → Arrows h g (Moves N ms) x (moved_to ms x')
  arrows-moved a mark =
      let (l, mark') = leads-moved a.leads' (alike.inside' a.same) mark in
      record {
        node = a.node;
        node' = moved_to ms a.node';
        leads = a.leads;
        leads' = l;
        same = record { from = a.node'; pair = a.same; marked = mark'; to = refl };
      }

  -- so do all of a row
  row_moved : {xs xs' : List ℕ} → Both (Arrows h h' N) xs xs' → ((y : ℕ) → In y xs' → y < length h' → Marked ms y)
      → Both (Arrows h g (Moves N ms)) xs (map (moved_to ms) xs')
  row_moved none marks = none
  row_moved (more {b = x'} a rest) marks = more (arrows-moved a (marks x' first (arrows-inside alike a))) (row_moved rest (λ y i. marks y (later i)))

  node-moved : {y y' : Node} → NodeAlike (Arrows h h' N) C y y' → NoForward y → ((z : ℕ) → In z (arrows_of y') → z < length h' → Marked ms z)
      → NodeAlike (Arrows h g (Moves N ms)) C y (redirected (moved_to ms) y')
  unfolding redirected arrows_of
  node-moved (NodeAlike.applies b) u marks = NodeAlike.applies (row_moved b marks)
  node-moved (NodeAlike.chooses {l'} {r'} c l r) u marks =
      NodeAlike.chooses c (arrows-moved l (marks l' first (arrows-inside alike l))) (arrows-moved r (marks r' (later first) (arrows-inside alike r)))
  node-moved NodeAlike.fails u marks = NodeAlike.fails
  node-moved (NodeAlike.forwards a) u marks = absurd u

  -- MOVED DOWN, the heap stays alike
  pub alike_moved : Alike (Moves N ms) C h g
  unfolding moved_down
  alike_moved = record {
    inside = λ q. alike.inside q.pair;
    inside' = λ q. rw q.to (moved_inside (moved_to ms) ms h' q.from size q.marked);
    once = λ {m} {k} {m'} a b.
        alike.once a.pair (rw (moved-once ms b.from a.from b.marked a.marked (sym b.to ∙ a.to)) at b.pair);
    once' = λ {m} {m'} {k'} a b. a.to ∙ ap (moved_to ms) (alike.once' a.pair b.pair) ∙ sym b.to;
    still = λ q. alike.still q.pair;
    nodes = λ {m} {m'} q.
        rw (q.to, at-kept (moved_to ms) ms h' q.from size q.marked)
        (node-moved (alike.nodes q.pair) (alike.still q.pair) (λ z i lt. closed q.from z q.marked i lt));
  }
