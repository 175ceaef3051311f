-- NODES DROPPED (request L10): the shared run is as it was for all questions, but for the numbers of its nodes.
use mathlib.Core.Bool.{true, false}
use mathlib.Core.Path.{◌≡◌, refl, sym, ap, ◌∙◌}
use mathlib.Core.List.{List, [], ◌∷◌, map}
use Prim.Native.Nat.{ℕ, ◌<◌, ◌≤◌}
use native.Mathlib.Omega.{arith}
use lib.ListN.{length, length-map}
use Rattle.limits.specs.Lent.{Entry as PlainEntry}
use Rattle.nodes.specs.Nodes.{Heap, at}
use Rattle.machine.specs.Turn as Plain
use Rattle.rewriting.specs.Lists.{All, none, more}
use Rattle.rewriting.specs.Paths.{In, first, later}
use Rattle.alike.specs.Reuse.{Marks, arrows_of, reached, moved_to, kept_by, moved_down}
use Rattle.alike.specs.Asked.{Entry}
use Rattle.alike.specs.Turning.{State, moved, dropped}
use Rattle.alike.proofs.Alike.{Pairing}
use Rattle.alike.proofs.Entries.{Among, EntryAlike, Of}
use Rattle.alike.proofs.Reached.{Marked, reached-size, roots-reached, arrows-reached}
use Rattle.alike.proofs.Dropped.{Moves, moved-once, arrows-inside, arrows-moved, alike_moved}
use Rattle.alike.proofs.Shared.{Follows, Shared}

-- no more nodes than there were
pub kept-fewer : (to : ℕ → ℕ) (ms : Marks) (h : Heap) → length (kept_by to ms h) ≤ length h
unfolding kept_by
kept-fewer to [] h = omega arith
kept-fewer to (m ∷ ms) [] = omega arith
kept-fewer to (true ∷ ms) (x ∷ h) = omega (arith, kept-fewer to ms h)
kept-fewer to (false ∷ ms) (x ∷ h) = omega (arith, kept-fewer to ms h)

-- the roots of entries
abbrev roots : List Entry → List ℕ
roots es = map (λ (e : Entry). e.root) es

-- each is one of them
each-root : (es : List Entry) (rs : List ℕ) → ((y : ℕ) → In y (roots es) → In y rs) → All (λ (e : Entry). In e.root rs) es
each-root [] rs sub = none
each-root (e ∷ es) rs sub = more (sub e.root first) (each-root es rs (λ y i. sub y (later i)))

module _ (S : State) where
  abbrev pub marks : Marks
  marks = reached S.heap (roots S.waiting)

  closed : (n y : ℕ) → Marked marks n → In y (arrows_of (at S.heap n)) → y < length S.heap → Marked marks y
  closed n y m i lt = arrows-reached S.heap (roots S.waiting) n y m i lt

  module _ {q : ℕ} {N : Pairing} {cs : List ℕ} {s : Plain.State} (f : Follows q N cs s S) where
    entries-moved : {us : List PlainEntry} (vs : List Entry) → Among (Of q) (EntryAlike s.heap S.heap N cs) us vs
        → All (λ (e : Entry). In e.root (roots S.waiting)) vs
        → Among (Of q) (EntryAlike s.heap (moved_down marks S.heap) (Moves N marks) cs) us (map (moved marks) vs)
    unfolding moved
    entries-moved [] Among.none ins = Among.none
    entries-moved (e ∷ vs) (Among.mine m r rest) (more i ins) = Among.mine m
        (record {
          roots = arrows-moved f.heaps marks (reached-size S.heap (roots S.waiting)) closed r.roots
              (roots-reached S.heap (roots S.waiting) i (arrows-inside f.heaps r.roots));
          decisions = r.decisions;
        })
        (entries-moved vs rest ins)
    entries-moved (e ∷ vs) (Among.other n rest) (more i ins) = Among.other n (entries-moved vs rest ins)

    follows_dropped : Follows q (Moves N marks) cs s (dropped S)
    unfolding dropped
    follows_dropped = record {
      heaps = alike_moved f.heaps marks (reached-size S.heap (roots S.waiting)) closed;
      waiting = entries-moved S.waiting f.waiting (each-root S.waiting (roots S.waiting) (λ y i. i));
      answers = f.answers;
      numbered = f.numbered;
      rising = f.rising;
      below = f.below;
    }

-- DROPPED
pub shared-dropped : {alone : ℕ → Plain.State} {numbers : ℕ → List ℕ} {N : ℕ → Pairing} {S : State} → Shared alone numbers N S
    → Shared alone numbers (λ q. Moves (N q) (marks S)) (dropped S)
unfolding dropped
shared-dropped {S} x = record {
  each = λ q. follows_dropped S (x.each q);
  parted = λ q r m k m' a b.
      x.parted q r m k a.from a.pair (rw (moved-once (marks S) b.from a.from b.marked a.marked (sym b.to ∙ a.to)) at b.pair);
  few = x.few;
}

-- fewer nodes, as many entries
pub dropped-fewer : (S : State) → length (dropped S).heap ≤ length S.heap
unfolding dropped moved_down
dropped-fewer S = kept-fewer (moved_to (marks S)) (marks S) S.heap

pub dropped-waiting : (S : State) → length (dropped S).waiting ≡ length S.waiting
unfolding dropped
dropped-waiting S = rw length-map refl

-- the front entry
pub dropped-front : (S : State) {e : Entry} {rest : List Entry} → S.waiting ≡ e ∷ rest
    → (dropped S).waiting ≡ moved (marks S) e ∷ map (moved (marks S)) rest
unfolding dropped
dropped-front S front = ap (map (moved (marks S))) front
