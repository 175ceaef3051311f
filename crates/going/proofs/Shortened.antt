-- Request L7 leaves a state accepted: a forward that is pointed at a node further along its chain.
use mathlib.Core.Path.{◌≡◌, sym, subst, ◌∙◌}
use mathlib.Core.Logic.{◌≢◌}
use Prim.Native.Nat.{ℕ, ◌<◌, ◌≤◌}
use native.Mathlib.Decide.{dec_lt}
use native.Mathlib.Omega.{arith}
use lib.ListN.{length, set, length-set}
use lib.Seq.{get_or-set_same, get_or-set_other}
use Rattle.book.specs.Rules.{Rules}
use Rattle.nodes.specs.Nodes.{fail, forward, Heap, at}
use Rattle.rewriting.specs.Rewriting.{Leads}
use Rattle.rewriting.specs.Heaps.{InRange}
use Rattle.rewriting.proofs.Heaps.{there, at-past, forward≢fail, replaced_each}
use Rattle.rewriting.proofs.Kept.{replaced_in_range, replaced_choices}
use Rattle.rewriting.specs.Paths.{Arrow, target, Finite, finite}
use Rattle.meaning.proofs.Finite.{finite-fail, finite-target, keep_finite}
use Rattle.accepted.specs.Accepted.{Fits, Path}
use Rattle.accepted.proofs.Asked.{Settles, Settled, leads-asked, settled_argued}
use Rattle.accepted.proofs.Laws.{argues_settled}
use Rattle.accepted.proofs.Circles.{path_end, finite-returns}
use Rattle.accepted.specs.Turnable.{TurnableNodes}

-- a node that forwards lead to is there, if the first is
leads-inside : {h : Heap} {n m : ℕ} → InRange h → Leads h n m → n < length h → m < length h
leads-inside range Leads.here lt = lt
leads-inside range (Leads.along {n} e rest) lt = leads-inside range rest (rw e at (range n))

module _ {r : Rules} {k : ℕ} {h : Heap} (w : TurnableNodes r k h) (n t m : ℕ) (is : at h n ≡ forward t) (leads : Leads h t m) where
  abbrev h' : Heap
  h' = set h n (forward m)

  inside : m < length h
  inside = leads-inside w.range leads (rw is at (w.range n))

  -- the sorts asked stay as they were
  settled : Settled r.symbols (Fits r.symbols h) h'
  settled =
      let now = argues_settled w.argues in
      record {
        each = replaced_each (Settles r.symbols (Fits r.symbols h)) h n (forward m) now.each
            (λ s a. leads-asked now s leads (rw is at ((now.each n).0 s a)), tt);
      }

  -- a forward ends where its target does
  forward-ends : {q x : ℕ} → at h' q ≡ forward x → Finite h' x → Finite h' q
  forward-ends {q} {x} e f = finite {n = q} λ y a. go (rw e at a)
    where
      go : {y : ℕ} → Arrow y (forward x) → Finite h' y
      go target = f

  -- where paths end in the new heap from a node behind n, they do from where its forwards lead: the chain does not come back to n
  along-there : {a b : ℕ} → Path h n a → Leads h a b → Finite h' a → Finite h' b
  along-there p Leads.here f = f
  along-there p (Leads.along {n = a} {m = c} e rest) f =
      let other : a ≢ n = λ q. finite-returns (w.ends n) (subst (Path h n) q p) in
      let same : at h' a ≡ forward c = get_or-set_other h n a (forward m) fail other ∙ e in
      along-there (path_end p (subst (Arrow c) (sym e) target)) rest (finite-target f same)

  -- so all paths end
  ends : (q : ℕ) → Finite h' q
  ends q = by (dec_lt q (length h))
    where
      step : ((y : ℕ) → Arrow y (at h n) → Finite h' y) → Finite h' n
      step ih =
          let first : Arrow t (at h n) = subst (Arrow t) (sym is) target in
          forward-ends (get_or-set_same h n (forward m) fail (there h n (forward≢fail is))) (along-there (Path.one {n = n} first) leads (ih t first))

      by : Dec (q < length h) → Finite h' q
      by (yes lt) = keep_finite h h' n w.range (λ y other lt. get_or-set_other h n y (forward m) fail other) step (w.ends q) lt
      by (no ge) = finite-fail (at-past h' q (rw length-set (let z : length h ≤ q = omega arith in z)))

  -- SHORTENED: the heap stays turnable.
  pub shortened : TurnableNodes r k h'
  shortened = record {
    range = replaced_in_range h n (forward m) w.range inside;
    numbered = replaced_choices h n (forward m) k w.numbered tt;
    argues = record { rules = w.argues.rules; argued = settled_argued settled };
    ends = ends;
  }
