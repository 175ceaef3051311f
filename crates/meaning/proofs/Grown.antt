-- Readings of a heap h, and of the heap h' in which node n has been replaced and others added: a reading of h goes on to h' with
-- what the fresh nodes have, and a reading of h' is one of h if it fits the old node n, once the others have been raised as needed.
use mathlib.Core.Path.{◌≡◌, refl, sym, ap, ◌∙◌}
use mathlib.Core.Logic.{◌⊎◌, inl, inr, ◌≢◌}
use mathlib.Core.Option.{some}
use mathlib.Core.List.{List, map}
use Prim.Native.Nat.{ℕ, ◌+◌, ◌-◌, ◌≤◌, ◌<◌}
use native.Mathlib.Decide.{ℕ_discrete, dec_lt}
use native.Mathlib.Omega.{arith}
use lib.ListN.{length, get_or}
use Rattle.book.specs.Rules.{Book}
use Rattle.nodes.specs.Nodes.{Node, apply, choice, fail, forward, Heap, at}
use Rattle.rewriting.specs.Rewriting.{Value}
use Rattle.rewriting.proofs.Lists.{map_same}
use Rattle.rewriting.proofs.Update.{splice, splice-below, splice-from}
use Rattle.rewriting.specs.Heaps.{ArrowsBelow, InRange}
use Rattle.rewriting.proofs.Heaps.{at-past, there, forward≢fail, choice≢fail, grown, grown_old, grown_each}
use Rattle.meaning.specs.Partial.{Part, bot, ◌⊑◌, bot⊑}
use Rattle.meaning.specs.Readings.{Side, left, right, side_of, Agrees, Reads, whole, Decisions, CanBe}
use Rattle.meaning.proofs.Order.{⊑_refl, ⊑_of_eq, ⊑_whole, ◌⊑ᶠ◌, ⊑ˡ_refl, agrees_mono, agrees-apply, agrees-choice, agrees-fail, agrees-forward, agrees-bot}
use Rattle.meaning.proofs.Raise.{ReadsBut}

-- an old node, or which of the fresh ones
old-or-new : (m b : ℕ) → (m < b) ⊎ ((j : ℕ) × (m ≡ b + j))
old-or-new m b = go (dec_lt m b)
  where
    go : Dec (m < b) → (m < b) ⊎ ((j : ℕ) × (m ≡ b + j))
    go (yes lt) = inl lt
    go (no ge) = inr (m - b, omega arith)

-- nothing from b on
abbrev pub cut : (ℕ → Part) → ℕ → ℕ → Part
cut π b = splice π b (λ j. bot)

-- what agrees still does, if its arrows are below the cut
agrees-cut : (B : Book) (δ : ℕ → Side) (π : ℕ → Part) (b : ℕ) (x : Node) (p : Part) → ArrowsBelow b x → Agrees B δ π x p
    → Agrees B δ (cut π b) x p
unfolding side_of
agrees-cut B δ π b (apply f xs) p all a =
    agrees-apply B δ π (cut π b) f xs xs (rw (map_same (splice-below π b (λ j. bot)) all) (⊑ˡ_refl (map π xs))) (⊑_refl p) a
agrees-cut B δ π b (choice i l r) p (ll, lr) a =
    (agrees-choice B δ (cut π b) refl).1 (rw (splice-below π b (λ j. bot) (side_of (δ i) l r) (side (δ i))) ((agrees-choice B δ π refl).0 a))
  where
    side : (s : Side) → side_of s l r < b
    side left = ll
    side right = lr
agrees-cut B δ π b fail p all a = rw ((agrees-fail B δ π refl).0 a) (agrees-bot B δ (cut π b) fail)
agrees-cut B δ π b (forward m) p lt a = (agrees-forward B δ (cut π b) refl).1 (rw (splice-below π b (λ j. bot) m lt) ((agrees-forward B δ π refl).0 a))

-- the nodes of which a reading of the grown heap says nothing for h
pub Changed : Heap → ℕ → ℕ → Type 0
Changed h n q = (q ≡ n) ⊎ (length h ≤ q)

-- node n is one
pub changed : (h : Heap) (n : ℕ) → Changed h n n
unfolding Changed
changed h n = inl refl

-- no other node of h is
pub unchanged : (h : Heap) (n q : ℕ) → q ≢ n → q < length h → ¬ Changed h n q
unfolding Changed
unchanged h n q e q< (inl z) = e z
unchanged h n q e q< (inr z) = omega arith

-- what is another node than n's, and no fail, is unchanged
pub unchanged_at : (h : Heap) (n q : ℕ) → at h q ≢ at h n → at h q ≢ fail → ¬ Changed h n q
unchanged_at h n q other no-fail = unchanged h n q (λ e. other (ap (at h) e)) (there h q no-fail)

-- where an application is replaced
module _ (h : Heap) (n : ℕ) {f : ℕ} {xs : List ℕ} (at_n : at h n ≡ apply f xs) where
  -- forwards are unchanged
  pub forward_unchanged : (q k : ℕ) → at h q ≡ forward k → ¬ Changed h n q
  forward_unchanged q k e = unchanged_at h n q (λ w. let o : ◌≡◌ {A = ℕ} 0 1 = cc in omega arith) (forward≢fail e)

  -- and so are choices
  pub choice_unchanged : (q i l r : ℕ) → at h q ≡ choice i l r → ¬ Changed h n q
  choice_unchanged q i l r e = unchanged_at h n q (λ w. let o : ◌≡◌ {A = ℕ} 0 1 = cc in omega arith) (choice≢fail e)

module _ (B : Book) (h : Heap) (n : ℕ) (x : Node) (ys : List Node) (lt : n < length h) where
  -- past the end a reading has nothing, so it only grows with what the fresh nodes have
  pub splice-above : (δ : ℕ → Side) (π g : ℕ → Part) → Reads B h δ π → π ⊑ᶠ splice π (length h) g
  splice-above δ π g reads m = go (old-or-new m (length h))
    where
      go : (m < length h) ⊎ ((j : ℕ) × (m ≡ length h + j)) → π m ⊑ splice π (length h) g m
      go (inl old) = ⊑_of_eq (sym (splice-below π (length h) g m old))
      go (inr (j, e)) = rw ((agrees-fail B δ π (at-past h m (omega arith))).0 (reads m)) bot⊑

  -- A reading of h goes on to the grown heap.
  pub reads_grown : (δ : ℕ → Side) (π g : ℕ → Part) → Reads B h δ π → Agrees B δ (splice π (length h) g) x (π n)
      → ((j : ℕ) → Agrees B δ (splice π (length h) g) (get_or ys j fail) (g j)) → Reads B (grown h n x ys) δ (splice π (length h) g)
  reads_grown δ π g reads top fresh = grown_each h n x ys (λ m y. Agrees B δ (splice π (length h) g) y (splice π (length h) g m))
      (λ n<. rw (splice-below π (length h) g n n<) top)
      (λ m e m<. rw (splice-below π (length h) g m m<) (agrees_mono B δ (at h m) (splice-above δ π g reads) (⊑_refl (π m)) (reads m)))
      (λ j. rw (splice-from π (length h) g (length h + j) j refl) (fresh j))

  -- A reading of the grown heap is one of h, but for the changed nodes.
  pub reads_but : (δ : ℕ → Side) (π : ℕ → Part) → Reads B (grown h n x ys) δ π → ReadsBut B h δ (Changed h n) π
  unfolding Changed
  reads_but δ π reads m same =
      let inside : ¬ (length h ≤ m) = λ z. same (inr z) in
      let m< : m < length h = omega arith in
      rw (grown_old h n x ys m (λ e. same (inl e)) m<) at (reads m)

  -- What fits the old node, too, is a reading of h.
  pub can_be_shrunk : {d : Decisions} {r : ℕ} {v : Value} (δ : ℕ → Side) (π : ℕ → Part) → InRange h
      → ((i : ℕ) (s : Side) → d i ≡ some s → δ i ≡ s)
      → ReadsBut B h δ (Changed h n) π → Agrees B δ π (at h n) (π n) → r < length h → whole v ⊑ π r → CanBe B h d r v
  can_be_shrunk {r} {v} δ π range keeps reads at_n r< le = record {
    δ = δ;
    π = cut π (length h);
    keeps = keeps;
    agrees = λ m. go m (old-or-new m (length h));
    is = splice-below π (length h) (λ j. bot) r r< ∙ ⊑_whole v le;
  }
    where
      at_old : (m : ℕ) → m < length h → Dec (m ≡ n) → Agrees B δ π (at h m) (π m)
      at_old m m< (yes e) = rw e at_n
      at_old m m< (no e) = reads m (unchanged h n m e m<)

      go : (m : ℕ) → (m < length h) ⊎ ((j : ℕ) × (m ≡ length h + j)) → Agrees B δ (cut π (length h)) (at h m) (cut π (length h) m)
      go m (inl m<) = rw (splice-below π (length h) (λ j. bot) m m<)
          (agrees-cut B δ π (length h) (at h m) (π m) (range m) (at_old m m< (ℕ_discrete m n)))
      go m (inr (j, e)) = rw (splice-from π (length h) (λ j. bot) m j e) (agrees-bot B δ (cut π (length h)) (at h m))
