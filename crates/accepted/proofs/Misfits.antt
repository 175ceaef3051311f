-- The test of sorts is right: an apply of another sort is met exactly if the test finds one.
use mathlib.Core.Bool.{Bool, true, false, ◌&&◌, ◌||◌, not}
use mathlib.Core.Path.{◌≡◌, refl, sym, ◌∙◌}
use mathlib.Core.Logic.{◌⊎◌, inl, inr, ◌≢◌}
use mathlib.Core.List.{List, [], ◌∷◌}
use Prim.Native.Nat.{ℕ, zero, suc, ◌≤◌, ◌<◌}
use native.Mathlib.Decide.{ℕ_discrete}
use native.Mathlib.Omega.{arith}
use borrow.Author.Tests.{eq-eqb, ne_eqb, ltb-true, lt-ltb}
use lib.Dec.{ltb, eqb}
use lib.ListN.{length, set}
use lib.Seq.{get_or-set_other}
use Rattle.symbols.specs.Symbols.{Symbols}
use Rattle.nodes.specs.Nodes.{Node, apply, choice, fail, forward, Heap, at}
use Rattle.rewriting.proofs.Heaps.{apply≢fail, forward≢fail, choice≢fail}
use Rattle.sorts.specs.Sorts.{sort_of}
use Rattle.accepted.specs.Accepted.{Meets}
use Rattle.accepted.specs.Faults.{misfit_in, misfit}
use Rattle.accepted.proofs.Circles.{solids, solids_set, solids_le}
use Rattle.accepted.proofs.Reaches.{or_split, or_left, or_right}

-- an apply of another sort is met
pub record Misfit (S : Symbols) (h : Heap) (n s : ℕ) : Type 0 where
  pub node : ℕ
  pub symbol : ℕ
  pub arguments : List ℕ
  pub meets : Meets h n node
  pub is : at h node ≡ apply symbol arguments
  pub known : symbol < length S
  pub other : sort_of S symbol ≢ s

-- ---- what is found is met

-- from where one arrow leads
along-misfit : {S : Symbols} {h : Heap} {n t s : ℕ} → ((m : ℕ) → Meets h t m → Meets h n m) → Misfit S h t s → Misfit S h n s
along-misfit on x = record { node = x.node; symbol = x.symbol; arguments = x.arguments; meets = on x.node x.meets; is = x.is; known = x.known; other = x.other }

-- both tests
pub and_both : (a b : Bool) → (a && b) ≡ true → (a ≡ true) × (b ≡ true)
and_both true b e = (refl, e)
and_both false b e = absurd (let z : ◌≡◌ {A = ℕ} 0 1 = cc in omega arith)

pub test-misfit : (bound : ℕ) (S : Symbols) (h : Heap) (n s : ℕ) → misfit_in bound S h n s ≡ true → Misfit S h n s
unfolding misfit_in
test-misfit zero S h n s e = absurd (let z : ◌≡◌ {A = ℕ} 0 1 = cc in omega arith)
test-misfit (suc bound) S h n s e = by (at h n) refl (λ t. test-misfit bound S h t s) e
  where
    different : (a b : ℕ) → not (eqb a b) ≡ true → a ≢ b
    different a b t q = let z : ◌≡◌ {A = ℕ} 0 1 = cc (eq-eqb a b q) in omega arith

    by : (x : Node) → at h n ≡ x → ((t : ℕ) → misfit_in bound S h t s ≡ true → Misfit S h t s)
        → (elim x [
          | apply f xs ↦ ltb f (length S) && not (eqb (sort_of S f) s)
          | choice i l r ↦ misfit_in bound S h l s || misfit_in bound S h r s
          | fail ↦ false
          | forward m ↦ misfit_in bound S h m s
        ]) ≡ true → Misfit S h n s
    by (apply f xs) is ih e =
        let (known, other) = and_both (ltb f (length S)) (not (eqb (sort_of S f) s)) e in
        record { node = n; symbol = f; arguments = xs; meets = Meets.here; is = is; known = ltb-true _ _ known; other = different _ _ other }
    by (choice i l r) is ih e = side (or_split (misfit_in bound S h l s) (misfit_in bound S h r s) e)
      where
        side : (misfit_in bound S h l s ≡ true) ⊎ (misfit_in bound S h r s ≡ true) → Misfit S h n s
        side (inl q) = along-misfit (λ m p. Meets.left is p) (ih l q)
        side (inr q) = along-misfit (λ m p. Meets.right is p) (ih r q)
    by fail is ih e = absurd (let z : ◌≡◌ {A = ℕ} 0 1 = cc in omega arith)
    by (forward t) is ih e = along-misfit (λ m p. Meets.along is p) (ih t e)

-- ---- what is met is found

-- one arrow of a forward or a choice
data Hop (h : Heap) (n : ℕ) : ℕ → Type 0 where
  along : {t : ℕ} → at h n ≡ forward t → Hop h n t
  left : {i l r : ℕ} → at h n ≡ choice i l r → Hop h n l
  right : {i l r : ℕ} → at h n ≡ choice i l r → Hop h n r

-- the end of the way to m that begins with an arrow of node n, and does not come to n again
record Last (h : Heap) (n m : ℕ) : Type 0 where
  next : ℕ
  hop : Hop h n next
  rest : Meets (set h n fail) next m

-- one arrow more, not from n
module _ (h : Heap) (n : ℕ) {x : ℕ} (other : x ≢ n) where
  same-there : at (set h n fail) x ≡ at h x
  same-there = get_or-set_other h n x fail fail other

-- a way to m either does not come to n, or has such an end
last : (h : Heap) (n : ℕ) {x m : ℕ} → Meets h x m → Meets (set h n fail) x m ⊎ Last h n m
last h n Meets.here = inl Meets.here
last h n {x} {m} (Meets.along {t = t} e p) = by (ℕ_discrete x n) (last h n p)
  where
    by : Dec (x ≡ n) → Meets (set h n fail) t m ⊎ Last h n m → Meets (set h n fail) x m ⊎ Last h n m
    by d (inr l) = inr l
    by (yes q) (inl r) = inr (record { next = t; hop = along (rw q at e); rest = r })
    by (no q) (inl r) = inl (Meets.along (same-there h n q ∙ e) r)
last h n {x} {m} (Meets.left {l = t} e p) = by (ℕ_discrete x n) (last h n p)
  where
    by : Dec (x ≡ n) → Meets (set h n fail) t m ⊎ Last h n m → Meets (set h n fail) x m ⊎ Last h n m
    by d (inr l) = inr l
    by (yes q) (inl r) = inr (record { next = t; hop = left (rw q at e); rest = r })
    by (no q) (inl r) = inl (Meets.left (same-there h n q ∙ e) r)
last h n {x} {m} (Meets.right {r = t} e p) = by (ℕ_discrete x n) (last h n p)
  where
    by : Dec (x ≡ n) → Meets (set h n fail) t m ⊎ Last h n m → Meets (set h n fail) x m ⊎ Last h n m
    by d (inr l) = inr l
    by (yes q) (inl r) = inr (record { next = t; hop = right (rw q at e); rest = r })
    by (no q) (inl r) = inl (Meets.right (same-there h n q ∙ e) r)

-- from a fail nothing else is met
fail-meets : {h : Heap} {n m : ℕ} → at h n ≡ fail → Meets h n m → m ≡ n
fail-meets e Meets.here = refl
fail-meets e (Meets.along q p) = absurd (forward≢fail q e)
fail-meets e (Meets.left q p) = absurd (choice≢fail q e)
fail-meets e (Meets.right q p) = absurd (choice≢fail q e)

-- nor from an apply
apply-meets : {h : Heap} {n m f : ℕ} {xs : List ℕ} → at h n ≡ apply f xs → Meets h n m → m ≡ n
apply-meets e Meets.here = refl
apply-meets e (Meets.along q p) = absurd (let z : ◌≡◌ {A = ℕ} 0 1 = cc in omega arith)
apply-meets e (Meets.left q p) = absurd (let z : ◌≡◌ {A = ℕ} 0 1 = cc in omega arith)
apply-meets e (Meets.right q p) = absurd (let z : ◌≡◌ {A = ℕ} 0 1 = cc in omega arith)

-- the test at a node, by what is found behind its arrows
abbrev test_at : Symbols → ℕ → (ℕ → Bool) → Node → Bool
test_at S s more (apply f xs) = ltb f (length S) && not (eqb (sort_of S f) s)
test_at S s more (choice i l r) = more l || more r
test_at S s more fail = false
test_at S s more (forward m) = more m

test-is : (bound : ℕ) (S : Symbols) (h : Heap) (n s : ℕ) → misfit_in (suc bound) S h n s ≡ test_at S s (λ t. misfit_in bound S h t s) (at h n)
unfolding misfit_in
test-is bound S h n s = by (at h n) refl
  where
    by : (x : Node) → at h n ≡ x → misfit_in (suc bound) S h n s ≡ test_at S s (λ t. misfit_in bound S h t s) x
    by (apply f xs) is = rw (is, misfit_in) refl
    by (choice i l r) is = rw (is, misfit_in) refl
    by fail is = rw (is, misfit_in) refl
    by (forward m) is = rw (is, misfit_in) refl

-- more is found where more is found behind the arrows
test-more : (S : Symbols) (s : ℕ) {a b : ℕ → Bool} → ((t : ℕ) → a t ≡ true → b t ≡ true) → (x : Node) → test_at S s a x ≡ true → test_at S s b x ≡ true
test-more S s up (apply f xs) e = e
test-more S s {a} {b} up (choice i l r) e = by (or_split (a l) (a r) e)
  where
    by : (a l ≡ true) ⊎ (a r ≡ true) → (b l || b r) ≡ true
    by (inl q) = or_left (b l) (b r) (up l q)
    by (inr q) = or_right (b l) (b r) (up r q)
test-more S s up fail e = e
test-more S s up (forward m) e = up m e

-- a node made a fail is one, also past the end
fail-there : (h : Heap) (z : ℕ) → at (set h z fail) z ≡ fail
fail-there [] z = refl
fail-there (x ∷ h) zero = refl
fail-there (x ∷ h) (suc z) = fail-there h z

-- what is found where node z is a fail is found
misfit-back : (bound : ℕ) (S : Symbols) (h : Heap) (z n s : ℕ) → misfit_in bound S (set h z fail) n s ≡ true → misfit_in bound S h n s ≡ true
unfolding misfit_in
misfit-back zero S h z n s e = e
misfit-back (suc bound) S h z n s e = test-is bound S h n s ∙ by (ℕ_discrete n z) (λ t. misfit-back bound S h z t s) (sym (test-is bound S (set h z fail) n s) ∙ e)
  where
    -- at z itself nothing was found
    at_z : test_at S s (λ t. misfit_in bound S (set h z fail) t s) (at (set h z fail) z) ≡ true → ⊥
    at_z q =
        let w : test_at S s (λ t. misfit_in bound S (set h z fail) t s) fail ≡ true = rw (fail-there h z) at q in
        let c : ◌≡◌ {A = ℕ} 0 1 = cc in
        omega arith

    by : Dec (n ≡ z) → ((t : ℕ) → misfit_in bound S (set h z fail) t s ≡ true → misfit_in bound S h t s ≡ true)
        → test_at S s (λ t. misfit_in bound S (set h z fail) t s) (at (set h z fail) n) ≡ true → test_at S s (λ t. misfit_in bound S h t s) (at h n) ≡ true
    by (yes is) ih q = absurd (at_z (rw is at q))
    by (no other) ih q = test-more S s ih (at h n) (rw (same-there h z other) at q)

-- what is met by a hop is found one arrow earlier
hop-found : (S : Symbols) (h : Heap) (bound s : ℕ) {n t : ℕ} → Hop h n t → misfit_in bound S h t s ≡ true → misfit_in (suc bound) S h n s ≡ true
hop-found S h bound s {n} {t} hop q = test-is bound S h n s ∙ by hop
  where
    by : Hop h n t → test_at S s (λ x. misfit_in bound S h x s) (at h n) ≡ true
    by (along e) = rw e q
    by (left {r = r} e) = rw e (or_left (misfit_in bound S h t s) (misfit_in bound S h r s) q)
    by (right {l = l} e) = rw e (or_right (misfit_in bound S h l s) (misfit_in bound S h t s) q)

-- an apply of another sort at the node itself
own-found : (S : Symbols) (h : Heap) (bound n f s : ℕ) (xs : List ℕ) → at h n ≡ apply f xs → f < length S → sort_of S f ≢ s → misfit_in (suc bound) S h n s ≡ true
own-found S h bound n f s xs is known other = test-is bound S h n s ∙ rw (is, lt-ltb f (length S) known, ne_eqb (sort_of S f) s other) refl

-- every misfit is found, within as many nodes as are no fails
misfit-found : (k : ℕ) (S : Symbols) (h : Heap) → solids h ≤ k → (n s : ℕ) → Misfit S h n s → misfit_in k S h n s ≡ true
misfit-found zero S h le n s x = absurd (omega (arith, solids_set h x.node (apply≢fail x.is)))
misfit-found (suc k) S h le n s x = by (ℕ_discrete x.node n) (last h n x.meets) (λ solid y p. misfit-found k S (set h n fail) (omega (arith, solids_set h n solid)) y s (there_too y p))
  where
    -- the apply that is met is another node, and stands where n is a fail, too
    there_too : (y : ℕ) → ((x.node ≢ n) × Meets (set h n fail) y x.node) → Misfit S (set h n fail) y s
    there_too y (other, p) = record {
      node = x.node;
      symbol = x.symbol;
      arguments = x.arguments;
      meets = p;
      is = same-there h n other ∙ x.is;
      known = x.known;
      other = x.other;
    }

    hop_solid : {t : ℕ} → Hop h n t → at h n ≢ fail
    hop_solid (along e) = forward≢fail e
    hop_solid (left e) = choice≢fail e
    hop_solid (right e) = choice≢fail e

    by : Dec (x.node ≡ n) → Meets (set h n fail) n x.node ⊎ Last h n x.node
        → (at h n ≢ fail → (y : ℕ) → ((x.node ≢ n) × Meets (set h n fail) y x.node) → misfit_in k S (set h n fail) y s ≡ true)
        → misfit_in (suc k) S h n s ≡ true
    by (yes q) w ih = own-found S h k n x.symbol s x.arguments (rw q at x.is) x.known x.other
    by (no q) (inl p) ih = absurd (q (fail-meets (fail-there h n) p))
    by (no q) (inr l) ih = hop-found S h k s l.hop (misfit-back k S h n l.next s (ih (hop_solid l.hop) l.next (q, l.rest)))

-- MISFIT says whether an apply of another sort is met.
pub misfit-is : (S : Symbols) (h : Heap) (n s : ℕ) → misfit S h n s ≡ true → Misfit S h n s
unfolding misfit
misfit-is S h n s e = test-misfit (length h) S h n s e

pub is-misfit : (S : Symbols) (h : Heap) (n s : ℕ) → Misfit S h n s → misfit S h n s ≡ true
unfolding misfit
is-misfit S h n s x = misfit-found (length h) S h (solids_le h) n s x
