-- The tests of a node by what is said to be met are those of the definition (crate `accepted`, specs/Faults.antt).
use mathlib.Core.Bool.{Bool, true, false, ◌||◌}
use mathlib.Core.List.{List, [], ◌∷◌}
use mathlib.Core.Logic.{inl, inr}
use mathlib.Core.Path.{◌≡◌, refl, sym, ap, ap₂, ◌∙◌}
use Prim.Native.Nat.{ℕ, zero, suc, ◌+◌, ◌<◌, ◌≤◌}
use native.Mathlib.Decide.{ℕ_discrete}
use native.Mathlib.Omega.{arith}
use borrow.Author.Tests.{eq-eqb, ne_eqb}
use lib.Dec.{leb, ltb}
use lib.ListN.{length, get_or, drop}
use Rattle.symbols.specs.Symbols.{Symbols}
use Rattle.nodes.specs.Nodes.{Node, apply, choice, fail, forward, Heap, at}
use Rattle.nodes.specs.Numbers.{kind_in}
use Rattle.sorts.specs.Sorts.{arguments_of}
use Rattle.accepted.specs.Read.{node_in, heap_in}
use Rattle.accepted.specs.Faults.{some_of, arrows_of, returns, misfit, some_misfit, bad_at, bad_node}
use Rattle.accepted.proofs.Judged.{heap-at, heap-sized}
use Rattle.judging.specs.declared.said.Said.{Said}
use Rattle.judging.specs.declared.said.Said.TheVariants.{Nothing, One, Several}
use Rattle.judging.specs.Sorts.{AllMet, unfit, some_unfit, wrong_by}
use Rattle.judging.proofs.Tests.{met-fits, met_misfits}

-- ---- one argument

module _ (S : Symbols) (h : Heap) (met : List Said) (all : AllMet S h met) where
  pub unfit-is : (x s : ℕ) → unfit (get_or met x Nothing) s ≡ misfit S h x s
  unfolding unfit
  unfit-is x s = by (get_or met x Nothing) refl
    where
      by : (v : Said) → get_or met x Nothing ≡ v → unfit v s ≡ misfit S h x s
      by Nothing q = sym (met-fits S h met all x s (inl q))
      by (One t) q = one (ℕ_discrete t s)
        where
          one : Dec (t ≡ s) → unfit (One t) s ≡ misfit S h x s
          one (yes e) = rw (eq-eqb t s e) (sym (met-fits S h met all x s (inr (q ∙ ap One e))))
          one (no o) = rw (ne_eqb t s o) (sym (met_misfits S h met all x s (λ z. let w : ◌≡◌ {A = ℕ} 0 1 = cc in omega arith) (λ z. o (cc))))
      by Several q = sym (met_misfits S h met all x s (λ z. let w : ◌≡◌ {A = ℕ} 0 1 = cc in omega arith) (λ z. let w : ◌≡◌ {A = ℕ} 0 1 = cc in omega arith))

  -- ---- a row of arguments

  some-unfit : (xs ss : List ℕ) → some_unfit met xs ss ≡ some_misfit S h xs ss
  unfolding some_unfit some_misfit
  some-unfit [] ss = refl
  some-unfit (x ∷ xs) [] = refl
  some-unfit (x ∷ xs) (s ∷ ss) = ap₂ ◌||◌ (unfit-is x s) (some-unfit xs ss)

  -- ---- a node

  wrong_at : (k : ℕ) (x : Node) → wrong_by S k met x ≡ bad_at S k h x
  unfolding wrong_by bad_at
  wrong_at k (apply f xs) = ap (λ (b : Bool). leb (length S) f || b) (some-unfit xs (arguments_of S f))
  wrong_at k (choice i l r) = refl
  wrong_at k fail = refl
  wrong_at k (forward m) = refl

module _ (S : Symbols) (k : ℕ) (m : List ℕ) (used : ℕ) (met : List Said) (all : AllMet S (heap_in S m used) met)
    (n : ℕ) (lt : n < used) where
  -- THE TEST of a node: what the code sees, or a circle
  pub bad-node : bad_node S k m (heap_in S m used) n
      ≡ (ltb 3 (kind_in m n) || wrong_by S k met (node_in S m n) || some_of (leb used) (arrows_of (node_in S m n)) || returns (heap_in S m used) n)
  unfolding bad_node
  bad-node =
      let h = heap_in S m used in
      let is : at h n ≡ node_in S m n = heap-at S m used n lt in
      let own : bad_at S k h (at h n) ≡ wrong_by S k met (node_in S m n) = ap (bad_at S k h) is ∙ sym (wrong_at S h met all k (node_in S m n)) in
      let out : some_of (leb (length h)) (arrows_of (at h n)) ≡ some_of (leb used) (arrows_of (node_in S m n)) =
      ap₂ (λ (b : ℕ) (x : Node). some_of (leb b) (arrows_of x)) (heap-sized S m used) is in
      ap₂ (λ (a b : Bool). ltb 3 (kind_in m n) || a || b || returns h n) own out

-- ---- a row of arguments, from a place on

module _ (met : List Said) where
  pub unfit-none-left : (xs ss : List ℕ) (j : ℕ) → length ss ≤ j → some_unfit met (drop j xs) (drop j ss) ≡ false
  unfolding some_unfit
  unfit-none-left [] [] zero le = refl
  unfit-none-left (x ∷ xs) [] zero le = refl
  unfit-none-left xs (s ∷ ss) zero le = absurd (omega arith)
  unfit-none-left [] [] (suc j) le = refl
  unfit-none-left (x ∷ xs) [] (suc j) le = by (drop j xs)
    where
      by : (ys : List ℕ) → some_unfit met ys [] ≡ false
      by [] = refl
      by (y ∷ ys) = refl
  unfit-none-left [] (s ∷ ss) (suc j) le = refl
  unfit-none-left (x ∷ xs) (s ∷ ss) (suc j) le = unfit-none-left xs ss j (omega arith)

  one_more : (xs ss : List ℕ) (j : ℕ) → j < length xs → j < length ss
      → some_unfit met (drop j xs) (drop j ss) ≡ (unfit (get_or met (get_or xs j 0) Nothing) (get_or ss j 0) || some_unfit met (drop (suc j) xs)
      (drop (suc j) ss))
  unfolding some_unfit
  one_more [] ss j lx ls = absurd (omega arith)
  one_more (x ∷ xs) [] j lx ls = absurd (omega arith)
  one_more (x ∷ []) (s ∷ []) zero lx ls = refl
  one_more (x ∷ []) (s ∷ (t ∷ ss)) zero lx ls = refl
  one_more (x ∷ (y ∷ xs)) (s ∷ []) zero lx ls = refl
  one_more (x ∷ (y ∷ xs)) (s ∷ (t ∷ ss)) zero lx ls = refl
  one_more (x ∷ xs) (s ∷ ss) (suc j) lx ls = one_more xs ss j (omega arith) (omega arith)

  module _ (xs ss : List ℕ) (j x s : ℕ) (lx : j < length xs) (ls : j < length ss) (arrow : get_or xs j 0 ≡ x) (sort : get_or ss j 0 ≡ s) where
    here-is : unfit (get_or met (get_or xs j 0) Nothing) (get_or ss j 0) ≡ unfit (get_or met x Nothing) s
    here-is = ap₂ (λ (a b : ℕ). unfit (get_or met a Nothing) b) arrow sort

    -- one that is not bad, and one that is
    pub unfit-step-none : unfit (get_or met x Nothing) s ≡ false → some_unfit met (drop j xs) (drop j ss) ≡ some_unfit met (drop (j + 1) xs) (drop (j + 1) ss)
    unfit-step-none e =
        let next : suc j ≡ j + 1 = omega arith in
        one_more xs ss j lx ls ∙ ap (λ (b : Bool). b || some_unfit met (drop (suc j) xs) (drop (suc j) ss)) (here-is ∙ e)
        ∙ ap (λ (i : ℕ). some_unfit met (drop i xs) (drop i ss)) next

    pub unfit-step-some : unfit (get_or met x Nothing) s ≡ true → some_unfit met (drop j xs) (drop j ss) ≡ true
    unfit-step-some e = one_more xs ss j lx ls ∙ ap (λ (b : Bool). b || some_unfit met (drop (suc j) xs) (drop (suc j) ss)) (here-is ∙ e)
