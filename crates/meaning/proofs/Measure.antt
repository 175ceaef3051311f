-- Readings with sizes: how many steps the derivations in a reading still stand for. A sized reading may be raised (its partial
-- values enlarged) without its sizes growing, and every reading has sizes.
use mathlib.Core.Path.{◌≡◌}
use mathlib.Core.List.{List, [], ◌∷◌, ◌++◌}
use Prim.Native.Nat.{ℕ, zero, suc, ◌<◌}
use lib.ListN.{length, get_or, set}
use Rattle.book.specs.Rules.{Book}
use Rattle.nodes.specs.Nodes.{Node, at}
use Rattle.rewriting.specs.Lists.{firsts}
use Rattle.rewriting.specs.Heaps.{ChoiceBelow, ChoicesBelow}
use Rattle.meaning.specs.Partial.{Part, Parts, bot, no_parts, more_parts, to_list, of_list, ◌⊑*◌, none⊑, more⊑}
use Rattle.meaning.specs.Readings.{Side, AgreesIn, Agrees}
use Rattle.meaning.proofs.Order.{⊑_refl, ◌⊑ˡ◌, []⊑, ◌∷⊑◌, ◌⊑ᶠ◌, agrees_in_mono}

-- the same with a row on the left only
pub below_row : {ps : Parts} (qs : List Part) → ps ⊑* of_list qs → to_list ps ⊑ˡ qs
unfolding to_list of_list
below_row [] none⊑ = []⊑
below_row (q ∷ qs) (more⊑ a at') = a ∷⊑ below_row qs at'

-- and on the right only
pub row_below : {qs : List Part} (ps : Parts) → to_list ps ⊑ˡ qs → ps ⊑* of_list qs
unfolding to_list of_list
row_below no_parts []⊑ = none⊑
row_below (more_parts p ps) (a ∷⊑ at') = more⊑ a (row_below ps at')

-- a node whose choice is an old one has none of the new numbers
pub old-choice : {k : ℕ} {x : Node} {i l r : ℕ} → ChoiceBelow k x → x ≡ Node.choice i l r → i < k
old-choice below e = rw e at below

module _ (B : Book) where
  module _ (δ : ℕ → Side) (π : ℕ → Part) where
    -- the nodes of a heap, each with its partial value and its size
    pub data Read : List Node → List Part → List ℕ → Type 0 where
      none : Read [] [] []
      more : {x : Node} {p : Part} {s : ℕ} {h : List Node} {ps : List Part} {ss : List ℕ} → AgreesIn B δ π s x p → Read h ps ss
          → Read (x ∷ h) (p ∷ ps) (s ∷ ss)

    -- each node agrees with its part, by its size
    pub read_at : {h : List Node} {ps : List Part} {ss : List ℕ} → Read h ps ss → (m : ℕ) → AgreesIn B δ π (get_or ss m 0) (at h m) (get_or ps m bot)
    read_at none m = AgreesIn.idle
    read_at (more a r) zero = a
    read_at (more a r) (suc m) = read_at r m

    -- heaps one behind the other
    pub read_append : {h h' : List Node} {ps ps' : List Part} {ss ss' : List ℕ} → Read h ps ss → Read h' ps' ss'
        → Read (h ++ h') (ps ++ ps') (ss ++ ss')
    read_append none r' = r'
    read_append (more a r) r' = more a (read_append r r')

    -- a node replaced by one that agrees with its part
    pub read_set : {h : List Node} {ps : List Part} {ss : List ℕ} {x : Node} {s : ℕ} (n : ℕ)
        → Read h ps ss → AgreesIn B δ π s x (get_or ps n bot) → Read (set h n x) ps (set ss n s)
    read_set n none b = none
    read_set zero (more a r) b = more b r
    read_set (suc n) (more a r) b = more a (read_set n r b)

  -- a larger reading, with the same sides for the choices that there are, is no larger in size
  pub raise_read : {δ δ' : ℕ → Side} {π π' : ℕ → Part} {k : ℕ} {h : List Node} {ps : List Part} {ss : List ℕ}
      → ((i : ℕ) → i < k → δ i ≡ δ' i) → π ⊑ᶠ π'
      → ChoicesBelow k h → Read δ π h ps ss → Read δ' π' h ps ss
  raise_read same le below none = none
  raise_read same le below (more a r) = more (agrees_in_mono (λ i l r e. same i (old-choice (below 0) e)) le (⊑_refl _) a) (raise_read same le (λ m. below (suc m)) r)

  -- every reading of a heap has sizes
  pub read_of : {δ : ℕ → Side} {π : ℕ → Part} (h : List Node) (ρ : ℕ → Part) → ((m : ℕ) → Agrees B δ π (at h m) (ρ m))
      → (ss : List ℕ) × Read δ π h (firsts (length h) ρ) ss
  unfolding firsts
  read_of [] ρ a = ([], none)
  read_of (x ∷ h) ρ a =
      let (s, agrees) = a 0 in
      let (ss, read) = read_of h (λ m. ρ (suc m)) (λ m. a (suc m)) in
      (s ∷ ss, more agrees read)
