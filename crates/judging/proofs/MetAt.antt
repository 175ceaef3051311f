-- What is said of a node, by its kind, as the code reads it.
use mathlib.Core.Bool.{Bool, true, false}
use mathlib.Core.List.{List}
use mathlib.Core.Path.{◌≡◌, refl, sym, ap, ◌∙◌}
use Prim.Native.Nat.{ℕ, zero, suc, ◌<◌, ◌≤◌}
use native.Mathlib.Omega.{arith}
use borrow.Author.Tests.{lt-ltb, le-ltb}
use lib.Dec.{ltb}
use lib.ListN.{length, get_or}
use Rattle.symbols.specs.Symbols.{Symbol, Symbols}
use Rattle.symbols.specs.Table.{symbol_in, symbols_in}
use Rattle.symbols.proofs.Tables.{symbol-there, as_many}
use Rattle.nodes.specs.Nodes.{Node, apply, choice, fail, forward}
use Rattle.nodes.specs.Numbers.{kind_in, label_in, arrow_in}
use Rattle.sorts.specs.Sorts.{sort_of}
use Rattle.accepted.specs.Read.{node_by, node_in}
use Rattle.judging.specs.declared.said.Said.{Said}
use Rattle.judging.specs.declared.said.Said.TheVariants.{Nothing, One, Several}
use Rattle.judging.specs.Sorts.{joined, met_by}

module _ (book table m : List ℕ) (met : List Said) (n : ℕ) (own : Said) where
  abbrev S : Symbols
  S = symbols_in book table

  abbrev said : Said
  said = met_by S met own (node_in S m n)

  -- nothing more can be said of some sorts
  pub said_several : own ≡ Several → own ≡ said
  unfolding met_by joined
  said_several e = rw e (by (node_in S m n))
    where
      sort : (b : Bool) (s : ℕ) → Several ≡ elim b [ true ↦ joined Several (One s) | false ↦ Several ]
      sort true s = refl
      sort false s = refl

      by : (x : Node) → Several ≡ met_by S met Several x
      by (apply f xs) = sort (ltb f (length S)) (sort_of S f)
      by (choice i l r) = refl
      by fail = refl
      by (forward t) = refl

  pub said_known : (kind f s : ℕ) (r : Said) → kind ≡ kind_in m n → kind ≡ 0 → f ≡ label_in m n → f < length table
      → s ≡ (symbol_in book (get_or table f 0)).sort
      → r ≡ joined own (One s) → r ≡ said
  unfolding met_by node_by
  said_known kind f s r k is l lt sort e =
      let known : label_in m n < length S = omega (arith, l, lt, as_many book table) in
      let same : sort_of S (label_in m n) ≡ s = ap (λ (g : ℕ). sort_of S g) (sym l) ∙ ap (λ (x : Symbol). x.sort) (symbol-there book table f lt) ∙ sym sort in
      e ∙ rw (sym k ∙ is, met_by, lt-ltb (label_in m n) (length S) known, same) refl

  pub said_unknown : (kind f : ℕ) → kind ≡ kind_in m n → kind ≡ 0 → f ≡ label_in m n → length table ≤ f → own ≡ said
  unfolding met_by node_by
  said_unknown kind f k is l past =
      let unknown : length S ≤ label_in m n = omega (arith, l, past, as_many book table) in
      rw (sym k ∙ is, met_by, le-ltb (label_in m n) (length S) unknown) refl

  pub said_choice : (kind : ℕ) (a b i r : Said) → kind ≡ kind_in m n → kind ≡ 1 → a ≡ get_or met (arrow_in m n 0) Nothing
      → b ≡ get_or met (arrow_in m n 1) Nothing
      → i ≡ joined own a → r ≡ joined i b → r ≡ said
  unfolding met_by node_by
  said_choice kind a b i r k is l q first e = e ∙ rw (first, l, q, sym k ∙ is, met_by) refl

  pub said_forward : (kind : ℕ) (a r : Said) → kind ≡ kind_in m n → kind ≡ 3 → a ≡ get_or met (arrow_in m n 0) Nothing → r ≡ joined own a → r ≡ said
  unfolding met_by node_by
  said_forward kind a r k is l e = e ∙ rw (l, sym k ∙ is, met_by) refl

  pub said_other : (kind : ℕ) → kind ≡ kind_in m n → (kind ≡ 0 → ⊥) → (kind ≡ 1 → ⊥) → (kind ≡ 3 → ⊥) → own ≡ said
  unfolding met_by node_by
  said_other kind k a b d = by (kind_in m n) (λ z. a (k ∙ z)) (λ z. b (k ∙ z)) (λ z. d (k ∙ z))
    where
      by : (c : ℕ) → (c ≡ 0 → ⊥) → (c ≡ 1 → ⊥) → (c ≡ 3 → ⊥) → own ≡ met_by S met own (node_by c S m n)
      by zero a b d = absurd (a refl)
      by (suc zero) a b d = absurd (b refl)
      by (suc (suc zero)) a b d = refl
      by (suc (suc (suc zero))) a b d = absurd (d refl)
      by (suc (suc (suc (suc c)))) a b d = refl
