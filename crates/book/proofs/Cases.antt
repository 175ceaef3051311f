-- The cases of a branch, read one after the other: what the cases still to come give, the whole row gives.
use mathlib.Core.Bool.{true}
use mathlib.Core.List.{List, [], ◌∷◌}
use mathlib.Core.Path.{◌≡◌, refl, sym, ap, ◌∙◌}
use Prim.Native.Nat.{ℕ, ◌+◌}
use Rattle.reading.specs.Reading.{Reading, got, refusal, ◌then◌}
use Rattle.reading.specs.Answer.{keeping, nothing}
use Rattle.reading.proofs.Keeping.{then-got, then-refusal}
use Rattle.symbols.specs.Symbols.{Symbol, Symbols, is_constructor_of, constructors_of}
use Rattle.book.specs.Trees.{Tree, Trees, no_trees, more_trees}
use Rattle.book.specs.TreeAt.{trees_with}
use Rattle.book.specs.Index.{tree_bytes, mark_tree, mark_trees}
use Rattle.book.specs.Reader.{MarkedRow}

-- `whole` is the row from `from` on over the ends `was`; `rest` the cases still to come, from p on over the ends `is`
pub record Onward (whole : Reading Trees) (from : ℕ) (was : List ℕ) (rest : Reading Trees) (p : ℕ) (is : List ℕ) : Type 0 where
  pub refused : (c q : ℕ) → rest ≡ refusal c q → whole ≡ refusal c q
  pub read : (ts : Trees) (q : ℕ) → rest ≡ got ts q → (all : Trees) × (whole ≡ got all q) × (mark_trees from all was ≡ mark_trees p ts is)

module _ (bs : List ℕ) (S : Symbols) (sort e : ℕ) (tree : List ℕ → ℕ → Reading Tree) (branch : ℕ) where
  -- the cases of these symbols
  abbrev pub cases_of : Symbols → ℕ → Reading Trees
  cases_of symbols p = trees_with bs S sort e tree (constructors_of branch symbols) p

  -- a case in front is read first
  case-first : (x : Symbol) (rest : Symbols) (p : ℕ) → is_constructor_of branch x ≡ true
      → cases_of (x ∷ rest) p ≡ ◌then◌ (tree x.arguments p) (λ t q. ◌then◌ (cases_of rest q) (λ ts r. got (more_trees t ts) r))
  unfolding constructors_of trees_with
  case-first x rest p case = rw (case, constructors_of)

  module _ (whole : Reading Trees) (from : ℕ) (was : List ℕ) where
    -- at first nothing is read
    pub onward_first : {p : ℕ} {is : List ℕ} (rest : Reading Trees) → rest ≡ whole → p ≡ from → is ≡ was → Onward whole from was rest p is
    onward_first rest e f g = record {
      refused = λ c q r. sym e ∙ r;
      read = λ ts q r. (ts, sym e ∙ r, ap (λ (k : ℕ). mark_trees k ts was) (sym f) ∙ ap (mark_trees _ ts) (sym g));
    }

    -- a case that was read, and its ends marked
    pub onward_read : (x : Symbol) (rest : Symbols) (p q : ℕ) (is now : List ℕ) (t : Tree) → is_constructor_of branch x ≡ true
        → tree x.arguments p ≡ got t q → q ≡ p + tree_bytes t → now ≡ mark_tree p t is
        → Onward whole from was (cases_of (x ∷ rest) p) p is → Onward whole from was (cases_of rest q) q now
    unfolding mark_trees
    onward_read x rest p q is now t case r s m on = record {
      refused = λ c k z. on.refused c k (case-first x rest p case ∙ then-got _ r ∙ then-refusal _ z);
      read = λ ts k z.
          let w = on.read (more_trees t ts) k (case-first x rest p case ∙ then-got _ r ∙ then-got _ z) in
          (w.0, w.1, w.2 ∙ ap (λ (i : ℕ). mark_trees i ts (mark_tree p t is)) (sym s) ∙ ap (mark_trees q ts) (sym m));
    }

    -- a case that is refused
    pub onward_refused : (x : Symbol) (rest : Symbols) (p : ℕ) (is : List ℕ) (c q : ℕ) → is_constructor_of branch x ≡ true
        → tree x.arguments p ≡ refusal c q → Onward whole from was (cases_of (x ∷ rest) p) p is → refusal c q ≡ keeping nothing whole
    unfolding keeping
    onward_refused x rest p is c q case r on = rw (on.refused c q (case-first x rest p case ∙ then-refusal _ r), keeping)

    -- no case is left
    pub onward_last : (p : ℕ) (is : List ℕ) → Onward whole from was (cases_of [] p) p is → (got 0 p ≡ keeping nothing whole) × MarkedRow from whole was is
    unfolding constructors_of trees_with mark_trees keeping MarkedRow
    onward_last p is on =
        let w = on.read no_trees p refl in
        (rw (w.1, keeping), rw (w.1, MarkedRow) (sym w.2))
