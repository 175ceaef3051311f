-- Partial values: what is known of a node so far. `bot` is nothing yet.
use Rattle.std.specs.Prelude.{true, false, ◌≡◌, List, [], ◌∷◌, ◌++◌, ℕ, ◌+◌, ◌≤◌, ◌<◌, length, get_or}
use Rattle.expressions.specs.Expressions.{Expr, Exprs}
use Rattle.book.specs.Trees.{Tree, Trees, tree_at}
use Rattle.book.specs.Rules.{Book}
use Rattle.rewriting.specs.Scoped.{Scoped}

mutual
  -- nothing, or a constructor and the partial values of its arguments
  pub data Part : Type 0 where
    bot : Part
    con : ℕ → Parts → Part

  pub data Parts : Type 0 where
    no_parts : Parts
    more_parts : Part → Parts → Parts

-- a row as a list, and back
unfoldable pub to_list : Parts → List Part
to_list no_parts = []
to_list (more_parts p ps) = p ∷ to_list ps

unfoldable pub of_list : List Part → Parts
of_list [] = no_parts
of_list (p ∷ ps) = more_parts p (of_list ps)

infix 40 ◌⊑◌
infix 40 ◌⊑*◌
mutual
  -- p says no more than q
  pub data ◌⊑◌ : Part → Part → Type 0 where
    bot⊑ : {q : Part} → bot ⊑ q
    con⊑ : {c : ℕ} {ps qs : Parts} → ps ⊑* qs → con c ps ⊑ con c qs

  pub data ◌⊑*◌ : Parts → Parts → Type 0 where
    none⊑ : no_parts ⊑* no_parts
    more⊑ : {p q : Part} {ps qs : Parts} → p ⊑ q → ps ⊑* qs → more_parts p ps ⊑* more_parts q qs

module _ (B : Book) where
  -- with these partial values for the variables, the path through a tree ends at a rule
  pub data Hits : Tree → List Part → Expr → List Part → Type 0 where
    rule : {e : Expr} {ρ : List Part} → Scoped (length ρ) e → Hits (Tree.rule e) ρ e ρ
    branch : {x c : ℕ} {ts : Trees} {ρ : List Part} {ps : Parts} {e : Expr} {ρ' : List Part}
        → get_or ρ x bot ≡ con c ps → B.is_constructor c ≡ true
        → Hits (tree_at ts (B.place c)) (ρ ++ to_list ps) e ρ' → Hits (Tree.branch x ts) ρ e ρ'

  mutual
    -- the expression e can give p, with these partial values for the variables, by a derivation of size s at most; each choice is
    -- taken one way. What is counted are the operations rewritten and the choices taken.
    pub data Gives : ℕ → Expr → List Part → Part → Type 0 where
      nothing : {s : ℕ} {e : Expr} {ρ : List Part} → Gives s e ρ bot
      var : {s x : ℕ} {ρ : List Part} {p : Part} → p ⊑ get_or ρ x bot → Gives s (Expr.var x) ρ p
      constructor : {s c : ℕ} {es : Exprs} {ρ : List Part} {ps : Parts} → B.is_constructor c ≡ true → GivesRow s es ρ ps
          → Gives s (Expr.apply c es) ρ (con c ps)
      operation : {s r t f : ℕ} {es : Exprs} {ρ : List Part} {ps : Parts} {e : Expr} {ρ' : List Part} {p : Part} → r + t < s
          → B.is_constructor f ≡ false → GivesRow r es ρ ps → Hits (B.tree f) (to_list ps) e ρ' → Gives t e ρ' p
          → Gives s (Expr.apply f es) ρ p
      left : {s t : ℕ} {a b : Expr} {ρ : List Part} {p : Part} → t < s → Gives t a ρ p → Gives s (Expr.choice a b) ρ p
      right : {s t : ℕ} {a b : Expr} {ρ : List Part} {p : Part} → t < s → Gives t b ρ p → Gives s (Expr.choice a b) ρ p
      shared : {s r t n : ℕ} {a b : Expr} {ρ : List Part} {q p : Part} → r + t ≤ s → Gives r a ρ q → Gives t b (ρ ++ (q ∷ [])) p
          → Gives s (Expr.shared n a b) ρ p

    -- the same of a row of expressions
    pub data GivesRow : ℕ → Exprs → List Part → Parts → Type 0 where
      none : {s : ℕ} {ρ : List Part} → GivesRow s Exprs.no_exprs ρ no_parts
      more : {s r t : ℕ} {e : Expr} {es : Exprs} {ρ : List Part} {p : Part} {ps : Parts} → r + t ≤ s
          → Gives r e ρ p → GivesRow t es ρ ps → GivesRow s (Exprs.more_exprs e es) ρ (more_parts p ps)
