-- What a reading has at the nodes that an expression makes, the expression can give, with what the reading has at the variables'
-- arrows. (The other way, from what the expression gives to a reading of its nodes, is in Fresh.)
use mathlib.Core.Bool.{Bool, true, false}
use mathlib.Core.Path.{◌≡◌, refl, sym}
use mathlib.Core.Logic.{◌⊎◌, inl, inr}
use mathlib.Core.List.{List, [], ◌∷◌, ◌++◌, map, map-append}
use Prim.Native.Nat.{ℕ, suc, ◌+◌}
use native.Mathlib.Nat.{le_refl}
use lib.ListN.{length}
use Rattle.expressions.specs.Expressions.{Expr, Exprs}
use Rattle.book.specs.Rules.{Book}
use Rattle.nodes.specs.Nodes.{Node, apply}
use Rattle.machine.specs.Made.{make, make_row, place}
use Rattle.rewriting.specs.Scoped.{Scoped, ScopedRow}
use Rattle.rewriting.proofs.Holds.{AllFrom, all_from_split}
use Rattle.rewriting.proofs.Lists.{get_or_mapped, length-behind}
use Rattle.meaning.specs.Partial.{Part, Parts, bot, of_list, ◌⊑◌, Gives, GivesRow}
use Rattle.meaning.specs.Readings.{Side, left, right, side_of, OperationGives, Agrees}
use Rattle.meaning.proofs.Order.{⊑_trans, ⊑_of_eq, ⊑ˡ_refl, to_list_of_list, gives_mono, agrees-constructor, agrees-operation}
use Rattle.meaning.proofs.Order.{agrees-choice, agrees-fail, agrees-forward}

-- nodes numbered from n on agree with what π has
abbrev pub Fits : Book → (ℕ → Side) → (ℕ → Part) → ℕ → List Node → Type 0
Fits B δ π n xs = AllFrom (λ m x. Agrees B δ π x (π m)) n xs

-- the expression, or each of the row, can give so much, by a derivation of some size
abbrev Given : Book → Expr → List Part → Part → Type 0
Given B e ρ p = (s : ℕ) × Gives B s e ρ p

abbrev GivenRow : Book → Exprs → List Part → Parts → Type 0
GivenRow B es ρ ps = (s : ℕ) × GivesRow B s es ρ ps

module _ (B : Book) (δ : ℕ → Side) (π : ℕ → Part) where
  -- what an application may have, the expression gives whose arguments give what its arrows have
  apply-gives : (f : ℕ) (xs : List ℕ) {es : Exprs} {ρ : List Part} (p : Part) → GivenRow B es ρ (of_list (map π xs))
      → Agrees B δ π (apply f xs) p → Given B (Expr.apply f es) ρ p
  apply-gives f xs {es} {ρ} p (s, row) a = go (B.is_constructor f) refl
    where
      operation : B.is_constructor f ≡ false → (p ≡ bot) ⊎ OperationGives B f (map π xs) p → Given B (Expr.apply f es) ρ p
      operation k (inl e) = (0, rw e Gives.nothing)
      operation k (inr o) =
          (suc (s + o.size), Gives.operation {e = o.expr} {ρ' = o.env} (le_refl _) k row (rw to_list_of_list o.hits) o.gives)

      go : (b : Bool) → B.is_constructor f ≡ b → Given B (Expr.apply f es) ρ p
      go true k = (s, gives_mono (Gives.constructor k row) (⊑ˡ_refl ρ) ((agrees-constructor B δ π refl k).0 a))
      go false k = operation k ((agrees-operation B δ π refl k).0 a)

  -- what a choice may have, one of its sides gives
  choice-gives : (i l r : ℕ) {a b : Expr} {ρ : List Part} {p : Part} → Given B a ρ (π l) → Given B b ρ (π r) → p ⊑ π (side_of (δ i) l r)
      → Given B (Expr.choice a b) ρ p
  unfolding side_of
  choice-gives i l r {a} {b} {ρ} {p} (s, ga) (t, gb) le = go (δ i) le
    where
      go : (d : Side) → p ⊑ π (side_of d l r) → Given B (Expr.choice a b) ρ p
      go left k = (suc s, Gives.left (le_refl _) (gives_mono ga (⊑ˡ_refl ρ) k))
      go right k = (suc t, Gives.right (le_refl _) (gives_mono gb (⊑ˡ_refl ρ) k))

  -- what a body may have with what the shared part's arrow x has, both give together
  shared-gives : (env : List ℕ) (x : ℕ) {n : ℕ} {a b : Expr} {p : Part} → Given B a (map π env) (π x) → Given B b (map π (env ++ (x ∷ []))) p
      → Given B (Expr.shared n a b) (map π env) p
  shared-gives env x (s, first) (t, body) = (s + t, Gives.shared (le_refl _) first (rw map-append at body))

  mutual
    unfolding make of_list

    -- what a reading has at the nodes of an expression, and of a row of them, these can give
    pub make-gives : (e : Expr) (env : List ℕ) (n k : ℕ) → Scoped (length env) e → Fits B δ π n (make e env n k).nodes
        → Given B e (map π env) (π (make e env n k).arrow)
    make-gives (Expr.var x) env n k scoped fits = (0, Gives.var (⊑_of_eq (sym (get_or_mapped π env x 0 bot scoped))))
    make-gives (Expr.apply f es) env n k scoped (a, fits) = apply-gives f (make_row es env (suc n) k).arrows (π n)
        (make_row-gives es env (suc n) k scoped fits) a
    make-gives (Expr.choice c d) env n k (sc, sd) (a, fits) =
        let l = make c env (suc n) (suc k) in
        let r = make d env (suc n + length l.nodes) l.choices in
        let (fl, fr) = all_from_split (λ m x. Agrees B δ π x (π m)) (suc n) l.nodes r.nodes fits in
        choice-gives k l.arrow r.arrow (make-gives c env (suc n) (suc k) sc fl)
        (make-gives d env (suc n + length l.nodes) l.choices sd fr) ((agrees-choice B δ π refl).0 a)
    make-gives Expr.fail env n k scoped (a, fits) = (0, rw ((agrees-fail B δ π refl).0 a) Gives.nothing)
    make-gives (Expr.shared t c d) env n k (sc, sd) fits =
        let l = make c env n k in
        let r = make d (env ++ (l.arrow ∷ [])) (n + length l.nodes) l.choices in
        let (fl, fr) = all_from_split (λ m x. Agrees B δ π x (π m)) n l.nodes r.nodes fits in
        shared-gives env l.arrow (make-gives c env n k sc fl)
        (make-gives d (env ++ (l.arrow ∷ [])) (n + length l.nodes) l.choices (rw length-behind sd) fr)

    -- of a row
    pub make_row-gives : (es : Exprs) (env : List ℕ) (n k : ℕ) → ScopedRow (length env) es → Fits B δ π n (make_row es env n k).nodes
        → GivenRow B es (map π env) (of_list (map π (make_row es env n k).arrows))
    make_row-gives Exprs.no_exprs env n k scoped fits = (0, GivesRow.none)
    make_row-gives (Exprs.more_exprs e es) env n k (se, ses) fits =
        let a = make e env n k in
        let r = make_row es env (n + length a.nodes) a.choices in
        let (fa, fr) = all_from_split (λ m x. Agrees B δ π x (π m)) n a.nodes r.nodes fits in
        let (s, first) = make-gives e env n k se fa in
        let (t, others) = make_row-gives es env (n + length a.nodes) a.choices ses fr in
        (s + t, GivesRow.more (le_refl _) first others)

  -- the same of an expression that takes the place of a node, which may have p
  pub place-gives : (e : Expr) (env : List ℕ) (n k : ℕ) (p : Part) → Scoped (length env) e → Agrees B δ π (place e env n k).top p
      → Fits B δ π n (place e env n k).nodes → Given B e (map π env) p
  unfolding place
  place-gives (Expr.var x) env n k p scoped a fits =
      (0, Gives.var (⊑_trans ((agrees-forward B δ π refl).0 a) (⊑_of_eq (sym (get_or_mapped π env x 0 bot scoped)))))
  place-gives (Expr.apply f es) env n k p scoped a fits = apply-gives f (make_row es env n k).arrows p (make_row-gives es env n k scoped fits) a
  place-gives (Expr.choice c d) env n k p (sc, sd) a fits =
      let l = make c env n (suc k) in
      let r = make d env (n + length l.nodes) l.choices in
      let (fl, fr) = all_from_split (λ m x. Agrees B δ π x (π m)) n l.nodes r.nodes fits in
      choice-gives k l.arrow r.arrow (make-gives c env n (suc k) sc fl) (make-gives d env (n + length l.nodes) l.choices sd fr)
      ((agrees-choice B δ π refl).0 a)
  place-gives Expr.fail env n k p scoped a fits = (0, rw ((agrees-fail B δ π refl).0 a) Gives.nothing)
  place-gives (Expr.shared t c d) env n k p (sc, sd) a fits =
      let l = make c env n k in
      let r = place d (env ++ (l.arrow ∷ [])) (n + length l.nodes) l.choices in
      let (fl, fr) = all_from_split (λ m x. Agrees B δ π x (π m)) n l.nodes r.nodes fits in
      shared-gives env l.arrow (make-gives c env n k sc fl)
      (place-gives d (env ++ (l.arrow ∷ [])) (n + length l.nodes) l.choices p (rw length-behind sd) a fr)
