-- What the expressions of a listing book can give: a nest of choices gives what one of its items gives, a term itself, an operation what its rule gives.
use mathlib.Core.Bool.{true, false}
use mathlib.Core.Path.{◌≡◌, refl}
use mathlib.Core.Logic.{◌⊎◌, inl, inr}
use mathlib.Core.List.{List, [], ◌∷◌}
use Prim.Native.Nat.{ℕ, suc, ◌≤◌, ◌<◌}
use native.Mathlib.Omega.{arith}
use native.Mathlib.Nat.{le_refl}
use Rattle.expressions.specs.Expressions.{Expr, Exprs}
use Rattle.book.specs.Trees.{Tree}
use Rattle.book.specs.Rules.{Book}
use Rattle.tagged.specs.Terms.{nested}
use Rattle.tagged.specs.Hops.{In, first, later}
use Rattle.rewriting.specs.Scoped.{Scoped}
use Rattle.meaning.specs.Partial.{Part, Parts, bot, to_list, Hits, Gives, GivesRow}
use Rattle.meaning.specs.Readings.{OperationGives}

module _ (B : Book) where
  -- ---- a nest of choices

  -- some item gives it, by a derivation that is no larger
  pub record OneGives (s : ℕ) (es : List Expr) (ρ : List Part) (p : Part) : Type 0 where
    pub size : ℕ
    pub small : size ≤ s
    pub item : Expr
    pub there : In item es
    pub gives : Gives B size item ρ p

  one_later : {s t : ℕ} {e : Expr} {es : List Expr} {ρ : List Part} {p : Part} → t ≤ s → OneGives t es ρ p → OneGives s (e ∷ es) ρ p
  one_later h o = record { size = o.size; small = omega (arith, o.small); item = o.item; there = later o.there; gives = o.gives }

  pub nest_gives : {s : ℕ} (es : List Expr) {ρ : List Part} {p : Part} → Gives B s (nested es) ρ p → (p ≡ bot) ⊎ OneGives s es ρ p
  unfolding nested
  nest_gives [] Gives.nothing = inl refl
  nest_gives (e ∷ []) g = inr (record { size = _; small = le_refl _; item = e; there = first; gives = g })
  nest_gives (e ∷ (f ∷ es)) Gives.nothing = inl refl
  nest_gives (e ∷ (f ∷ es)) (Gives.left {t} lt g) = inr (record { size = t; small = omega arith; item = e; there = first; gives = g })
  nest_gives (e ∷ (f ∷ es)) (Gives.right {s} {t} lt g) = next (nest_gives (f ∷ es) g)
    where
      next : {ρ : List Part} {p : Part} → (p ≡ bot) ⊎ OneGives t (f ∷ es) ρ p → (p ≡ bot) ⊎ OneGives s (e ∷ (f ∷ es)) ρ p
      next (inl z) = inl z
      next (inr o) = inr (one_later (omega arith) o)

  -- what some item gives the nest gives
  pub gives_nest : {s : ℕ} (es : List Expr) {e : Expr} {ρ : List Part} {p : Part} → In e es → Gives B s e ρ p → (t : ℕ) × Gives B t (nested es) ρ p
  unfolding nested
  gives_nest {s} (e ∷ []) first g = (s, g)
  gives_nest {s} (e ∷ (f ∷ es)) first g = (suc s, Gives.left (le_refl _) g)
  gives_nest (e ∷ (f ∷ es)) (later i) g = let (t, more) = gives_nest (f ∷ es) i g in (suc t, Gives.right (le_refl _) more)
  gives_nest {s = s} [] {e = e} {ρ = ρ} {p = p} x'' g = elim x'' [ ]
  gives_nest {s = s} (e ∷ []) {ρ = ρ} {p = p} (later i) g = elim i [ ]

  -- ---- a term

  pub term-gives : {s b : ℕ} {ρ : List Part} {p : Part} → B.is_constructor b ≡ true → Gives B s (Expr.apply b Exprs.no_exprs) ρ p
      → (p ≡ bot) ⊎ (p ≡ Part.con b Parts.no_parts)
  term-gives k Gives.nothing = inl refl
  term-gives k (Gives.constructor k' GivesRow.none) = inr refl
  term-gives k (Gives.operation lt k' row hits g) = absurd (let z : ◌≡◌ {A = ℕ} 0 1 = cc in omega arith)

  pub gives-term : {b : ℕ} {ρ : List Part} → B.is_constructor b ≡ true → Gives B 0 (Expr.apply b Exprs.no_exprs) ρ (Part.con b Parts.no_parts)
  gives-term k = Gives.constructor k GivesRow.none

  -- ---- an operation without arguments, whose tree is one rule

  -- at a rule the path ends at once
  hits-rule : {t : Tree} {e e' : Expr} {ρ ρ' : List Part} → t ≡ Tree.rule e → Hits B t ρ e' ρ' → (e' ≡ e) × (ρ' ≡ ρ)
  hits-rule is (Hits.rule scoped) = (cc, refl)
  hits-rule is (Hits.branch there k more) = absurd (let z : ◌≡◌ {A = ℕ} 0 1 = cc in omega arith)

  -- what it gives its rule gives, by a smaller derivation
  pub operation-gives : {s f : ℕ} {e : Expr} {ρ : List Part} {p : Part} → B.is_constructor f ≡ false → B.tree f ≡ Tree.rule e
      → Gives B s (Expr.apply f Exprs.no_exprs) ρ p → (p ≡ bot) ⊎ ((t : ℕ) × (t < s) × Gives B t e [] p)
  unfolding to_list
  operation-gives k is Gives.nothing = inl refl
  operation-gives k is (Gives.constructor k' row) = absurd (let z : ◌≡◌ {A = ℕ} 0 1 = cc in omega arith)
  operation-gives {p} k is (Gives.operation {t} lt k' GivesRow.none hits g) =
      let (same, none) = hits-rule is hits in
      inr (t, omega arith, rw (same, none) at g)

  -- what a node that applies it may have, its rule gives
  pub node-gives : {f : ℕ} {e : Expr} {p : Part} → B.tree f ≡ Tree.rule e → OperationGives B f [] p → (s : ℕ) × Gives B s e [] p
  node-gives is o =
      let (same, none) = hits-rule is o.hits in
      (o.size, rw (same, none) at o.gives)

  -- what its rule gives it gives
  pub gives-operation : {s f : ℕ} {e : Expr} {ρ : List Part} {p : Part} → B.is_constructor f ≡ false → B.tree f ≡ Tree.rule e → Scoped 0 e
      → Gives B s e [] p → Gives B (suc s) (Expr.apply f Exprs.no_exprs) ρ p
  unfolding to_list
  gives-operation {s} {e = e} k is closed g = Gives.operation {s = suc s} {r = 0} {t = s} {e = e} {ρ' = []} (omega arith) k GivesRow.none (rw is (Hits.rule closed)) g

  pub gives-node : {s f : ℕ} {e : Expr} {p : Part} → B.tree f ≡ Tree.rule e → Scoped 0 e → Gives B s e [] p → OperationGives B f [] p
  gives-node {s} {e = e} is closed g = record { expr = e; env = []; size = s; hits = rw is (Hits.rule closed); gives = g }
