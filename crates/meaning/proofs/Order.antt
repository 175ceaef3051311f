-- The order of partial values, and that all that readings are made of respects it: whoever knows more of the variables, or of the
-- nodes, can give at least as much.
use mathlib.Core.Bool.{true, false}
use mathlib.Core.Path.{◌≡◌, refl, ap, ap₂}
use mathlib.Core.Logic.{◌⊎◌, inl, inr, ◌↔◌}
use mathlib.Core.List.{List, [], ◌∷◌, ◌++◌, map}
use Prim.Native.Nat.{ℕ, zero, suc}
use native.Mathlib.Omega.{arith}
use native.Mathlib.Nat.{le_refl}
use lib.ListN.{length, get_or}
use Rattle.expressions.specs.Expressions.{Expr, Exprs}
use Rattle.book.specs.Trees.{Tree}
use Rattle.book.specs.Rules.{Book}
use Rattle.nodes.specs.Nodes.{Node, apply, choice, fail, forward}
use Rattle.rewriting.specs.Rewriting.{Value, Values, con, no_values, more_values}
use Rattle.meaning.specs.Partial.{Part, Parts, bot, no_parts, more_parts, to_list, of_list, ◌⊑◌, bot⊑, con⊑, ◌⊑*◌, none⊑, more⊑}
use Rattle.meaning.specs.Partial.{Hits, Gives, GivesRow}
use Rattle.meaning.specs.Readings.{Side, side_of, OperationGives, AgreesIn, Agrees, whole, wholes}

mutual
  -- each says no more than itself
  pub ⊑_refl : (p : Part) → p ⊑ p
  ⊑_refl bot = bot⊑
  ⊑_refl (Part.con c ps) = con⊑ (⊑*_refl ps)

  pub ⊑*_refl : (ps : Parts) → ps ⊑* ps
  ⊑*_refl no_parts = none⊑
  ⊑*_refl (more_parts p ps) = more⊑ (⊑_refl p) (⊑*_refl ps)

mutual
  -- who says no more than one who says no more, says no more
  pub ⊑_trans : {p q r : Part} → p ⊑ q → q ⊑ r → p ⊑ r
  ⊑_trans bot⊑ k = bot⊑
  ⊑_trans (con⊑ h) (con⊑ k) = con⊑ (⊑*_trans h k)

  pub ⊑*_trans : {ps qs rs : Parts} → ps ⊑* qs → qs ⊑* rs → ps ⊑* rs
  ⊑*_trans none⊑ k = k
  ⊑*_trans (more⊑ h hs) (more⊑ k ks) = more⊑ (⊑_trans h k) (⊑*_trans hs ks)

-- the same say no more
pub ⊑_of_eq : {p q : Part} → p ≡ q → p ⊑ q
⊑_of_eq {p} {q} e = rw e (⊑_refl q)

-- only nothing says no more than nothing
pub ⊑_bot : {p : Part} → p ⊑ bot → p ≡ bot
⊑_bot bot⊑ = refl

-- what says at least that it is a c, is one
pub ⊑_con : {c : ℕ} {ps : Parts} {q : Part} → Part.con c ps ⊑ q → (qs : Parts) × (q ≡ Part.con c qs) × ps ⊑* qs
⊑_con (con⊑ {qs = rs} h) = (rs, refl, h)

-- two constructors, of which one says no more, are the same
pub con⊑-same : {c d : ℕ} {ps qs : Parts} → Part.con c ps ⊑ Part.con d qs → (c ≡ d) × ps ⊑* qs
con⊑-same (con⊑ h) = (refl, h)

-- a constructor says more than nothing
pub con≢bot : {c : ℕ} {ps : Parts} → Part.con c ps ⊑ bot → ⊥
con≢bot h = let e = ⊑_bot h in let z : ◌≡◌ {A = ℕ} 0 1 = cc in omega arith

-- nothing is above a whole value
mutual
  unfolding whole

  -- so who says at least a whole value says it
  pub ⊑_whole : (v : Value) {p : Part} → whole v ⊑ p → p ≡ whole v
  ⊑_whole (con c vs) (con⊑ h) = ap (Part.con c) (⊑*_wholes vs h)

  pub ⊑*_wholes : (vs : Values) {ps : Parts} → wholes vs ⊑* ps → ps ≡ wholes vs
  ⊑*_wholes no_values none⊑ = refl
  ⊑*_wholes (more_values v vs) (more⊑ h hs) = ap₂ more_parts (⊑_whole v h) (⊑*_wholes vs hs)

-- the same order of lists, element by element
infix 40 ◌⊑ˡ◌
infixr 67 ◌∷⊑◌
pub data ◌⊑ˡ◌ : List Part → List Part → Type 0 where
  []⊑ : [] ⊑ˡ []
  ◌∷⊑◌ : {p q : Part} {ps qs : List Part} → p ⊑ q → ps ⊑ˡ qs → p ∷ ps ⊑ˡ q ∷ qs

-- and of what stands for the nodes
infix 40 ◌⊑ᶠ◌
abbrev pub ◌⊑ᶠ◌ : (ℕ → Part) → (ℕ → Part) → Type 0
π ⊑ᶠ σ = (n : ℕ) → π n ⊑ σ n

-- lists: each says no more than itself
pub ⊑ˡ_refl : (ps : List Part) → ps ⊑ˡ ps
⊑ˡ_refl [] = []⊑
⊑ˡ_refl (p ∷ ps) = ⊑_refl p ∷⊑ ⊑ˡ_refl ps

-- and through a third
pub ⊑ˡ_trans : {ps qs rs : List Part} → ps ⊑ˡ qs → qs ⊑ˡ rs → ps ⊑ˡ rs
⊑ˡ_trans []⊑ k = k
⊑ˡ_trans (h ∷⊑ hs) (k ∷⊑ ks) = ⊑_trans h k ∷⊑ ⊑ˡ_trans hs ks

-- they are equally long
pub ⊑ˡ_length : {ps qs : List Part} → ps ⊑ˡ qs → length ps ≡ length qs
⊑ˡ_length []⊑ = refl
⊑ˡ_length (h ∷⊑ hs) = ap suc (⊑ˡ_length hs)

-- and so ordered at each place
pub get_or_mono : {ps qs : List Part} → ps ⊑ˡ qs → (x : ℕ) → get_or ps x bot ⊑ get_or qs x bot
get_or_mono []⊑ x = bot⊑
get_or_mono (h ∷⊑ hs) zero = h
get_or_mono (h ∷⊑ hs) (suc x) = get_or_mono hs x

-- what a variable gives, its node has
pub variable : (env : List ℕ) {ρ : List Part} (x : ℕ) {p : Part} → p ⊑ get_or ρ x bot → (π : ℕ → Part) → ρ ⊑ˡ map π env → p ⊑ π (get_or env x 0)
variable env x le π more = ⊑_trans le (⊑_trans (get_or_mono more x) (look env x))
  where
    -- a variable that is not there gives nothing
    look : (ys : List ℕ) (y : ℕ) → get_or (map π ys) y bot ⊑ π (get_or ys y 0)
    look [] y = bot⊑
    look (a ∷ ys) zero = ⊑_refl (π a)
    look (a ∷ ys) (suc y) = look ys y

-- joined, they are
pub append_mono : {ps qs rs ss : List Part} → ps ⊑ˡ qs → rs ⊑ˡ ss → ps ++ rs ⊑ˡ qs ++ ss
append_mono []⊑ k = k
append_mono (h ∷⊑ hs) k = h ∷⊑ append_mono hs k

-- and so are the values of two functions so ordered
pub map_mono : {π σ : ℕ → Part} → π ⊑ᶠ σ → (xs : List ℕ) → map π xs ⊑ˡ map σ xs
map_mono h [] = []⊑
map_mono h (x ∷ xs) = h x ∷⊑ map_mono h xs

-- rows of parts as lists, and back, keep the order
pub to_list_mono : {ps qs : Parts} → ps ⊑* qs → to_list ps ⊑ˡ to_list qs
unfolding to_list
to_list_mono none⊑ = []⊑
to_list_mono (more⊑ h hs) = h ∷⊑ to_list_mono hs

pub of_list_mono : {ps qs : List Part} → ps ⊑ˡ qs → of_list ps ⊑* of_list qs
unfolding of_list
of_list_mono []⊑ = none⊑
of_list_mono (h ∷⊑ hs) = more⊑ h (of_list_mono hs)

-- there and back
pub to_list_of_list : (ps : List Part) → to_list (of_list ps) ≡ ps
unfolding to_list of_list
to_list_of_list [] = refl
to_list_of_list (p ∷ ps) = ap (◌∷◌ p) (to_list_of_list ps)

-- with more known of the variables the path through a tree ends at the same rule, with more known of that rule's variables
pub hits_mono : {B : Book} {t : Tree} {ρ σ : List Part} {e : Expr} {ρ' : List Part} → ρ ⊑ˡ σ → Hits B t ρ e ρ'
    → (σ' : List Part) × Hits B t σ e σ' × ρ' ⊑ˡ σ'
hits_mono {σ} le (Hits.rule s) = (σ, Hits.rule (rw (⊑ˡ_length le) at s), le)
hits_mono {B} {σ} le (Hits.branch {x = x} e c hits) =
    let (qs, e', more) = ⊑_con (rw e at (get_or_mono le x)) in
    let (σ', hits', le') = hits_mono (append_mono le (to_list_mono more)) hits in
    (σ', Hits.branch e' c hits', le')

mutual
  -- with more known of the variables an expression gives as much, and less, by a derivation no larger
  pub gives_mono : {B : Book} {s : ℕ} {e : Expr} {ρ σ : List Part} {p q : Part} → Gives B s e ρ p → ρ ⊑ˡ σ → q ⊑ p → Gives B s e σ q
  gives_mono Gives.nothing le bot⊑ = Gives.nothing
  gives_mono (Gives.var {x = x} h) le k = Gives.var (⊑_trans k (⊑_trans h (get_or_mono le x)))
  gives_mono (Gives.constructor c row) le bot⊑ = Gives.nothing
  gives_mono (Gives.constructor c row) le (con⊑ k) = Gives.constructor c (gives_row_mono row le k)
  gives_mono (Gives.operation {ps = ps} {ρ' = ρ'} lt c row hits g) le k =
      Gives.operation lt c (gives_row_mono row le (⊑*_refl ps)) hits (gives_mono g (⊑ˡ_refl ρ') k)
  gives_mono (Gives.left lt g) le k = Gives.left lt (gives_mono g le k)
  gives_mono (Gives.right lt g) le k = Gives.right lt (gives_mono g le k)
  gives_mono (Gives.shared {q = r} few g b) le k = Gives.shared few (gives_mono g le (⊑_refl r)) (gives_mono b (append_mono le (⊑ˡ_refl (r ∷ []))) k)

  -- so does a row of them
  gives_row_mono : {B : Book} {s : ℕ} {es : Exprs} {ρ σ : List Part} {ps qs : Parts} → GivesRow B s es ρ ps → ρ ⊑ˡ σ → qs ⊑* ps → GivesRow B s es σ qs
  gives_row_mono GivesRow.none le none⊑ = GivesRow.none
  gives_row_mono (GivesRow.more few g gs) le (more⊑ k ks) = GivesRow.more few (gives_mono g le k) (gives_row_mono gs le ks)

-- so does an operation
pub operation_gives_mono : {B : Book} {f : ℕ} {ρ σ : List Part} {p q : Part} → ρ ⊑ˡ σ → q ⊑ p → OperationGives B f ρ p → OperationGives B f σ q
operation_gives_mono le k o =
    let (σ', hits', le') = hits_mono le o.hits in
    record { expr = o.expr; env = σ'; size = o.size; hits = hits'; gives = gives_mono o.gives le' k }

-- what may stand at an application may still, by a derivation no larger, when more is known of its arguments, and so may less
agrees_in_apply : {B : Book} {δ δ' : ℕ → Side} {π σ : ℕ → Part} {s f : ℕ} {xs ys : List ℕ} {p q : Part} → map π xs ⊑ˡ map σ ys → q ⊑ p
    → AgreesIn B δ π s (apply f xs) p → AgreesIn B δ' σ s (apply f ys) q
unfolding operation_gives_mono
agrees_in_apply le k AgreesIn.idle = rw (⊑_bot k) AgreesIn.idle
agrees_in_apply le k (AgreesIn.constructor c h) = AgreesIn.constructor c (⊑_trans k (⊑_trans h (con⊑ (of_list_mono le))))
agrees_in_apply le k (AgreesIn.operation c o lt) = AgreesIn.operation c (operation_gives_mono le k o) lt

-- the same at any node, when more is known of the other nodes; sides may be changed where no choice has their number
pub agrees_in_mono : {B : Book} {δ δ' : ℕ → Side} {π σ : ℕ → Part} {s : ℕ} {x : Node} {p q : Part} → ((i l r : ℕ) → x ≡ choice i l r → δ i ≡ δ' i)
    → π ⊑ᶠ σ → q ⊑ p → AgreesIn B δ π s x p → AgreesIn B δ' σ s x q
agrees_in_mono {x = apply f xs} same le k a = agrees_in_apply (map_mono le xs) k a
agrees_in_mono {x = choice i l r} same le k AgreesIn.idle = rw (⊑_bot k) AgreesIn.idle
agrees_in_mono {δ' = δ'} {x = choice i l r} same le k (AgreesIn.choice z h) =
    AgreesIn.choice z (⊑_trans k (⊑_trans (rw (same i l r refl) at h) (le (side_of (δ' i) l r))))
agrees_in_mono {x = fail} same le k AgreesIn.idle = rw (⊑_bot k) AgreesIn.idle
agrees_in_mono {x = forward m} same le k AgreesIn.idle = rw (⊑_bot k) AgreesIn.idle
agrees_in_mono {x = forward m} same le k (AgreesIn.forward h) = AgreesIn.forward (⊑_trans k (⊑_trans h (le m)))

-- so, in whichever size: more known of the other nodes
pub agrees_mono : (B : Book) (δ : ℕ → Side) {π σ : ℕ → Part} (x : Node) {p q : Part} → π ⊑ᶠ σ → q ⊑ p → Agrees B δ π x p → Agrees B δ σ x q
agrees_mono B δ x le k (s, a) = (s, agrees_in_mono (λ i l r e. refl) le k a)

-- other sides
pub agrees-sides : (B : Book) (δ δ' : ℕ → Side) (π : ℕ → Part) (x : Node) (p : Part) → ((i l r : ℕ) → x ≡ choice i l r → δ i ≡ δ' i)
    → Agrees B δ π x p → Agrees B δ' π x p
agrees-sides B δ δ' π x p same (s, a) = (s, agrees_in_mono same (λ n. ⊑_refl (π n)) (⊑_refl p) a)

-- the same symbol over arguments of which more is known
pub agrees-apply : (B : Book) (δ : ℕ → Side) (π σ : ℕ → Part) (f : ℕ) (xs ys : List ℕ) {p q : Part} → map π xs ⊑ˡ map σ ys → q ⊑ p
    → Agrees B δ π (apply f xs) p → Agrees B δ σ (apply f ys) q
agrees-apply B δ π σ f xs ys le k (s, a) = (s, agrees_in_apply le k a)

-- nothing may stand everywhere
pub agrees-bot : (B : Book) (δ : ℕ → Side) (π : ℕ → Part) (x : Node) → Agrees B δ π x bot
agrees-bot B δ π x = (0, AgreesIn.idle)

-- what agreement says at each kind of node
module _ (B : Book) (δ : ℕ → Side) (π : ℕ → Part) where
  -- a constructor
  pub agrees-constructor : {x : Node} {c : ℕ} {xs : List ℕ} {p : Part} → x ≡ apply c xs → B.is_constructor c ≡ true
      → Agrees B δ π x p ↔ p ⊑ Part.con c (of_list (map π xs))
  agrees-constructor {c = c} {xs} e k = rw e (says, λ h. (0, AgreesIn.constructor k h))
    where
      says : {p : Part} → Agrees B δ π (apply c xs) p → p ⊑ Part.con c (of_list (map π xs))
      says (s, AgreesIn.idle) = bot⊑
      says (s, AgreesIn.constructor k' h) = h
      says (s, AgreesIn.operation k' o lt) = absurd (let z : ◌≡◌ {A = ℕ} 0 1 = cc in omega arith)

  -- an operation
  pub agrees-operation : {x : Node} {f : ℕ} {xs : List ℕ} {p : Part} → x ≡ apply f xs → B.is_constructor f ≡ false
      → Agrees B δ π x p ↔ ((p ≡ bot) ⊎ OperationGives B f (map π xs) p)
  agrees-operation {f = f} {xs} e k = rw e (says, fits)
    where
      says : {p : Part} → Agrees B δ π (apply f xs) p → (p ≡ bot) ⊎ OperationGives B f (map π xs) p
      says (s, AgreesIn.idle) = inl refl
      says (s, AgreesIn.constructor k' h) = absurd (let z : ◌≡◌ {A = ℕ} 0 1 = cc in omega arith)
      says (s, AgreesIn.operation k' o lt) = inr o

      fits : {p : Part} → (p ≡ bot) ⊎ OperationGives B f (map π xs) p → Agrees B δ π (apply f xs) p
      fits (inl z) = rw z (agrees-bot B δ π (apply f xs))
      fits (inr o) = (suc o.size, AgreesIn.operation k o (le_refl _))

  -- a choice
  pub agrees-choice : {x : Node} {i l r : ℕ} {p : Part} → x ≡ choice i l r → Agrees B δ π x p ↔ p ⊑ π (side_of (δ i) l r)
  agrees-choice {i = i} {l} {r} e = rw e (says, λ h. (1, AgreesIn.choice (le_refl 1) h))
    where
      says : {p : Part} → Agrees B δ π (choice i l r) p → p ⊑ π (side_of (δ i) l r)
      says (s, AgreesIn.idle) = bot⊑
      says (s, AgreesIn.choice z h) = h

  -- a fail
  pub agrees-fail : {x : Node} {p : Part} → x ≡ fail → Agrees B δ π x p ↔ (p ≡ bot)
  agrees-fail e = rw e (says, λ z. rw z (agrees-bot B δ π fail))
    where
      says : {p : Part} → Agrees B δ π fail p → p ≡ bot
      says (s, AgreesIn.idle) = refl

  -- a forward
  pub agrees-forward : {x : Node} {m : ℕ} {p : Part} → x ≡ forward m → Agrees B δ π x p ↔ p ⊑ π m
  agrees-forward {m = m} e = rw e (says, λ h. (0, AgreesIn.forward h))
    where
      says : {p : Part} → Agrees B δ π (forward m) p → p ⊑ π m
      says (s, AgreesIn.idle) = bot⊑
      says (s, AgreesIn.forward h) = h
