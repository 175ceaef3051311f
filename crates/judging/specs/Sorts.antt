-- Which sorts the applies have that are met from each node, as the check's code keeps it.
use Rattle.std.specs.Prelude.{Bool, true, false, ◌||◌, not, List, [], ◌∷◌, ◌⊎◌, ◌≢◌, ◌≡◌, ℕ, zero, suc, ◌+◌, ◌<◌, ◌≤◌, leb, ltb, eqb, length, get_or}
use Rattle.symbols.specs.Symbols.{Symbols}
use Rattle.nodes.specs.Nodes.{Node, apply, choice, fail, forward, Heap, at}
use Rattle.sorts.specs.Sorts.{sort_of, arguments_of}
use Rattle.accepted.specs.Accepted.{Meets}
use Rattle.judging.specs.declared.said.Said.{Said}
use Rattle.judging.specs.declared.said.Said.TheVariants.{Nothing, One, Several}

-- what two of them say together
unfoldable pub joined : Said → Said → Said
joined Nothing b = b
joined (One s) Nothing = One s
joined (One s) (One t) = elim (eqb s t) [ true ↦ One s | false ↦ Several ]
joined (One s) Several = Several
joined Several b = Several

-- what is said of node n, from what is said of others
unfoldable pub met_by : Symbols → List Said → Said → Node → Said
met_by S met own (apply f xs) = elim (ltb f (length S)) [ true ↦ joined own (One (sort_of S f)) | false ↦ own ]
met_by S met own (choice i l r) = joined (joined own (get_or met l Nothing)) (get_or met r Nothing)
met_by S met own fail = own
met_by S met own (forward t) = joined own (get_or met t Nothing)

-- an apply of a known symbol of sort s is met from node n
pub record Met (S : Symbols) (h : Heap) (n s : ℕ) : Type 0 where
  pub node : ℕ
  pub symbol : ℕ
  pub arguments : List ℕ
  pub meets : Meets h n node
  pub is : at h node ≡ apply symbol arguments
  pub known : symbol < length S
  pub sorted : sort_of S symbol ≡ s

-- what is said is so
pub data Says (P : ℕ → Type 0) : Said → Type 0 where
  nothing : Says P Nothing
  one : {s : ℕ} → P s → Says P (One s)
  more : {s t : ℕ} → s ≢ t → P s → P t → Says P Several

-- sort s is one of those that are said
abbrev pub Within : ℕ → Said → Type 0
Within s v = (v ≡ One s) ⊎ (v ≡ Several)

-- the sorts met from each node, and no others
pub record AllMet (S : Symbols) (h : Heap) (met : List Said) : Type 0 where
  pub says : (n : ℕ) → Says (Met S h n) (get_or met n Nothing)
  pub all : (n s : ℕ) → Met S h n s → Within s (get_or met n Nothing)

-- how often it may still change
unfoldable pub left_of : Said → ℕ
left_of Nothing = 2
left_of (One s) = 1
left_of Several = 0

unfoldable pub all_left : ℕ → List Said → ℕ
all_left zero met = 0
all_left (suc n) met = left_of (get_or met n Nothing) + all_left n met

-- what is said anew of some nodes comes to
pub record MetMore (S : Symbols) (h : Heap) (before after : List Said) : Type 0 where
  pub long : length after ≡ length before
  pub says : (n : ℕ) → Says (Met S h n) (get_or after n Nothing)
  pub least : all_left (length h) after ≤ all_left (length h) before

-- what one pass comes to
pub record MetPassed (S : Symbols) (h : Heap) (before after : List Said) (changed : Bool) : Type 0 where
  pub long : length after ≡ length before
  pub says : (n : ℕ) → Says (Met S h n) (get_or after n Nothing)
  pub fewer : changed ≡ true → all_left (length h) after < all_left (length h) before
  pub same : changed ≡ false → after ≡ before
  pub closed : changed ≡ false → (n : ℕ) → n < length h → met_by S after (get_or after n Nothing) (at h n) ≡ get_or after n Nothing

-- ---- the tests of a node, by what is said

-- an apply of another sort than s is said to be met
unfoldable pub unfit : Said → ℕ → Bool
unfit Nothing s = false
unfit (One t) s = not (eqb t s)
unfit Several s = true

-- at some argument
unfoldable pub some_unfit : List Said → List ℕ → List ℕ → Bool
some_unfit met [] ss = false
some_unfit met (x ∷ xs) [] = false
some_unfit met (x ∷ xs) (s ∷ ss) = unfit (get_or met x Nothing) s || some_unfit met xs ss

-- what is wrong at a node itself
unfoldable pub wrong_by : Symbols → ℕ → List Said → Node → Bool
wrong_by S k met (apply f xs) = leb (length S) f || some_unfit met xs (arguments_of S f)
wrong_by S k met (choice i l r) = leb k i
wrong_by S k met fail = false
wrong_by S k met (forward m) = false
