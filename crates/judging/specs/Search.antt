-- A search from a node: which nodes are seen, and which of them wait on a stack for their arrows to be looked at.
use Rattle.std.specs.Prelude.{Bool, true, false, List, ◌⊎◌, ◌≡◌, ℕ, zero, suc, ◌+◌, ◌<◌, ◌≤◌, length, get_or}
use Rattle.nodes.specs.Nodes.{Heap, at}
use Rattle.rewriting.specs.Paths.{Arrow}
use Rattle.accepted.specs.Accepted.{Path}

abbrev pub Seen : List Bool → ℕ → Type 0
Seen seen x = get_or seen x false ≡ true

-- how many of the first `used` are not seen
unfoldable pub missing : Bool → ℕ
missing true = 0
missing false = 1

unfoldable pub unseen : ℕ → List Bool → ℕ
unseen zero seen = 0
unseen (suc n) seen = missing (get_or seen n false) + unseen n seen

-- all nodes that y has arrows to are seen
pub record AllSeen (h : Heap) (seen : List Bool) (y : ℕ) : Type 0 where
  pub each : (x : ℕ) → Arrow x (at h y) → x < length h → Seen seen x

-- y waits on the stack
abbrev pub OnStack : List ℕ → ℕ → ℕ → Type 0
OnStack stack height y = (i : ℕ) × (i < height) × (get_or stack i 0 ≡ y)

-- what is seen is reached from n; what is seen and is neither pending nor on the stack has all its arrows seen
pub record Searching (h : Heap) (n : ℕ) (Pending : ℕ → Type 0) (seen : List Bool) (stack : List ℕ) (height : ℕ) : Type 0 where
  pub reached : (x : ℕ) → Seen seen x → (x < length h) × Path h n x
  pub stacked : (i : ℕ) → i < height → Seen seen (get_or stack i 0)
  pub done : (y : ℕ) → Seen seen y → Pending y ⊎ (OnStack stack height y ⊎ AllSeen h seen y)

-- there is room on the stack for all that are not seen
pub record Roomy (used : ℕ) (seen : List Bool) (stack : List ℕ) (height : ℕ) : Type 0 where
  pub long : used ≤ length seen
  pub high : used ≤ length stack
  pub count : height + unseen used seen ≤ used

-- the arrows of node `from` have been looked at
pub record Put (h : Heap) (from : ℕ) (seen : List Bool) (stack : List ℕ) (height : ℕ) (seen' : List Bool) (stack' : List ℕ) (height' : ℕ) : Type 0 where
  pub same_seen : length seen' ≡ length seen
  pub same_stack : length stack' ≡ length stack
  pub sum : height' + unseen (length h) seen' ≡ height + unseen (length h) seen
  pub more : (x : ℕ) → Seen seen x → Seen seen' x
  pub all : AllSeen h seen' from
  pub goes : (n : ℕ) → (from ≡ n) ⊎ Path h n from → Searching h n (λ y. y ≡ from) seen stack height → Searching h n (λ y. ⊥) seen' stack' height'
