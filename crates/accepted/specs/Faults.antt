-- What is wrong at a node or an entry of a state that is to be gone on from, by tests (request L12). Each is said of one node or entry, so which is the
-- first bad one does not hang on the order of the tests.
use Rattle.std.specs.Prelude.{Bool, false, ◌&&◌, ◌||◌, not, List, [], ◌∷◌, ℕ, zero, suc, ◌+◌, ◌*◌, leb, ltb, eqb, length}
use Rattle.limits.specs.Sizes.{most_choices}
use Rattle.limits.specs.declared.Entry.{Entry as LentEntry}
use Rattle.limits.specs.Decisions.{is_set}
use Rattle.symbols.specs.Symbols.{Symbols}
use Rattle.nodes.specs.Nodes.{Node, apply, choice, fail, forward, Heap, at}
use Rattle.nodes.specs.Numbers.{kind_in}
use Rattle.sorts.specs.Sorts.{sort_of, arguments_of}

-- some of these numbers is bad; some of those from i on, of which there are so many
unfoldable pub some_of : (ℕ → Bool) → List ℕ → Bool
some_of bad [] = false
some_of bad (x ∷ xs) = bad x || some_of bad xs

unfoldable pub some_from : (ℕ → Bool) → ℕ → ℕ → Bool
some_from bad i zero = false
some_from bad i (suc left) = bad i || some_from bad (suc i) left

-- ---- a node

-- the arrows of a node
unfoldable pub arrows_of : Node → List ℕ
arrows_of (apply f xs) = xs
arrows_of (choice i l r) = l ∷ r ∷ []
arrows_of fail = []
arrows_of (forward m) = m ∷ []

-- a path of one arrow or more leads from node n to node m; the first number bounds how many. As many as there are nodes are enough.
unfoldable pub reaches_in : ℕ → Heap → ℕ → ℕ → Bool
reaches_in zero h n m = false
reaches_in (suc bound) h n m = some_of (λ x. eqb x m || reaches_in bound h x m) (arrows_of (at h n))

-- "no path returns to its start"
unfoldable pub returns : Heap → ℕ → Bool
returns h n = reaches_in (length h) h n n

-- an apply of another sort than s is met from node n through forwards and choices; the first number bounds how many nodes are met
unfoldable pub misfit_in : ℕ → Symbols → Heap → ℕ → ℕ → Bool
misfit_in zero S h n s = false
misfit_in (suc bound) S h n s = elim (at h n) [
  | apply f xs ↦ ltb f (length S) && not (eqb (sort_of S f) s)
  | choice i l r ↦ misfit_in bound S h l s || misfit_in bound S h r s
  | fail ↦ false
  | forward m ↦ misfit_in bound S h m s
]

unfoldable pub misfit : Symbols → Heap → ℕ → ℕ → Bool
misfit S h n s = misfit_in (length h) S h n s

-- "arguments fit their sorts": some argument does not
unfoldable pub some_misfit : Symbols → Heap → List ℕ → List ℕ → Bool
some_misfit S h [] ss = false
some_misfit S h (x ∷ xs) [] = false
some_misfit S h (x ∷ xs) (s ∷ ss) = misfit S h x s || some_misfit S h xs ss

-- what is wrong at a node itself: "symbols are known", "choice numbers lie below the count", "arguments fit their sorts"
unfoldable pub bad_at : Symbols → ℕ → Heap → Node → Bool
bad_at S k h (apply f xs) = leb (length S) f || some_misfit S h xs (arguments_of S f)
bad_at S k h (choice i l r) = leb k i
bad_at S k h fail = false
bad_at S k h (forward m) = false

-- node n: "kinds are known", "all arrows point into used nodes", "no path returns to its start", and the above
unfoldable pub bad_node : Symbols → ℕ → List ℕ → Heap → ℕ → Bool
bad_node S k m h n = ltb 3 (kind_in m n) || bad_at S k h (at h n) || some_of (leb (length h)) (arrows_of (at h n)) || returns h n

-- ---- an entry

-- "decisions on choices not yet made are open"; and no choice is decided left and right at once
unfoldable pub bad_side : ℕ → List ℕ → ℕ → Bool
bad_side k words i = (is_set words (2 * i) && is_set words (2 * i + 1)) || leb k i && (is_set words (2 * i) || is_set words (2 * i + 1))

-- "root nodes exist"
unfoldable pub bad_entry : ℕ → ℕ → LentEntry → Bool
bad_entry k used x = leb used x.root || some_from (bad_side k x.words) 0 most_choices
