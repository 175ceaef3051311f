-- The tree part: bytes to trees, with the refusals 1, 4 and 5.
use Rattle.std.specs.Prelude.{Bool, true, false, List, [], ◌∷◌, ◌++◌, ℕ, zero, suc, ◌+◌, leb, ltb, eqb, length, get_or}
use Rattle.limits.specs.Sizes.{most_variables}
use Rattle.reading.specs.Reading.{Reading, got, refusal, ◌then◌, refuse◌at◌if◌else◌}
use Rattle.reading.specs.Bytes.{version_of, byte_at, length_at}
use Rattle.symbols.specs.Symbols.{Symbol, Symbols, constructors_of}
use Rattle.expressions.specs.ExpressionAt.{whole_expr_at}
use Rattle.book.specs.Trees.{Tree, Trees, exempt, rule, branch, no_trees, more_trees}

-- "a branch that would bind past 32": some constructor's arguments, after the variables already bound
unfoldable pub binds_past : ℕ → List (List ℕ) → Bool
binds_past bound [] = false
binds_past bound (sorts ∷ rest) = elim (ltb most_variables (bound + length sorts)) [ true ↦ true | false ↦ binds_past bound rest ]

unfoldable pub is_in : ℕ → List ℕ → Bool
is_in x [] = false
is_in x (y ∷ ys) = elim (eqb x y) [ true ↦ true | false ↦ is_in x ys ]

-- The tree of an operation of result sort `sort`, in an item that ends at e.
module _ (bs : List ℕ) (symbols : Symbols) (sort e : ℕ) where
  -- "one tree for each constructor of that variable's sort, in symbol order (none, if the sort has none)"
  unfoldable pub trees_with : (List ℕ → ℕ → Reading Tree) → List (List ℕ) → ℕ → Reading Trees
  trees_with tree [] p = got no_trees p
  trees_with tree (sorts ∷ rest) p =
      tree sorts p then λ t q.
      trees_with tree rest q then λ ts r.
      got (more_trees t ts) r

  -- The variable of a branch, whose byte stands at p. vars: the sorts of the variables bound on the path; done: those branched on.
  -- "A variable is branched on at most once on a path". "variable not there, variable branched on twice or a branch that would bind
  -- past 32 (place: .. for a branch the variable's)"
  unfoldable pub branched_at : List ℕ → List ℕ → ℕ → Reading ℕ
  branched_at vars done p =
      byte_at bs 0 e p then λ x q.
      refuse 4 at p if leb (length vars) x else λ _.
      refuse 4 at p if is_in x done else λ _.
      refuse 4 at p if binds_past (length vars) (constructors_of (get_or vars x 0) symbols) else λ _.
      got x q

  -- "In a branch, the constructor's arguments take the next free numbers on that path."
  unfoldable pub branch_at : (List ℕ → List ℕ → ℕ → Reading Tree) → List ℕ → List ℕ → ℕ → Reading Tree
  branch_at tree vars done p =
      branched_at vars done (p + 1) then λ x q.
      trees_with (λ sorts r. tree (vars ++ sorts) (x ∷ done) r) (constructors_of (get_or vars x 0) symbols) q then λ ts t.
      got (branch x ts) t

  -- by the code that stands at p; "a rule has its operation's result sort"; "unknown code (place: its first byte)"; "Version 2 books
  -- with tree code 0 are refused", with "4 at that code"
  unfoldable pub tree_code_at : (List ℕ → List ℕ → ℕ → Reading Tree) → ℕ → List ℕ → List ℕ → ℕ → Reading Tree
  tree_code_at tree zero vars done p =
      refuse 4 at p if eqb (version_of bs) 2 else λ _.
      got exempt (p + 1)
  tree_code_at tree (suc zero) vars done p =
      whole_expr_at bs 0 symbols e vars sort (p + 1) then λ x q.
      got (rule x) q
  tree_code_at tree (suc (suc zero)) vars done p = branch_at tree vars done p
  tree_code_at tree (suc (suc (suc c))) vars done p = refusal 4 p

  -- The first number bounds how many branches stand on a path: each takes another variable, and there are 32 at most.
  unfoldable pub tree_in : ℕ → List ℕ → List ℕ → ℕ → Reading Tree
  tree_in zero vars done p = refusal 4 p
  tree_in (suc depth) vars done p =
      byte_at bs 0 e p then λ code _.
      tree_code_at (tree_in depth) code vars done p

-- The tree of operation x, "opened by a two-byte length" at p, in a part that ends at e. "Arguments are variables 0 upward". "bytes
-- left over (place: the first)"
unfoldable pub item_at : List ℕ → Symbols → ℕ → Symbol → ℕ → Reading Tree
item_at bs symbols e x p =
    length_at bs 0 e p then λ item q.
    tree_in bs symbols x.sort item (suc most_variables) x.arguments [] q then λ t r.
    refuse 1 at r if ltb r item else λ _.
    got t r

-- "one tree per operation, in symbol order"; a constructor has no tree there, and exempt stands for it here. `rest` are the symbols
-- still to come.
unfoldable pub trees_of : List ℕ → Symbols → ℕ → Symbols → ℕ → Reading Trees
trees_of bs symbols e [] p = got no_trees p
trees_of bs symbols e (x ∷ rest) p = elim x.is_operation [
  | false ↦
      trees_of bs symbols e rest p then λ ts r.
      got (more_trees exempt ts) r
  | true ↦
      item_at bs symbols e x p then λ t q.
      trees_of bs symbols e rest q then λ ts r.
      got (more_trees t ts) r
]

-- The tree part, whose length stands at p. "bytes left over (place: the first)", in the part and behind it
unfoldable pub tree_part : List ℕ → Symbols → ℕ → Reading Trees
tree_part bs symbols p =
    length_at bs 0 (length bs) p then λ e q.
    trees_of bs symbols e symbols q then λ trees r.
    refuse 1 at r if ltb r e else λ _.
    refuse 1 at r if ltb r (length bs) else λ _.
    got trees r
