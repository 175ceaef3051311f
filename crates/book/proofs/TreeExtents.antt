-- A tree that was read takes the bytes that it takes, within its item.
use mathlib.Core.List.{List, [], ◌∷◌, ◌++◌}
use mathlib.Core.Path.{◌≡◌, refl}
use Prim.Native.Nat.{ℕ, zero, suc, ◌+◌, ◌≤◌, ◌<◌}
use native.Mathlib.Omega.{arith}
use lib.ListN.{get_or}
use Rattle.limits.specs.Sizes.{most_variables}
use Rattle.reading.specs.Reading.{Reading}
use Rattle.reading.proofs.Good.{Good, good, refused, then-good, unless, byte_good, length-good}
use Rattle.symbols.specs.Symbols.{Symbol, Symbols, constructors_of}
use Rattle.expressions.specs.Expressions.{expr_bytes}
use Rattle.expressions.specs.ExpressionAt.{whole_expr_at}
use Rattle.expressions.proofs.Extents.{whole_extent}
use Rattle.book.specs.Trees.{Tree, Trees}
use Rattle.book.specs.TreeAt.{trees_with, branched_at, branch_at, tree_code_at, tree_in, item_at}
use Rattle.book.specs.Index.{tree_bytes, trees_bytes}

-- what was read from p on takes so many bytes, up to e at most
pub record TreeExtent {A : Type 0} (bytes : A → ℕ) (e p : ℕ) (t : A) (q : ℕ) : Type 0 where
  pub size : q ≡ p + bytes t
  pub within : q ≤ e

module _ (bs : List ℕ) (S : Symbols) (sort e : ℕ) where
  -- whatever the reader reads has its extent
  abbrev TreeExtents : (List ℕ → List ℕ → ℕ → Reading Tree) → Type 0
  TreeExtents tree = (vars done : List ℕ) (p : ℕ) → Good (TreeExtent tree_bytes e p) (tree vars done p)

  pub row_extent : (tree : List ℕ → ℕ → Reading Tree) → ((sorts : List ℕ) (p : ℕ) → Good (TreeExtent tree_bytes e p) (tree sorts p))
      → (rows : List (List ℕ)) (p : ℕ) → p ≤ e → Good (TreeExtent trees_bytes e p) (trees_with bs S sort e tree rows p)
  unfolding trees_with trees_bytes
  row_extent tree reads [] p h = good {a = Trees.no_trees} {p = p} (record { size = omega arith; within = h })
  row_extent tree reads (sorts ∷ rows) p h =
      then-good (reads sorts p) λ t q first.
      then-good (row_extent tree reads rows q first.within) λ ts r more.
      good (record { size = omega (arith, first.size, more.size); within = more.within })

  -- the variable of a branch is one byte
  pub branched_extent : (vars done : List ℕ) (p : ℕ) → Good (λ x q. (q ≡ p + 1) × (q ≤ e)) (branched_at bs S sort e vars done p)
  unfolding branched_at
  branched_extent vars done p =
      then-good (byte_good bs 0 e p) λ x q is. unless _ _ _ λ _ _. unless _ _ _ λ _ _. unless _ _ _ λ _ _. good (is.1, is.2)

  code_extent : (tree : List ℕ → List ℕ → ℕ → Reading Tree) → TreeExtents tree → (c : ℕ) (vars done : List ℕ) (p : ℕ) → p < e
      → Good (TreeExtent tree_bytes e p) (tree_code_at bs S sort e tree c vars done p)
  unfolding tree_code_at branch_at whole_expr_at tree_bytes
  code_extent tree reads zero vars done p h = unless _ _ _ λ _ _. good {a = Tree.exempt} {p = p + 1} (record { size = refl; within = omega arith })
  code_extent tree reads (suc zero) vars done p h =
      then-good {P = λ x q. (q ≡ p + 1 + expr_bytes x) × (q ≤ e)}
      (then-good (whole_extent bs 0 S e vars sort (p + 1)) λ x q is. good (is.size, is.within)) λ x q is.
      good (record { size = omega (arith, is.0); within = is.1 })
  code_extent tree reads (suc (suc zero)) vars done p h =
      then-good (branched_extent vars done (p + 1)) λ x q is.
      then-good (row_extent _ (λ sorts r. reads (vars ++ sorts) (x ∷ done) r) (constructors_of (get_or vars x 0) S) q is.1) λ ts r row.
      good (record { size = omega (arith, is.0, row.size); within = row.within })
  code_extent tree reads (suc (suc (suc c))) vars done p h = refused

  pub tree_extent : (depth : ℕ) → TreeExtents (tree_in bs S sort e depth)
  unfolding tree_in
  tree_extent zero vars done p = refused
  tree_extent (suc depth) vars done p =
      then-good (byte_good bs 0 e p) λ c q is. code_extent (tree_in bs S sort e depth) (tree_extent depth) c vars done p (omega (arith, is.1, is.2))

-- an operation's tree stands behind its two-byte length
pub item_extent : (bs : List ℕ) (S : Symbols) (e : ℕ) (x : Symbol) (p : ℕ) → Good (TreeExtent tree_bytes e (p + 2)) (item_at bs S e x p)
unfolding item_at
item_extent bs S e x p =
    then-good (length-good bs 0 e p) λ item q is.
    then-good (tree_extent bs S x.sort item (suc most_variables) x.arguments [] q) λ t r tree. unless _ _ _ λ _ _.
    good (record { size = omega (arith, is.0, tree.size); within = omega (arith, is.2, tree.within) })
