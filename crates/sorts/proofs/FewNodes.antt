-- An admitted question has no more nodes than one expression may have, so no more choices.
use mathlib.Core.Path.{◌≡◌}
use mathlib.Core.List.{List, [], ◌∷◌, ◌++◌}
use Prim.Native.Nat.{ℕ, suc, ◌+◌, ◌≤◌}
use native.Mathlib.Omega.{arith}
use lib.ListN.{length}
use Rattle.limits.specs.Sizes.{most_expression_nodes}
use Rattle.reading.specs.Reading.{got}
use Rattle.symbols.specs.Symbols.{Symbols}
use Rattle.expressions.specs.Expressions.{Expr, Exprs}
use Rattle.book.specs.Admission.{read_question}
use Rattle.machine.specs.Made.{make, make_row, expr_nodes, row_nodes}
use Rattle.sorts.proofs.EachRead.{OfEachKind, question_reads}

-- each choice that an expression makes is one of its nodes
mutual
  unfolding make expr_nodes

  choices_le : (env : List ℕ) (e : Expr) (n k : ℕ) → (make e env n k).choices ≤ k + expr_nodes e
  choices_le env (Expr.var x) n k = omega arith
  choices_le env (Expr.apply f es) n k = omega (arith, choices_row_le env es (suc n) k)
  choices_le env (Expr.choice a b) n k =
      let l = make a env (suc n) (suc k) in
      omega (arith, choices_le env a (suc n) (suc k), choices_le env b (suc n + length l.nodes) l.choices)
  choices_le env Expr.fail n k = omega arith
  choices_le env (Expr.shared s a b) n k =
      let l = make a env n k in
      omega (arith, choices_le env a n k, choices_le (env ++ (l.arrow ∷ [])) b (n + length l.nodes) l.choices)

  choices_row_le : (env : List ℕ) (es : Exprs) (n k : ℕ) → (make_row es env n k).choices ≤ k + row_nodes es
  choices_row_le env Exprs.no_exprs n k = omega arith
  choices_row_le env (Exprs.more_exprs e es) n k =
      let a = make e env n k in
      omega (arith, choices_le env e n k, choices_row_le env es (n + length a.nodes) a.choices)

-- the nodes of what was read, and those that are left, are at most those that were left before
few-nodes : (S : Symbols) → OfEachKind S (λ vars s left x. expr_nodes x.what + x.left ≤ left) (λ vars ss left x. row_nodes x.what + x.left ≤ left)
unfolding expr_nodes
few-nodes S = record {
  var = λ vars s left x known sorted. omega arith;
  apply = λ vars s left f r known sorted few. omega arith;
  choice = λ vars s left a b l r. omega arith;
  fail = λ vars s left. omega arith;
  shared = λ vars s left t a b few l r. omega arith;
  none = λ vars left. omega arith;
  more = λ vars s left ss a r first others. omega arith;
}

-- an admitted question has at most 64 nodes
pub question-nodes : (S : Symbols) (bs : List ℕ) {q : Expr} {p : ℕ} → read_question S bs ≡ got q p → expr_nodes q ≤ most_expression_nodes
question-nodes S bs asked = let (s, l, few) = question_reads S bs (few-nodes S) asked in omega arith

-- so its first free choice number is at most 64
pub question-few : (S : Symbols) (bs : List ℕ) {q : Expr} {p : ℕ} → read_question S bs ≡ got q p → (make q [] 0 0).choices ≤ most_expression_nodes
question-few S bs {q} asked = omega (arith, choices_le [] q 0 0, question-nodes S bs asked)
