-- What a listing's two operations reach by rewriting, as `specs/Reached.antt` says: a question that applies an operation can be what that operation's
-- node may have, and what it can be it can reach.
use mathlib.Core.Bool.{false}
use mathlib.Core.Path.{◌≡◌, refl, sym, ◌∙◌}
use mathlib.Core.Logic.{◌⊎◌, inl, inr, ◌↔◌}
use mathlib.Core.List.{[], ◌∷◌}
use Prim.Native.Nat.{ℕ, zero, suc, ◌+◌}
use native.Mathlib.Omega.{arith}
use lib.ListN.{length}
use Rattle.expressions.specs.Expressions.{Expr, Exprs}
use Rattle.book.specs.Rules.{Rules, Book, book_of}
use Rattle.nodes.specs.Nodes.{Node, at}
use Rattle.machine.specs.Made.{make}
use Rattle.tagged.specs.Listing.{Broader}
use Rattle.tagged.specs.Terms.{rules_for}
use Rattle.tagged.specs.Hops.{Inside}
use Rattle.rewriting.specs.Rewriting.{Value}
use Rattle.sorts.proofs.HeapsFit.{Sorted}
use Rattle.meaning.specs.Demand3.{question, Reachable}
use Rattle.meaning.specs.Partial.{Part, bot}
use Rattle.meaning.specs.Readings.{Side, Agrees, CanBe, OperationGives, whole}
use Rattle.meaning.proofs.Order.{agrees-bot, agrees-operation}
use Rattle.meaning.proofs.Adequate.{none_decided}
use Rattle.meaning.proofs.Question.{question_adequacy}
use Rattle.meaning.proofs.Demand3.{lawful}
use Rattle.above.specs.Reached.{Reached}
use Rattle.above.proofs.Book.{first_operates, second_operates}
use Rattle.above.proofs.Fits.{question-sorted}
use Rattle.above.proofs.Reached.{value-some, first-sound, first-complete, second-sound, second-complete}

-- ---- a question that applies an operation to nothing

abbrev applied : ℕ → Expr
applied f = Expr.apply f Exprs.no_exprs

-- it has one node
one-node : (f : ℕ) → (question (applied f)).heap ≡ Node.apply f [] ∷ []
unfolding make
one-node f = refl

-- at the root the value, elsewhere nothing
root_only : Part → ℕ → Part
root_only p zero = p
root_only p (suc m) = bot

module _ (B : Book) (f : ℕ) (operates : B.is_constructor f ≡ false) (v : Value) where
  -- what it can be its node may have
  can_gives : CanBe B (question (applied f)).heap none_decided 0 v → OperationGives B f [] (whole v)
  unfolding make
  can_gives c = by ((agrees-operation B c.δ c.π {x = Node.apply f []} refl operates).0 (c.agrees 0))
    where
      by : (c.π 0 ≡ bot) ⊎ OperationGives B f [] (c.π 0) → OperationGives B f [] (whole v)
      by (inl z) = absurd (value-some v (sym c.is ∙ z))
      by (inr o) = rw c.is at o

  -- what its node may have it can be
  gives_can : OperationGives B f [] (whole v) → CanBe B (question (applied f)).heap none_decided 0 v
  unfolding make root_only
  gives_can o = record { δ = λ i. Side.left; π = root_only (whole v); keeps = λ i s q. absurd (let z : ◌≡◌ {A = ℕ} 0 1 = cc in omega arith); agrees = reads; is = refl }
    where
      reads : (m : ℕ) → Agrees B (λ i. Side.left) (root_only (whole v)) (at (question (applied f)).heap m) (root_only (whole v) m)
      reads zero = (agrees-operation B (λ i. Side.left) (root_only (whole v)) {x = Node.apply f []} refl operates).1 (inr o)
      reads (suc m) = agrees-bot B (λ i. Side.left) (root_only (whole v)) _

-- so the values that it reaches are those that its node may have
applied_reaches : (r : Rules) (f : ℕ) → (book_of r).is_constructor f ≡ false → Sorted r (question (applied f)).heap → (v : Value)
    → Reachable r (applied f) v ↔ OperationGives (book_of r) f [] (whole v)
unfolding make
applied_reaches r f operates sorted v =
    let adequate = question_adequacy (applied f) tt {v = v} (lawful r) sorted in
    (λ reaches. can_gives (book_of r) f operates v (adequate.1 reaches), λ gives. adequate.0 (gives_can (book_of r) f operates v gives))

-- ---- of a listing

-- THE TERMS OF A LISTING BOOK
pub reached : (broader : Broader) → Inside broader → Reached broader
reached broader inside = record {
  first = λ x h v.
      let (there, back) =
      applied_reaches (rules_for broader) (length broader + x) (first_operates broader x h) (question-sorted broader inside _ (omega arith)) v in
      (λ reaches. first-sound broader inside x h v (there reaches), λ is. back (first-complete broader inside x h v is));
  second = λ x h v.
      let (there, back) =
      applied_reaches (rules_for broader) (length broader + length broader + x) (second_operates broader x h) (question-sorted broader inside _ (omega arith)) v in
      (λ reaches. second-sound broader inside x h v (there reaches), λ is. back (second-complete broader inside x h v is));
}
