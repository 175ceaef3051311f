-- A listing is refused with 40, 41 or 42, before its book is looked at.
use mathlib.Core.Bool.{Bool, true, false}
use mathlib.Core.Path.{◌≡◌}
use mathlib.Core.List.{List, [], ◌∷◌, ◌++◌}
use Prim.Native.Nat.{ℕ, suc, ◌≤◌}
use native.Mathlib.Omega.{arith}
use Rattle.reading.specs.Reading.{Reading, got, refusal, ◌then◌, refuse◌at◌if◌else◌}
use Rattle.tagged.specs.Lines.{Name, Line, heading, broader, narrower, other}
use Rattle.tagged.specs.Listing.{Relation, Lists, lists_from, lists_of, mirrored_from, broader_in}

pub data Numbered {A : Type 0} : Reading A → Type 0 where
  read : {a : A} {p : ℕ} → Numbered (got a p)
  refused : {c p : ℕ} → 40 ≤ c → c ≤ 42 → Numbered (refusal c p)

pub number_is : {A : Type 0} {r : Reading A} {c p : ℕ} → Numbered r → r ≡ refusal c p → (40 ≤ c) × (c ≤ 42)
number_is read is = absurd (let z : ◌≡◌ {A = ℕ} 0 1 = cc in omega arith)
number_is {c} (refused {c = d} low high) is = let same : d ≡ c = cc in (omega arith, omega arith)

then-numbered : {A B : Type 0} {r : Reading A} {more : A → ℕ → Reading B} → Numbered r → ((a : A) (q : ℕ) → Numbered (more a q)) → Numbered (◌then◌ r more)
unfolding ◌then◌
then-numbered (read {a} {p}) f = f a p
then-numbered (refused low high) f = refused low high

unless_numbered : {A : Type 0} (c p : ℕ) (t : Bool) {more : Unit {0} → Reading A} → 40 ≤ c → c ≤ 42 → ((u : Unit {0}) → Numbered (more u)) → Numbered (refuse◌at◌if◌else◌ c p t more)
unfolding refuse◌at◌if◌else◌
unless_numbered c p true low high f = refused low high
unless_numbered c p false low high f = f tt

lists-numbered : (headings : List Name) (relations : List Relation) (n : ℕ) (lines : List Line) → Numbered (lists_from headings relations n lines)
unfolding lists_from
lists-numbered headings relations n [] = read
lists-numbered headings relations n (heading name ∷ rest) = unless_numbered _ _ _ (omega arith) (omega arith) λ _. lists-numbered (headings ++ (name ∷ [])) relations (suc n) rest
lists-numbered headings relations n (broader name ∷ rest) = unless_numbered _ _ _ (omega arith) (omega arith) λ _. lists-numbered headings _ (suc n) rest
lists-numbered headings relations n (narrower name ∷ rest) = unless_numbered _ _ _ (omega arith) (omega arith) λ _. lists-numbered headings _ (suc n) rest
lists-numbered headings relations n (other ∷ rest) = refused {c = 40} (omega arith) (omega arith)

mirrors-numbered : (l : Lists) (rest : List Relation) (n : ℕ) → Numbered (mirrored_from l rest n)
unfolding mirrored_from
mirrors-numbered l [] n = read
mirrors-numbered l (r ∷ rest) n =
    unless_numbered _ _ _ (omega arith) (omega arith) λ _. unless_numbered _ _ _ (omega arith) (omega arith) λ _. mirrors-numbered l rest n

pub numbered : (bs : List ℕ) → Numbered (broader_in bs)
unfolding broader_in lists_of
numbered bs =
    then-numbered (unless_numbered _ _ _ (omega arith) (omega arith) λ _. lists-numbered [] [] 1 _) λ l n.
    then-numbered (mirrors-numbered l l.relations n) λ l' m. read
