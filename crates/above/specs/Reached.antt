-- "Proved: for every heading, the values the first can reach are exactly its BT headings, and the second's are those one or more BT hops up."
use Rattle.std.specs.Prelude.{◌≡◌, ◌↔◌, ℕ, ◌<◌, length}
use Rattle.tagged.specs.Listing.{Broader}
use Rattle.tagged.specs.Terms.{broader_than, above_of, rules_for}
use Rattle.tagged.specs.Hops.{IsBroader, Above}
use Rattle.rewriting.specs.Rewriting.{Value, con, no_values}
use Rattle.meaning.specs.Demand3.{Reachable}

-- v is the term of some heading of which this holds
abbrev pub TermOf : (ℕ → Type 0) → Value → Type 0
TermOf P v = (b : ℕ) × P b × (v ≡ con b no_values)

pub record Reached (broader : Broader) : Type 0 where
  pub first : (x : ℕ) → x < length broader → (v : Value)
      → Reachable (rules_for broader) (broader_than (length broader) x) v ↔ TermOf (IsBroader broader x) v
  pub second : (x : ℕ) → x < length broader → (v : Value)
      → Reachable (rules_for broader) (above_of (length broader) x) v ↔ TermOf (Above broader x) v
