-- What is promised of the book that is written of a listing, from bytes to bytes.
use Rattle.std.specs.Prelude.{false, ◌≡◌, List, ◌∷◌, ℕ, ◌+◌, ◌<◌, length, take}
use Rattle.reading.specs.Reading.{got}
use Rattle.reading.specs.Bytes.{two_bytes}
use Rattle.expressions.specs.Expressions.{Expr, Exprs}
use Rattle.book.specs.Admission.{read_book, read_question}
use Rattle.tagged.specs.Listing.{Broader, broader_in}
use Rattle.tagged.specs.Terms.{rules_for}
use Rattle.tagged.specs.Write.{passes, Outcome}
use Rattle.above.specs.Reached.{Reached}

-- a question that applies one symbol of the book: version byte, length, sort 0, code 1 and the symbol
abbrev pub asking : ℕ → List ℕ
asking f = 1 ∷ 0 ∷ 4 ∷ 0 ∷ 1 ∷ two_bytes f

-- The listing is one, its book is within the sizes of document 01, the bytes written are an admitted book with its rules, any
-- symbol can be asked for, and what is reached is what the listing says.
pub record Promised (listing : List ℕ) (o : Outcome) : Type 0 where
  pub broader : Broader
  pub line : ℕ
  pub says : broader_in listing ≡ got broader line
  pub within : passes broader ≡ false
  pub admitted : read_book (take o.result.bytes o.room) ≡ got (rules_for broader) o.result.bytes
  pub asked : (f : ℕ) → f < length broader + (length broader + length broader)
      → read_question (rules_for broader).symbols (asking f) ≡ got (Expr.apply f Exprs.no_exprs) 7
  pub reached : Reached broader
