-- The body of a shared part, behind what the code keeps of its first.
use Rattle.std.specs.Prelude.{ℕ}
use Rattle.reading.specs.Reading.{Reading, ◌then◌}
use Rattle.reading.specs.Answer.{keeping}
use Rattle.expressions.specs.ExpressionAt.{ExprReader, left_of}

-- Of the first and of the body the code keeps what is left of the nodes; a refused first stays refused.
unfoldable pub body_with : ExprReader → ℕ → Reading ℕ → Reading ℕ
body_with expr sort first =
    first then λ left p.
    keeping left_of (expr sort left p)
