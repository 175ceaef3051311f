-- Expressions: "an expression holds a row of arguments, each an expression again".
use Rattle.std.specs.Prelude.{ℕ, ◌+◌}

-- "0 variable, one byte; 1 apply, a two-byte symbol, then arguments; 2 choice, two expressions; 3 fail"; in edition 2 also "4: a sort
-- byte, an expression of that sort, then the body, in which the first takes the next free variable number, there only"
mutual
  pub data Expr : Type 0 where
    var : ℕ → Expr
    apply : ℕ → Exprs → Expr
    choice : Expr → Expr → Expr
    fail : Expr
    shared : ℕ → Expr → Expr → Expr

  pub data Exprs : Type 0 where
    no_exprs : Exprs
    more_exprs : Expr → Exprs → Exprs

-- how many bytes an expression takes
unfoldable mutual
  pub expr_bytes : Expr → ℕ
  expr_bytes (Expr.var x) = 2
  expr_bytes (Expr.apply f es) = 3 + row_bytes es
  expr_bytes (Expr.choice a b) = 1 + expr_bytes a + expr_bytes b
  expr_bytes Expr.fail = 1
  expr_bytes (Expr.shared s a b) = 2 + expr_bytes a + expr_bytes b

  pub row_bytes : Exprs → ℕ
  row_bytes Exprs.no_exprs = 0
  row_bytes (Exprs.more_exprs e es) = expr_bytes e + row_bytes es
