pub mod Expressions
pub mod ExpressionAt
pub mod Whose
pub mod Codes
pub mod Bodies
pub mod Items
