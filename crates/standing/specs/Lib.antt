pub mod ExpressionIn
pub mod Laid
pub mod Within
pub mod Stands
pub mod Held
pub mod Shapes
pub mod Ready
