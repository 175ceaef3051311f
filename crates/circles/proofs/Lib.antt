pub mod SavingRows
pub mod RoundWays
pub mod MarkHops
pub mod MarkWays
pub mod SavingWays
pub mod OneAnswer
