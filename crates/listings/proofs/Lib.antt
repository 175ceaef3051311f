pub mod PutWays
pub mod RuleWays
pub mod WriteWays
pub mod OneAnswer
