pub mod PartWays
pub mod CountWays
pub mod Chains
