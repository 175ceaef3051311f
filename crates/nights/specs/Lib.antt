pub mod Costs
pub mod Nights
