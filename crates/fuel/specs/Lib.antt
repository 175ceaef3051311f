pub mod MoreFuel
pub mod NobodyStarves
pub mod OtherMemory
