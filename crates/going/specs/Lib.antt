pub mod Joined
pub mod AllCalls
pub mod Cases
