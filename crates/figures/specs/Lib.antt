pub mod AnswerBook
pub mod Figures
pub mod Counts
pub mod InCode
