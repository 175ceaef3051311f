pub mod OtherAnswers
pub mod Joins
pub mod CallsAnswer
pub mod NotOfARun
pub mod WordsBack
pub mod CasesHold
pub mod Shortened
