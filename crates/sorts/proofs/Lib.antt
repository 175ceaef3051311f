pub mod EachRead
pub mod ReadingFits
pub mod Steering
pub mod HeapsFit
pub mod FewNodes
