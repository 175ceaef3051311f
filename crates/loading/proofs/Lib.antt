pub mod QuestionsRead
pub mod RowsWeighed
pub mod NodesLaid
pub mod RowsLoaded
