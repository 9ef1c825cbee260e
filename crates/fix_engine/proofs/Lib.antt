pub mod Chains
pub mod MarkTrees
pub mod Pending
pub mod Raising
pub mod Rising
pub mod Rounds
pub mod Visits
pub mod Work
pub mod Worklist
mod RowsSteps
