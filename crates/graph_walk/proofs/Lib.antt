pub mod Parting
pub mod Leading
pub mod Walking
pub mod WalkRows
pub mod Searching
pub mod Placing
