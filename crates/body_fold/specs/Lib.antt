pub mod Fold
pub mod Putting
pub mod Folders
pub mod Blocks
pub mod Links
pub mod Settings
pub mod Claims
pub mod Evaluation
