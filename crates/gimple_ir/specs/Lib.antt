pub mod Size
pub mod Counts
pub mod Names
pub mod Spellable
