pub mod Names
pub mod Lowered
pub mod Meaning
