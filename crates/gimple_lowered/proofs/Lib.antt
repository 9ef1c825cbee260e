pub mod Naming
pub mod Meanings
pub mod WrapLemmas
