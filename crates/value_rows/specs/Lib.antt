pub mod Sample
pub mod Kept
pub mod Numbers
pub mod Expected
