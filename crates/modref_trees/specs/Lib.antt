pub mod Covers
pub mod Claims
