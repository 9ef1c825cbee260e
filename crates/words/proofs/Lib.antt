pub mod RunLaws
pub mod Gathering
pub mod Bounds
pub mod Twins
