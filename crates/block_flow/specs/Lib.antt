pub mod Branches
pub mod Steps
pub mod System
pub mod Laws
pub mod Runs
pub mod Unwritten
pub mod Halves
pub mod HalvesLaws
