pub mod Sets
pub mod SetLemmas
pub mod Parts
pub mod PartLemmas
pub mod Finite
pub mod FiniteLemmas
