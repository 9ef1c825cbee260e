pub mod Placed
pub mod Codes
pub mod Congruence
pub mod Merged
pub mod Mergers
pub mod Settled
