pub mod Calls
pub mod Graph
pub mod Walk
pub mod Addresses
pub mod Reached
pub mod Firsts
pub mod Queue
pub mod Sample
