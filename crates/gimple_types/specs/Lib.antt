pub mod Tables
pub mod Verdicts
pub mod Items
pub mod Seen
pub mod Addresses
pub mod Counted
