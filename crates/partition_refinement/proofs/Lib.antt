pub mod Lists
pub mod Noting
pub mod FirstLemmas
pub mod Staging
pub mod Ending
pub mod Members
pub mod Regarding
pub mod Steps
