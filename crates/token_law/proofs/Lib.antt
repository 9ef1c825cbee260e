pub mod ReadsExactly
pub mod Many
pub mod Leaves
pub mod Turns
pub mod Lists
