pub mod Lexing
pub mod Front
pub mod Spots
pub mod Next
