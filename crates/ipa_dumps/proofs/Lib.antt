pub mod Sizes
pub mod Lines
pub mod ClassLines
pub mod CpLines
