pub mod Relations
pub mod Coarsest
pub mod Interned
pub mod Named
pub mod Stages
pub mod Splitting
