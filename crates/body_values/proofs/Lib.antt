pub mod Held
pub mod Operands
pub mod Stmts
pub mod Taken
pub mod Items
pub mod Entered
pub mod Points
pub mod ByChanges
pub mod Always
pub mod Written
pub mod Refined
pub mod Settled
pub mod GivenFirst
pub mod FoundWhereLaws
pub mod TopFit
pub mod TopMet
pub mod Lookups
mod Sharing
