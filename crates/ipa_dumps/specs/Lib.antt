pub mod IndirectCalls
pub mod Dumps
pub mod Classes
pub mod Groups
pub mod ValueTexts
pub mod CpTexts
