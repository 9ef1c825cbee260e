pub mod MadeLaws
pub mod ReplacingLaws
