pub mod Composed
pub mod FaultLaws
pub mod CanonTokens
pub mod CanonLexes
pub mod CanonSpelled
pub mod Spelled
pub mod Laws
pub mod SizeLaws
