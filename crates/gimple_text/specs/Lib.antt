pub mod Parse
pub mod Canon
pub mod CanonLaws
