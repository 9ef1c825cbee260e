pub mod PlaceLemmas
pub mod LengthLemmas
