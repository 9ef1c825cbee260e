pub mod Reading
pub mod Languages
