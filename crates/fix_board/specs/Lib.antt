pub mod Board
pub mod Edges
pub mod Events
pub mod Pieces
pub mod Fork
