pub mod Whole
pub mod Piece
pub mod Examples
pub mod Inner
