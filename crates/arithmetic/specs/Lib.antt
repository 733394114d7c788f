pub mod Powers
pub mod Advance
pub mod Inner
