pub mod Tally
pub mod Change
pub mod Kept
pub mod Examples
pub mod Inner
