pub mod Areas
pub mod Back
pub mod Heads
pub mod Lent
pub mod Parts
pub mod Body
