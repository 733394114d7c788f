pub mod Digits
pub mod Lengths
pub mod Pasted
pub mod Fields
