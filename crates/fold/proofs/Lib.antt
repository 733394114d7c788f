pub mod Decided
pub mod Flags
