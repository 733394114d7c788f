pub mod Area
pub mod Bytes
pub mod Entries
pub mod Head
pub mod Examples
