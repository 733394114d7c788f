pub mod Bools
pub mod Entries
pub mod InOrder
