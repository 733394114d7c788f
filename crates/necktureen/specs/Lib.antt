pub mod Search
pub mod Told
pub mod Examples
