pub mod Search
pub mod Examples
pub mod Inner
